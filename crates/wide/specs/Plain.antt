-- 02, No. 1: the plain rows that a table of wide rows gives.
use Rattle.std.specs.Prelude.{ℕ, zero, suc, ◌+◌, Bool, true, false, not, List, [], ◌∷◌, ◌++◌, ℤ, pos}
use Rattle.stab.specs.Basic.{nat}
use Rattle.stab.specs.Formula.{Row, Op, conj, disj, unknown, constant, literal, junction, iteration}
use Rattle.wide.specs.WideFormula.{WideKind, plain, negation, implication, equivalence, wide_kind_of}

-- ---- where they stand: "in source order"

-- "A source row gives one row for itself and one for its negation; kinds 10 and 11 give three and three; kind 8 gives none."
unfoldable pub rows_given : WideKind → ℕ
rows_given (plain k) = 2
rows_given negation = 0
rows_given implication = 2
rows_given (equivalence v) = 6

-- how many plain rows the first r wide rows give: the first row that row r gives, if it gives one
unfoldable pub start_of : (ℕ → Row) → ℕ → ℕ
start_of rows zero = 0
start_of rows (suc r) = start_of rows r + rows_given (wide_kind_of (rows r).kind)

-- the plain row that stands for a wide row, and the one that stands for its negation
pub record Image : Type 0 where
  pub own : ℕ
  pub negated : ℕ

-- from its first plain row on: "a row's own before its negation's". "Three rows are two conjunctions and their or", so the or is the third
unfoldable pub image_as : ℕ → WideKind → Image → Image
image_as s (plain k) part = record { own = s; negated = s + 1 }
image_as s implication part = record { own = s; negated = s + 1 }
image_as s (equivalence v) part = record { own = s + 2; negated = s + 5 }
-- a not's own row is its part's negation, and its negation its part's own row
image_as s negation part = record { own = part.negated; negated = part.own }

-- the image of row r, for k > r
unfoldable pub image_n : (ℕ → Row) → ℕ → ℕ → Image
image_n rows zero r = record { own = 0; negated = 0 }
image_n rows (suc k) r = image_as (start_of rows r) (wide_kind_of (rows r).kind) (image_n rows k (nat (rows r).a))

unfoldable pub image : (ℕ → Row) → ℕ → Image
image rows r = image_n rows (suc r) r

-- ---- the rows themselves

unfoldable pub row : ℕ → ℤ → ℤ → ℤ → Row
row kind a b c = record { kind = pos kind; a = a; b = b; c = c }

-- true is row kind 0, false 1
unfoldable pub constant_row : Bool → Row
constant_row true = row 0 (pos 0) (pos 0) (pos 0)
constant_row false = row 1 (pos 0) (pos 0) (pos 0)

unfoldable pub literal_row : Bool → Row → Row
literal_row true w = row 2 w.a w.b w.c
literal_row false w = row 3 w.a w.b w.c

unfoldable pub join_row : Op → ℕ → ℕ → Row
join_row conj f g = row 4 (pos f) (pos g) (pos 0)
join_row disj f g = row 5 (pos f) (pos g) (pos 0)

unfoldable pub iter_row : Op → ℕ → ℤ → ℤ → Row
iter_row conj f b c = row 6 (pos f) b c
iter_row disj f b c = row 7 (pos f) b c

unfoldable pub other : Op → Op
other conj = disj
other disj = conj

-- "two conjunctions and their or: for 10 both sides, then both negated; for 11 the left with the right negated, then the left negated
-- with the right", from row s on
unfoldable pub three_rows : Bool → ℕ → Image → Image → List Row
three_rows true s f g = join_row conj f.own g.own ∷ join_row conj f.negated g.negated ∷ join_row disj s (s + 1) ∷ []
three_rows false s f g = join_row conj f.own g.negated ∷ join_row conj f.negated g.own ∷ join_row disj s (s + 1) ∷ []

-- what a wide row gives, from row s on, by the images of what its columns a and b point to; "sides keep their order"
unfoldable pub given_as : ℕ → Row → WideKind → Image → Image → List Row
given_as s w (plain (constant v)) f g = constant_row v ∷ constant_row (not v) ∷ []
given_as s w (plain (literal v)) f g = literal_row v w ∷ literal_row (not v) w ∷ []
given_as s w (plain (junction o)) f g = join_row o f.own g.own ∷ join_row (other o) f.negated g.negated ∷ []
given_as s w (plain (iteration o)) f g = iter_row o f.own w.b w.c ∷ iter_row (other o) f.negated w.b w.c ∷ []
-- no well-formed row is of no kind
given_as s w (plain unknown) f g = constant_row false ∷ constant_row true ∷ []
given_as s w negation f g = []
given_as s w implication f g = join_row disj f.negated g.own ∷ join_row conj f.own g.negated ∷ []
-- "The negation of either is written as the other."
given_as s w (equivalence v) f g = three_rows v s f g ++ three_rows (not v) (s + 3) f g

unfoldable pub given : (ℕ → Row) → ℕ → List Row
given rows r = given_as (start_of rows r) (rows r) (wide_kind_of (rows r).kind) (image rows (nat (rows r).a)) (image rows (nat (rows r).b))

-- "They stand in source order": what the first n wide rows give
unfoldable pub plain_rows : (ℕ → Row) → ℕ → List Row
plain_rows rows zero = []
plain_rows rows (suc r) = plain_rows rows r ++ given rows r

-- rows as the numbers of a table
unfoldable pub columns : List Row → List ℤ
columns [] = []
columns (w ∷ ws) = w.kind ∷ w.a ∷ w.b ∷ w.c ∷ columns ws
