-- The images of well-formed wide rows, and the rows that stand there.
use Prim.Native.Nat.{ℕ, zero, suc, ◌+◌, ◌<◌}
use native.Mathlib.Omega.{arith}
use mathlib.Core.Path.{◌≡◌, refl, sym, ◌∙◌, ap, subst}
use mathlib.Core.Bool.{Bool, true, false, not}
use lib.ListN.{get_or}
use Rattle.stab.specs.Basic.{nat, below}
use Rattle.stab.specs.Formula.{Row, Op, conj, disj, constant, literal, junction, iteration}
use Rattle.stab.specs.Meaning.{signed}
use Rattle.stab.proofs.Bools.{and_left}
use Rattle.stab.proofs.Trees.{below_nat}
use Rattle.wide.specs.WideFormula.{WideKind, plain, negation, implication, equivalence, wide_kind_of, wide_formed_as, wide_formed}
use Rattle.wide.specs.Plain.{rows_given, start_of, Image, image_as, image_n, image, constant_row, literal_row, join_row, iter_row, other, three_rows, given_as, given, plain_rows}
use Rattle.wide.proofs.Tables.{blank}
use Rattle.wide.proofs.Places.{start_next, start_rises, given_at}
use Rattle.wide.proofs.WideTrees.{wide_formed_as_lem}
use Rattle.wide.proofs.PlainForms.{turned}

-- the row that stands for a wide row (true), for its negation (false)
unfoldable pub side : Bool → Image → ℕ
side true m = m.own
side false m = m.negated

-- the own row and the negation's, where a wide row gives two
unfoldable pub of_two : Bool → ℕ → ℕ
of_two true s = s
of_two false s = s + 1

-- the first of the own three rows and of the negation's, where it gives six
unfoldable pub of_six : Bool → ℕ → ℕ
of_six true s = s
of_six false s = s + 3

side_two : (v : Bool) (s : ℕ) → side v (record { own = s; negated = s + 1 }) ≡ of_two v s
unfolding side of_two
side_two true s = refl
side_two false s = refl

side_six : (v : Bool) (s : ℕ) → side v (record { own = s + 2; negated = s + 5 }) ≡ of_six v s + 2
unfolding side of_six
side_six true s = refl
side_six false s = omega arith

side_not : (v : Bool) (m : Image) → side v (record { own = m.negated; negated = m.own }) ≡ side (not v) m
unfolding side
side_not true m = refl
side_not false m = refl

two_below : (v : Bool) (s : ℕ) → of_two v s < s + 2
unfolding of_two
two_below true s = omega arith
two_below false s = omega arith

six_below : (v : Bool) (s : ℕ) → of_six v s + 2 < s + 6
unfolding of_six
six_below true s = omega arith
six_below false s = omega arith

module _ (rows : ℕ → Row) (n : ℕ) (formed : (r : ℕ) → r < n → wide_formed rows r ≡ true) where
  -- a not points to a smaller row
  not_below : (r : ℕ) → r < n → wide_kind_of (rows r).kind ≡ negation → below r (rows r).a ≡ true
  unfolding wide_formed_as
  not_below r l e = and_left _ _ (wide_formed_as_lem rows r negation e (formed r l))

  same_as_lem : (r k l : ℕ) (K : WideKind) → wide_kind_of (rows r).kind ≡ K → r < n → (nat (rows r).a < r → image_n rows k (nat (rows r).a) ≡ image_n rows l (nat (rows r).a))
      → image_as (start_of rows r) K (image_n rows k (nat (rows r).a)) ≡ image_as (start_of rows r) K (image_n rows l (nat (rows r).a))
  unfolding image_as
  same_as_lem r k l (plain x) e m h = refl
  same_as_lem r k l negation e m h = ap (image_as (start_of rows r) negation) (h (below_nat r (rows r).a (not_below r m e)))
  same_as_lem r k l implication e m h = refl
  same_as_lem r k l (equivalence v) e m h = refl

  -- more steps than the row's number make no difference
  image_n_same : (k l r : ℕ) → r < k → r < l → r < n → image_n rows k r ≡ image_n rows l r
  unfolding image_n
  image_n_same zero l r p q m = absurd (omega arith)
  image_n_same (suc k) zero r p q m = absurd (omega arith)
  image_n_same (suc k) (suc l) r p q m =
      same_as_lem r k l (wide_kind_of (rows r).kind) refl m (λ h. image_n_same k l (nat (rows r).a) (omega arith) (omega arith) (omega arith))

  module _ (r : ℕ) (l : r < n) where
    pub image_is : (K : WideKind) → wide_kind_of (rows r).kind ≡ K → image rows r ≡ image_as (start_of rows r) K (image rows (nat (rows r).a))
    unfolding image image_n
    image_is K e =
        ap (λ (k : WideKind). image_as (start_of rows r) k (image_n rows r (nat (rows r).a))) e
        ∙ same_as_lem r r (suc (nat (rows r).a)) K e l (λ h. image_n_same r (suc (nat (rows r).a)) (nat (rows r).a) h (omega arith) (omega arith))

    pub image_plain : (v : Bool) (k : _) → wide_kind_of (rows r).kind ≡ plain k → side v (image rows r) ≡ of_two v (start_of rows r)
    unfolding image_as
    image_plain v k e = ap (side v) (image_is (plain k) e) ∙ side_two v (start_of rows r)

    pub image_implication : (v : Bool) → wide_kind_of (rows r).kind ≡ implication → side v (image rows r) ≡ of_two v (start_of rows r)
    unfolding image_as
    image_implication v e = ap (side v) (image_is implication e) ∙ side_two v (start_of rows r)

    pub image_equivalence : (v w : Bool) → wide_kind_of (rows r).kind ≡ equivalence w → side v (image rows r) ≡ of_six v (start_of rows r) + 2
    unfolding image_as
    image_equivalence v w e = ap (side v) (image_is (equivalence w) e) ∙ side_six v (start_of rows r)

    pub image_negation : (v : Bool) → wide_kind_of (rows r).kind ≡ negation → side v (image rows r) ≡ side (not v) (image rows (nat (rows r).a))
    unfolding image_as
    image_negation v e = ap (side v) (image_is negation e) ∙ side_not v (image rows (nat (rows r).a))

  below_as : (v : Bool) (r : ℕ) (K : WideKind) → wide_kind_of (rows r).kind ≡ K → r < n → ((u : Bool) → nat (rows r).a < r → side u (image rows (nat (rows r).a)) < start_of rows (suc (nat (rows r).a)))
      → side v (image rows r) < start_of rows r + rows_given K
  unfolding rows_given
  below_as v r (plain k) e l h = omega (arith, image_plain r l v k e, two_below v (start_of rows r))
  below_as v r negation e l h =
      let p = below_nat r (rows r).a (not_below r l e) in
      omega (arith, image_negation r l v e, h (not v) p, start_rises rows (suc (nat (rows r).a)) r p)
  below_as v r implication e l h = omega (arith, image_implication r l v e, two_below v (start_of rows r))
  below_as v r (equivalence w) e l h = omega (arith, image_equivalence r l v w e, six_below v (start_of rows r))

  -- a row's image is among the rows that it and those before it give
  pub image_below : (v : Bool) (r : ℕ) → r < n → side v (image rows r) < start_of rows (suc r)
  image_below v r l = go (suc r) v r (omega arith) l
    where
      go : (k : ℕ) (v : Bool) (r : ℕ) → r < k → r < n → side v (image rows r) < start_of rows (suc r)
      go zero v r p l = absurd (omega arith)
      go (suc k) v r p l =
          omega (arith, start_next rows r, below_as v r (wide_kind_of (rows r).kind) refl l (λ u h. go k u (nat (rows r).a) (omega arith) (omega arith)))

-- ---- what stands there, in any table that has the plain rows

abbrev pub Stand : (ℕ → Row) → ℕ → (ℕ → Row) → Type 0
Stand rows n plains = (p : ℕ) → p < start_of rows n → plains p ≡ get_or (plain_rows rows n) p blank

-- the images of what columns a and b point to
abbrev pub left_of : (ℕ → Row) → ℕ → Image
left_of rows r = image rows (nat (rows r).a)

abbrev pub right_of : (ℕ → Row) → ℕ → Image
right_of rows r = image rows (nat (rows r).b)

module _ (rows : ℕ → Row) (n : ℕ) (plains : ℕ → Row) (stand : Stand rows n plains) (r : ℕ) (l : r < n) where
  stands : (K : WideKind) → wide_kind_of (rows r).kind ≡ K → (p k : ℕ) → p ≡ start_of rows r + k → k < rows_given K → plains p ≡ get_or (given_as (start_of rows r) (rows r) K (left_of rows r) (right_of rows r)) k blank
  unfolding given
  stands K e p k q h =
      let h' : k < rows_given (wide_kind_of (rows r).kind) = subst (λ (K' : WideKind). k < rows_given K') (sym e) h in
      stand p (omega (arith, start_next rows r, start_rises rows (suc r) n l))
      ∙ ap (λ (m : ℕ). get_or (plain_rows rows n) m blank) q
      ∙ given_at rows n r k l h'
      ∙ ap (λ (K' : WideKind). get_or (given_as (start_of rows r) (rows r) K' (left_of rows r) (right_of rows r)) k blank) e

  pub constant_stands : (v w : Bool) → wide_kind_of (rows r).kind ≡ plain (constant w) → plains (of_two v (start_of rows r)) ≡ constant_row (signed v w)
  unfolding given_as of_two signed rows_given
  constant_stands true w e = stands (plain (constant w)) e _ 0 (omega arith) (omega arith)
  constant_stands false w e = stands (plain (constant w)) e _ 1 refl (omega arith)

  pub literal_stands : (v w : Bool) → wide_kind_of (rows r).kind ≡ plain (literal w) → plains (of_two v (start_of rows r)) ≡ literal_row (signed v w) (rows r)
  unfolding given_as of_two signed rows_given
  literal_stands true w e = stands (plain (literal w)) e _ 0 (omega arith) (omega arith)
  literal_stands false w e = stands (plain (literal w)) e _ 1 refl (omega arith)

  pub junction_stands : (v : Bool) (o : Op) → wide_kind_of (rows r).kind ≡ plain (junction o) → plains (of_two v (start_of rows r)) ≡ join_row (turned v o) (side v (left_of rows r)) (side v (right_of rows r))
  unfolding given_as of_two turned side rows_given
  junction_stands true o e = stands (plain (junction o)) e _ 0 (omega arith) (omega arith)
  junction_stands false o e = stands (plain (junction o)) e _ 1 refl (omega arith)

  pub iteration_stands : (v : Bool) (o : Op) → wide_kind_of (rows r).kind ≡ plain (iteration o) → plains (of_two v (start_of rows r)) ≡ iter_row (turned v o) (side v (left_of rows r)) (rows r).b (rows r).c
  unfolding given_as of_two turned side rows_given
  iteration_stands true o e = stands (plain (iteration o)) e _ 0 (omega arith) (omega arith)
  iteration_stands false o e = stands (plain (iteration o)) e _ 1 refl (omega arith)

  pub implication_stands : (v : Bool) → wide_kind_of (rows r).kind ≡ implication → plains (of_two v (start_of rows r)) ≡ join_row (turned v disj) (side (not v) (left_of rows r)) (side v (right_of rows r))
  unfolding given_as of_two turned other side rows_given
  implication_stands true e = stands implication e _ 0 (omega arith) (omega arith)
  implication_stands false e = stands implication e _ 1 refl (omega arith)

  -- the three rows of an equivalence or exclusive or, and of its negation
  pub both_stand : (v w : Bool) → wide_kind_of (rows r).kind ≡ equivalence w → plains (of_six v (start_of rows r)) ≡ join_row conj (side true (left_of rows r)) (side (signed v w) (right_of rows r))
  unfolding given_as three_rows of_six signed side rows_given
  both_stand true true e = stands (equivalence true) e _ 0 (omega arith) (omega arith)
  both_stand true false e = stands (equivalence false) e _ 0 (omega arith) (omega arith)
  both_stand false true e = stands (equivalence true) e _ 3 refl (omega arith)
  both_stand false false e = stands (equivalence false) e _ 3 refl (omega arith)

  pub neither_stands : (v w : Bool) → wide_kind_of (rows r).kind ≡ equivalence w → plains (of_six v (start_of rows r) + 1) ≡ join_row conj (side false (left_of rows r)) (side (not (signed v w)) (right_of rows r))
  unfolding given_as three_rows of_six signed side rows_given
  neither_stands true true e = stands (equivalence true) e _ 1 refl (omega arith)
  neither_stands true false e = stands (equivalence false) e _ 1 refl (omega arith)
  neither_stands false true e = stands (equivalence true) e _ 4 (omega arith) (omega arith)
  neither_stands false false e = stands (equivalence false) e _ 4 (omega arith) (omega arith)

  pub or_stands : (v w : Bool) → wide_kind_of (rows r).kind ≡ equivalence w → plains (of_six v (start_of rows r) + 2) ≡ join_row disj (of_six v (start_of rows r)) (of_six v (start_of rows r) + 1)
  unfolding given_as three_rows of_six signed rows_given
  or_stands true true e = stands (equivalence true) e _ 2 refl (omega arith)
  or_stands true false e = stands (equivalence false) e _ 2 refl (omega arith)
  or_stands false true e = stands (equivalence true) e _ 5 (omega arith) (omega arith)
  or_stands false false e = stands (equivalence false) e _ 5 (omega arith) (omega arith)
