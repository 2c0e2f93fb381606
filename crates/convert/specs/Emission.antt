-- The plain rows as they are written, one wide row after the other, and what is kept of each wide row.
use Rattle.std.specs.Prelude.{ℕ, ◌+◌, ◌-◌, ◌*◌, ◌%◌, ◌<◌, ◌≤◌, ◌≡◌, true, List, [], ◌∷◌, ◌++◌, eqb, leb, ℤ, pos, length, get_or, set, if◌then◌else◌}
use Rattle.std.proofs.lemmas.List.Edits.{sets}
use Rattle.stab.specs.Basic.{◌otherwise◌}
use Rattle.stab.specs.Formula.{Row, row_at}
use Rattle.stab.specs.Check.{at_unless, whole_unless, holds}
use Rattle.stab.specs.declared.Refusal.TheVariants.{TableTooShort, TooMany}
use Rattle.stab.specs.Finding.{Finding}
use Rattle.wide.specs.WideFormula.{wide_kind_of, wide_formed}
use Rattle.wide.specs.Plain.{rows_given, start_of, Image, image, row, columns}
use Rattle.wide.specs.Convert.{WideSchema, wide_refusal}
use Rattle.convert.specs.declared.rows.Stands.{Stands}

-- the refusals before 23
unfoldable pub input_refusal : WideSchema → Finding
input_refusal W =
    at_unless (leb 4096 W.room) TableTooShort 0 otherwise
    whole_unless (holds W.schema.table 4 W.schema.rows) TableTooShort otherwise
    whole_unless (leb W.schema.rows 1024) TooMany otherwise
    wide_refusal W.schema

-- ---- what a wide row gives

-- kinds 0 to 7 come in pairs: the other of the two
unfoldable pub paired : ℕ → ℕ
paired k = if eqb (k % 2) 0 then k + 1 else k - 1

-- a wide row's image, as it is handed about
unfoldable pub stands_of : Image → Stands
stands_of m = record { own = m.own; negated = m.negated }

-- what stands for a not: its part's negation, and its part
unfoldable pub swapped : Stands → Stands
swapped m = record { own = m.negated; negated = m.own }

-- a row with two parts, of the kind with that number
unfoldable pub parts_row : ℕ → ℕ → ℕ → Row
parts_row k f g = row k (pos f) (pos g) (pos 0)

-- the same of two rows, and of their negations under another kind
unfoldable pub both_rows : ℕ → ℕ → Stands → Stands → List Row
both_rows k l m n = parts_row k m.own n.own ∷ parts_row l m.negated n.negated ∷ []

-- two conjunctions and their or, from row s on, and the same with the right side negated
unfoldable pub six_rows : ℕ → Stands → Stands → List Row
six_rows s m n = (both_rows 4 4 m n ++ parts_row 5 s (s + 1) ∷ []) ++ both_rows 4 4 m (swapped n) ++ parts_row 5 (s + 3) (s + 3 + 1) ∷ []

-- ---- the tables

-- a table with rows written into it, from row s on
unfoldable pub written : List ℤ → ℕ → List Row → List ℤ
written t s ws = sets t (4 * s) (columns ws)

-- a table that keeps two numbers for each wide row, with those of row r
unfoldable pub image_kept : List ℕ → ℕ → Stands → List ℕ
image_kept images r m = set (set images (2 * r) m.own) (2 * r + 1) m.negated

-- the two numbers that are kept for row r
unfoldable pub image_at : List ℕ → ℕ → Stands
image_at images r = record { own = get_or images (2 * r) 0; negated = get_or images (2 * r + 1) 0 }

-- the table keeps the images of the first n wide rows, which are plain rows
pub record Imaged (rows : ℕ → Row) (images : List ℕ) (n : ℕ) : Type 0 where
  pub known : (r : ℕ) → r < n → image_at images r ≡ stands_of (image rows r)
  pub own : (r : ℕ) → r < n → (image rows r).own < 1024
  pub negated : (r : ℕ) → r < n → (image rows r).negated < 1024

-- n wide rows are well formed, and there is room for the plain rows that they give
pub record Emits (wide : List ℤ) (n : ℕ) (plain : List ℤ) : Type 0 where
  pub few : n ≤ 1024
  pub formed : (r : ℕ) → r < n → wide_formed (row_at wide) r ≡ true
  pub limit : start_of (row_at wide) n ≤ 1024
  pub room : 4096 ≤ length plain

-- row r is well formed and of the kind with number k, and there is room for what it gives from row s on
pub record Given (wide : List ℤ) (r k s : ℕ) (plain : List ℤ) : Type 0 where
  pub few : r < 1024
  pub formed : wide_formed (row_at wide) r ≡ true
  pub kind : (row_at wide r).kind ≡ pos k
  pub start : s ≡ start_of (row_at wide) r
  pub limit : s + rows_given (wide_kind_of (pos k)) ≤ 1024
  pub room : 4096 ≤ length plain
