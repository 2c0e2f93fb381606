-- The buyer's demand 3: what an accepted tableau, and what an accepted model, says of its schema.
use Rattle.std.specs.Prelude.{ℕ, ◌<◌, ◌≡◌, false, pos, ◌≤ℤ◌}
use Rattle.stab.specs.Formula.{Schema, row_at, schema_formula}
use Rattle.stab.specs.Meaning.{Assignment, truth}
use Rattle.stab.specs.Node.{Tableau}
use Rattle.stab.specs.Check.{check, check_older}
use Rattle.stab.specs.Finding.{accept}

-- "the schema is false at every natural number n from its least value upward, however large, whichever of true and false is chosen for
-- each symbol at each whole-number index"
abbrev pub Refuted : Schema → Type 0
Refuted S = (n : ℕ) (σ : Assignment) → S.least ≤ℤ pos n → truth σ n (schema_formula S) ≡ false

-- a tableau of the same schema rows, root and least value
pub record SameSchema (T : Tableau) (S : Schema) : Type 0 where
  pub count : T.schema_rows ≡ S.rows
  pub rows : (r : ℕ) → r < S.rows → row_at T.schema r ≡ row_at S.table r
  pub same_root : T.root ≡ S.root
  pub same_least : T.least ≡ S.least

-- no tableau of it is accepted, by the check or by the older one: what an accepted model says of its schema
abbrev pub Irrefutable : Schema → Type 0
Irrefutable S =
    (T : Tableau) → SameSchema T S → (nodes links : ℕ) →
    (check T ≡ accept nodes links → ⊥) × (check_older T ≡ accept nodes links → ⊥)
