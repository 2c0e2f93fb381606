-- The model check in parts: the refusals before the formula rows, and those after the pairs.
use Rattle.std.specs.Prelude.{ℕ, ◌+◌, ◌≤◌, ◌<◌, List, leb, ℤ, pos}
use Rattle.std.specs.Int.Signed.{le_z}
use Rattle.stab.specs.Basic.{◌and◌, nat, ◌otherwise◌}
use Rattle.stab.specs.Formula.{Schema, row_at, schema_formula}
use Rattle.stab.specs.Meaning.{truth}
use Rattle.stab.specs.Model.{listed}
use Rattle.stab.specs.Check.{whole_unless, holds}
use Rattle.stab.specs.declared.Refusal.TheVariants.{TableTooShort, TooMany, Width, False}
use Rattle.stab.specs.Finding.{Finding}
use Rattle.formula.specs.Facts.{AllFormed}
use Rattle.pairs.specs.Pairs.{Sorted}

-- 2 and 5
unfoldable pub tables_refusal : List ℤ → ℕ → List ℤ → ℕ → Finding
tables_refusal schema s pairs k =
    whole_unless (holds schema 4 s and holds pairs 2 k) TableTooShort otherwise
    whole_unless (leb s 1024 and leb k 4096) TooMany

-- 19 and 20
unfoldable pub truth_refusal : Schema → ℤ → List ℤ → ℕ → Finding
truth_refusal S n pairs k =
    whole_unless (le_z S.least n and le_z n (pos 9999)) Width otherwise
    whole_unless (truth (listed pairs k) (nat n) (schema_formula S)) False

-- what holds of a record that has passed up to the pairs
pub record RootReadable (S : Schema) (pairs : List ℤ) (k : ℕ) : Type 0 where
  pub row : nat S.root < 1024
  pub formed : AllFormed (row_at S.table) (nat S.root + 1)
  pub few : k ≤ 4096
  pub sorted : Sorted pairs k
