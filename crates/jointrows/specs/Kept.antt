-- What the passes over the formula rows of two records put.
use Rattle.std.specs.Prelude.{ℕ, zero, suc, ◌+◌, ◌-◌, ◌≤◌, ◌≡◌, true, List, [], ◌∷◌, ◌++◌, leb, ltb, ℤ, pos, length, if◌then◌else◌}
use Rattle.stab.specs.Basic.{below}
use Rattle.stab.specs.Formula.{Row, formula_rows}
use Rattle.stab.specs.Node.{Tableau}
use Rattle.stab.specs.Text.{padded}
use Rattle.formula.specs.Facts.{AllFormed}
use Rattle.tidied.specs.Tidied.{through, columns, folding_of, new_of}
use Rattle.folds.specs.Folds.{AllSmall}
use Rattle.joint.specs.Joint.{of_first, of_second, moved_rows, joint_schema, untidied}

-- where row r of one record goes: its t schema rows stand from `base` on, its proof rows from `after` on
unfoldable pub placed : ℕ → ℕ → ℕ → ℕ → ℕ
placed t base after r = if ltb r t then base + r else after + (r - t)

-- the numbers of rows 0 .. n - 1
unfoldable pub numbered : (ℕ → ℕ) → ℕ → List ℕ
numbered new zero = []
numbered new (suc n) = numbered new n ++ new n ∷ []

-- a table has the number of each row
abbrev pub Gives : List ℕ → (ℕ → ℕ) → Type 0
Gives numbers new = numbers ≡ numbered new 1024

-- the or of two rows
unfoldable pub or_of : ℤ → ℤ → Row
or_of a b = record { kind = pos 5; a = a; b = b; c = pos 0 }

-- two schemata, each under its new numbers, and the or of their roots
unfoldable pub both_schemata : (ℕ → ℕ) → List ℤ → ℕ → ℤ → (ℕ → ℕ) → List ℤ → ℕ → ℤ → List ℤ
both_schemata f s n a g t m b = moved_rows f s n ++ moved_rows g t m ++ columns (or_of (through f a) (through g b))

-- the proof rows of two records, each under its new numbers
unfoldable pub both_proofs : (ℕ → ℕ) → List ℤ → ℕ → (ℕ → ℕ) → List ℤ → ℕ → List ℤ
both_proofs f s n g t m = moved_rows f s n ++ moved_rows g t m

-- a record's rows can be joined: they are few and well formed, and its root is one of the schema's
pub record Joinable (A : Tableau) : Type 0 where
  pub few : A.schema_rows + A.proof_rows ≤ 1024
  pub formed : AllFormed (formula_rows A.schema A.schema_rows A.proof) (A.schema_rows + A.proof_rows)
  pub root : below A.schema_rows A.root ≡ true

-- how many proof rows stay, the new numbers of the rows of both records, and the two tables, which were schema₀ and proof₀; proof rows that
-- are too many are not put
pub record RowsFilled (A B : Tableau) (schema₀ proof₀ : List ℤ) (count : ℕ) (first second : List ℕ) (schema proof : List ℤ) : Type 0 where
  pub counted : count ≡ (folding_of (untidied A B)).count
  pub first_numbers : Gives first (λ r. new_of (untidied A B) (of_first A B r))
  pub first_small : AllSmall first
  pub second_numbers : Gives second (λ r. new_of (untidied A B) (of_second A B r))
  pub second_small : AllSmall second
  pub schema_table : schema ≡ padded (pos 0) (length schema₀) (joint_schema A B)
  pub proof_table : proof ≡ padded (pos 0) (length proof₀) (if leb (A.schema_rows + B.schema_rows + 1 + count) 1024 then (folding_of (untidied A B)).table else [])
