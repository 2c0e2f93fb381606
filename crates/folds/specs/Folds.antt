-- What the pass that folds proof rows keeps.
use Rattle.std.specs.Prelude.{ℕ, ◌+◌, ◌*◌, ◌≤◌, ◌≡◌, List, ℤ, length, get_or, take}
use Rattle.std.proofs.Math.Option.{Option, none, some}
use Rattle.stab.specs.Formula.{formula_rows}
use Rattle.stab.specs.Text.{padded}
use Rattle.repeats.specs.Places.{Linked}
use Rattle.tidied.specs.Tidied.{Folding}

-- the row that was found, or n where none was
unfoldable pub row_or : ℕ → Option ℕ → ℕ
row_or n none = n
row_or n (some q) = q

-- new numbers are numbers of rows
abbrev pub AllSmall : List ℕ → Type 0
AllSmall numbers = (i : ℕ) → get_or numbers i 0 ≤ 4096

-- the tables after some of the proof rows: the rows that stay stand in front of the result table, and all rows that stay are linked
pub record Folds (schema : List ℤ) (s : ℕ) (F : Folding) (count : ℕ) (out : List ℤ) (numbers next heads : List ℕ) : Type 0 where
  pub counted : count ≡ F.count
  pub held : take (4 * count) out ≡ F.table
  pub known : numbers ≡ padded 0 (length numbers) F.numbers
  pub small : AllSmall numbers
  pub linked : Linked (formula_rows schema s out) next heads (s + count)
