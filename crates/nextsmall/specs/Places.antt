-- Rows and tables by their places among all those that can be, and the first on the list from a place on.
use Rattle.std.specs.Prelude.{ℕ, ◌*◌, ◌<◌, ◌≤◌, ◌≡◌, Bool, true, false, ℤ, length, get_or, take, drop}
use mathlib.Core.List.{List, [], Memᴰ}
use Rattle.std.proofs.Math.Option.{Option, none, some}
use Rattle.stab.specs.Formula.{Row, row_at}
use Rattle.small.specs.Small.{on_list, rows_for, tables, filtered}
use Rattle.small.specs.Calls.{first_of}
use Rattle.small.specs.Fits.{columns, RowsFit}
use Rattle.nextsmall.specs.declared.rows.Columns.{Columns}

-- a row by its columns
abbrev pub as_row : Columns → Row
as_row w = record { kind = w.kind; a = w.a; b = w.b; c = w.c }

-- v is the place of row r of t among the rows that it can be, or their number where it is none of them
pub record RowPlace (t : List ℤ) (r v : ℕ) : Type 0 where
  pub here : v < length (rows_for r) → get_or (rows_for r) v [] ≡ columns (row_at t r)
  pub nowhere : length (rows_for r) ≤ v → Memᴰ (columns (row_at t r)) (rows_for r) → ⊥

-- v is the place of the first n rows of t among all tables of n such rows, or their number where it is none of them
pub record TablePlace (t : List ℤ) (n v : ℕ) : Type 0 where
  pub here : v < length (tables n) → get_or (tables n) v [] ≡ take (4 * n) t
  pub fits : v < length (tables n) → RowsFit n t
  pub nowhere : length (tables n) ≤ v → RowsFit n t → ⊥

-- the first table from a place on that is on the list
unfoldable pub first_from : ℕ → ℕ → Option (List ℤ)
first_from n i = first_of (filtered (on_list n) (drop i (tables n)))

-- whether there is one; it stands in the first n rows of t
abbrev pub FirstGiven : ℕ → ℕ → List ℤ → Bool → Type 0
FirstGiven n i t v = (v ≡ true → first_from n i ≡ some (take (4 * n) t)) × (v ≡ false → first_from n i ≡ none)
