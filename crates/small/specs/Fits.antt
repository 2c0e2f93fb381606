-- Tables whose every row is one that a row of its number can be.
use Rattle.std.specs.Prelude.{ℕ, ◌<◌, ℤ}
use mathlib.Core.List.{List, [], ◌∷◌, Memᴰ}
use Rattle.stab.specs.Formula.{Row, row_at}
use Rattle.small.specs.Small.{rows_for}

-- the four numbers of a row
abbrev pub columns : Row → List ℤ
columns w = w.kind ∷ w.a ∷ w.b ∷ w.c ∷ []

-- so are the first n rows
abbrev pub RowsFit : ℕ → List ℤ → Type 0
RowsFit n t = (r : ℕ) → r < n → Memᴰ (columns (row_at t r)) (rows_for r)
