-- The columns of a formula row by their number.
use Rattle.std.specs.Prelude.{ℕ, zero, suc, ℤ}
use Rattle.stab.specs.Formula.{Row}

-- kind, a, b, c
unfoldable pub column : Row → ℕ → ℤ
column w zero = w.kind
column w (suc zero) = w.a
column w (suc (suc zero)) = w.b
column w (suc (suc (suc k))) = w.c
