-- Rows written twice.
use Rattle.std.specs.Prelude.{ℕ, Bool, leb}
use Rattle.stab.specs.Basic.{◌and◌}
use Rattle.stab.specs.Formula.{Row}
use Rattle.stab.specs.Check.{stands_before}

-- row r is no row before `from`, and repeats an earlier one
unfoldable pub repeated : (ℕ → Row) → ℕ → ℕ → Bool
repeated rows from r = leb from r and stands_before rows r (rows r)
