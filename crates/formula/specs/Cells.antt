-- The columns of a row, read once.
use Rattle.stab.specs.Formula.{Row}
use Rattle.formula.specs.declared.cells.Cells.{Cells}

-- the row that they are of
unfoldable pub row_of : Cells → Row
row_of w = record { kind = w.kind; a = w.a; b = w.b; c = w.c }
