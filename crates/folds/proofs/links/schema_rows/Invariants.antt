use Rattle.stab.specs.Formula.{formula_rows}
use Rattle.repeats.specs.Places.{Linked}
use Rattle.folds.proofs.links.schema_rows.Given as goal

abbrev pub invariant-loop-r : goal.invariant-loop-r
invariant-loop-r l = Linked (formula_rows l.schema l.s l.table) l.next l.heads l.r
