use Rattle.nextsmall.proofs.RowPlaces.{Later}
use Rattle.nextsmall.proofs.rows.place.Given as goal

abbrev pub invariant-loop-d : goal.invariant-loop-d
invariant-loop-d l = Later l.table l.r l.d
