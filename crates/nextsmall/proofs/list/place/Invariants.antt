use Rattle.nextsmall.proofs.TablePlaces.{Placed}
use Rattle.nextsmall.proofs.list.place.Given as goal

abbrev pub invariant-loop-r : goal.invariant-loop-r
invariant-loop-r l = Placed l.table l.r l.i
