use Rattle.std.proofs.Common.{sym, arith}
use Rattle.nextsmall.specs.Places.{as_row}
use Rattle.nextsmall.proofs.RowPlaces.{later_more, row_here}
use Rattle.nextsmall.proofs.rows.place.Goals as goal

pub returns-then-same : goal.returns-then-same
returns-then-same c =
    row_here _ _ _ c.count-n.result (as_row c.candidate.result) c.count-n.ensures.0 c.loop-d-test.true c.candidate.ensures (sym c.if-same.ensures)

pub loop-d-preserved : goal.loop-d-preserved
loop-d-preserved c =
    later_more _ _ _ (as_row c.candidate.result) (omega arith) c.candidate.ensures (sym c.if-same.ensures) c.loop-d.invariant
