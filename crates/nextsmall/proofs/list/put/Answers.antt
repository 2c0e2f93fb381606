use Rattle.std.proofs.Common.{sym, ◌∙◌, arith}
use Rattle.small.specs.Fits.{columns}
use Rattle.nextsmall.specs.Places.{as_row}
use Rattle.nextsmall.proofs.TablePlaces.{put_step, put_end}
use Rattle.nextsmall.proofs.list.put.Goals as goal

pub loop-r-preserved : goal.loop-r-preserved
loop-r-preserved c =
    let l = c.loop-r in
    let step = put_step l.r c.count-k.result l.rest l.table c.put_row.new.table (columns (as_row c.candidate.result)) c.loop-r-test.true c.count-k.ensures.0 c.count-k.ensures.1
    l.invariant.fits (omega arith) c.candidate.ensures c.put_row.ensures in
    record { fits = step.0; whole = l.invariant.whole ∙ step.1 }

pub returns : goal.returns
returns c =
    let l = c.loop-r in
    sym (l.invariant.whole ∙ put_end l.r l.rest l.table c.loop-r-test.false l.invariant.fits)
