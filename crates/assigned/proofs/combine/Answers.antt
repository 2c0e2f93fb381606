use Rattle.std.proofs.Common.{arith}
use Rattle.assigned.proofs.Blocks.{combined_start, combined_put, combined_all}
use Rattle.assigned.proofs.combine.Goals as goal

pub loop-k-init : goal.loop-k-init
loop-k-init c = combined_start _ _ _

pub loop-k-preserved : goal.loop-k-preserved
loop-k-preserved c =
    combined_put _ _ _ _ _ c.loop-k.invariant (omega arith) _ (omega arith) c.combined.ensures

pub returns : goal.returns
returns c = combined_all _ _ _ _ _ c.loop-k.invariant (omega arith) (omega arith)
