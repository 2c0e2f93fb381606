use Rattle.std.proofs.Common.{arith}
use Rattle.folds.proofs.Steps.{counted}
use Rattle.folds.proofs.each.Goals as goal

pub step-count-requires-clause-k_bound : goal.step-count-requires-clause-k_bound
step-count-requires-clause-k_bound c =
    let a = c.args in
    let few = (counted a.schema.now a.s a.proof.now c.loop-k.k).few in
    grind (arith, c.requires.p_bound, c.loop-k.invariant.counted, few)
