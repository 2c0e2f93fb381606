use Rattle.std.proofs.Common.{arith}
use Rattle.std.proofs.lemmas.Grind.{common_steps}
use Rattle.signed.specs.Numbers.{cleared}
use Rattle.signed.proofs.clear.Goals as goal

pub returns : goal.returns
unfolding cleared
returns c = let zeros = c.fill.ensures.after (λ y e. e) in grind (arith, common_steps, zeros)
