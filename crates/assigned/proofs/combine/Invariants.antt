use Rattle.assigned.proofs.Blocks.{Combined}
use Rattle.assigned.proofs.combine.Given as goal

abbrev pub invariant-loop-k : goal.invariant-loop-k
invariant-loop-k l = Combined l.any l.initial.out l.out l.ws l.k
