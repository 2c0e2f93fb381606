use Rattle.tidied.specs.Tidied.{folding}
use Rattle.folds.specs.Folds.{Folds}
use Rattle.folds.proofs.each.Given as goal

abbrev pub invariant-loop-k : goal.invariant-loop-k
invariant-loop-k l = Folds l.schema l.s (folding l.schema l.s l.proof l.k) l.count l.out l.numbers l.next l.heads
