use Rattle.std.proofs.Common.{◌≡◌}
use Rattle.nextsmall.specs.Places.{first_from}
use Rattle.nextsmall.proofs.list.first.Given as goal

abbrev pub invariant-loop-i : goal.invariant-loop-i
invariant-loop-i l = first_from l.n l.from ≡ first_from l.n l.i
