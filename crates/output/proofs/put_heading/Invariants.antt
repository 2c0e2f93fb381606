use Rattle.std.proofs.Common.{◌≡◌, take}
use Rattle.digits.specs.Over.{over}
use Rattle.output.proofs.put_heading.Given as goal

-- the first i bytes of the heading are written
abbrev pub invariant-loop-i : goal.invariant-loop-i
invariant-loop-i l = l.out ≡ over (take l.i l.text) l.fn.out
