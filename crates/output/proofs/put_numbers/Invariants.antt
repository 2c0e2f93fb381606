-- The numbers gone through are written, and end at `at`.
use Rattle.std.proofs.Common.{◌≡◌, length, take}
use Rattle.digits.specs.Over.{over, spread}
use Rattle.output.proofs.put_numbers.Given as goal

abbrev pub invariant-loop-z : goal.invariant-loop-z
invariant-loop-z l = record {
  written : l.out ≡ over (spread (take l.z-index l.t)) l.initial.out;
  ends : l.at ≡ length (spread (take l.z-index l.t));
}
