use Rattle.std.proofs.Common.{◌≡◌, ◌+◌, ◌-◌, ◌≤◌, drop, length}
use Rattle.line.specs.LineParts.{line_length}
use Rattle.line.proofs.end_of.Given as goal

-- the first byte 10 from `from` on is the first from i on
abbrev pub invariant-loop-i : goal.invariant-loop-i
invariant-loop-i l = record {
  same : l.i + line_length (drop l.i l.text) ≡ l.from + line_length (drop l.from l.text);
  within : l.i ≤ length l.text;
}

abbrev pub decreases-loop-i : goal.decreases-loop-i
decreases-loop-i l = length l.text - l.i
