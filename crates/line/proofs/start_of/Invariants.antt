-- The invariant: the line that is asked for is that far into what is left of the text from `at` on.
use Rattle.std.proofs.Common.{length, drop, ◌≡◌, ◌≤◌, ◌+◌, ◌-◌}
use Rattle.stab.specs.Text.{lines}
use Rattle.stab.specs.LineNumber.{span_from, line_span}
use Rattle.line.proofs.start_of.Given as goal

abbrev pub invariant-loop : goal.invariant-loop
invariant-loop l = record {
  within : l.at ≤ length l.text;
  same : span_from l.at (l.k + 1 - l.counter) (lines (drop l.at l.text)) ≡ line_span l.text l.k;
}
