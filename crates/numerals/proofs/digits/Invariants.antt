-- What is left of the run, after the digits that were read, comes to what the whole run comes to.
use Rattle.std.proofs.Common.{◌≡◌, ◌+◌, ◌-◌, drop}
use Rattle.numerals.specs.Here.{run_length, run_value}
use Rattle.numerals.proofs.digits.Given as goal

abbrev pub invariant-loop-next : goal.invariant-loop-next
invariant-loop-next l = record {
  same_value : run_value (l.at + 4 - l.next) l.value (drop l.next l.text) ≡ run_value 4 l.first (drop l.at l.text);
  same_place : l.next + run_length (l.at + 4 - l.next) (drop l.next l.text) ≡ l.at + run_length 4 (drop l.at l.text);
}
