-- The output is as it was in front of i and as it is to be from i on, and what is left of the number has the first i digits.
use Rattle.std.proofs.Common.{◌≡◌, ◌++◌, take, drop}
use Rattle.stab.specs.Text.{digits_n}
use Rattle.digits.specs.Over.{over}
use Rattle.digits.proofs.Decimals.{last_digits}
use Rattle.digits.proofs.put_digits.Given as goal

abbrev pub invariant-loop-i : goal.invariant-loop-i
invariant-loop-i l = record {
  written : l.out ≡ take l.i l.initial.out ++ drop l.i (over (digits_n 4 l.v) l.initial.out);
  left : last_digits l.i l.rest ≡ take l.i (digits_n 4 l.v);
}
