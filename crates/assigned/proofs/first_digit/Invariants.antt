use Rattle.std.proofs.Common.{◌≡◌, ℕ, ◌<◌, false}
use Rattle.assigned.specs.Words.{digit_of}
use Rattle.assigned.proofs.first_digit.Given as goal

abbrev pub invariant-loop-j : goal.invariant-loop-j
invariant-loop-j l = (i : ℕ) → i < l.j → digit_of l.ws i ≡ false
