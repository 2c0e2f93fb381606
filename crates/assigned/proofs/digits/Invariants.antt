use Rattle.std.proofs.Common.{◌≡◌, ◌+◌, length, take}
use Rattle.stab.specs.Meaning.{signed}
use Rattle.assigned.specs.Words.{digit, words}
use Rattle.assigned.proofs.digits.Given as goal

abbrev pub invariant-loop-k : goal.invariant-loop-k
invariant-loop-k l = record {
  long : length l.out ≡ 64;
  front : take l.k l.out ≡ words (λ j. signed l.held (digit (l.m + j) l.b)) l.k;
}
