use Rattle.std.proofs.Common.{◌≡◌, ℕ, ◌<◌, get_or}
use Rattle.tidied.specs.Tidied.{new_number}
use Rattle.jointrows.specs.Kept.{placed}
use Rattle.jointrows.proofs.number.fill.Given as goal

abbrev pub invariant-loop-r : goal.invariant-loop-r
invariant-loop-r l = (k : ℕ) → k < l.r → get_or l.numbers k 0 ≡ new_number l.s l.new (placed l.t l.base l.after k)
