use Rattle.std.proofs.Common.{◌≡◌, ℕ, ◌<◌, true, take, drop}
use Rattle.branch.specs.Sets.{member_fits}
use Rattle.sets.proofs.list_fits.Given as goal

abbrev pub invariant-loop-i : goal.invariant-loop-i
invariant-loop-i l = (a : ℕ) → a < l.i → member_fits l.facts l.n (take l.len (drop l.start l.members)) a ≡ true
