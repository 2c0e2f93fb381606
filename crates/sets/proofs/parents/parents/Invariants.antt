use Rattle.std.proofs.Common.{◌≡◌, ℕ, ◌<◌, true}
use Rattle.branch.specs.Parents.{parent_right}
use Rattle.sets.proofs.parents.parents.Given as goal

abbrev pub invariant-loop-j : goal.invariant-loop-j
invariant-loop-j l = (a : ℕ) → a < l.j → parent_right l.nodes l.members l.root a ≡ true
