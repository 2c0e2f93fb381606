use Rattle.std.proofs.Common.{◌≡◌, ℕ, ◌<◌, ◌≤◌, true, pos}
use Rattle.stab.specs.Node.{set_start}
use Rattle.branch.specs.Sets.{set_right}
use Rattle.sets.proofs.sets.Given as goal

abbrev pub invariant-loop-j : goal.invariant-loop-j
invariant-loop-j l = record {
  within : l.from ≤ l.m;
  start : set_start l.nodes l.j ≡ pos l.from;
  right : (a : ℕ) → a < l.j → set_right l.facts l.n l.nodes l.k l.members l.m a ≡ true;
}
