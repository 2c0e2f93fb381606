-- The first j nodes can be written, and the next set has to start at `start`.
use Rattle.std.proofs.Common.{◌≡◌, ◌*◌, ◌≤◌, true, pos}
use Rattle.stab.specs.Node.{set_start}
use Rattle.stab.specs.Write.{nodes_writable}
use Rattle.writing.proofs.nodes_follow.Given as goal

abbrev pub invariant-loop-j : goal.invariant-loop-j
invariant-loop-j l = record {
  writable : nodes_writable l.nodes l.j ≡ true;
  starts : set_start l.nodes l.j ≡ pos l.start;
  small : l.start ≤ 4294967296 * l.j;
}
