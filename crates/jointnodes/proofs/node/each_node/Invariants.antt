use Rattle.std.proofs.Common.{◌+◌, ◌*◌, ◌≤◌}
use Rattle.tidied.specs.Tidied.{new_number}
use Rattle.jointnodes.specs.Kept.{Puts}
use Rattle.jointnodes.proofs.node.each_node.Given as goal

abbrev pub invariant-loop-j : goal.invariant-loop-j
invariant-loop-j l = record {
  puts : Puts l.nodes l.members (new_number 0 l.numbers) l.d l.m l.j l.n l.initial.out_nodes l.initial.out_members l.out_nodes l.out_members;
  few : l.n ≤ 1024 * (l.d + l.j);
}
