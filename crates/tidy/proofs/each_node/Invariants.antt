use Rattle.std.proofs.Common.{◌≤◌}
use Rattle.tidied.specs.Tidied.{new_number}
use Rattle.tidy.specs.Kept.{Tidies}
use Rattle.tidy.proofs.each_node.Given as goal

abbrev pub invariant-loop-j : goal.invariant-loop-j
invariant-loop-j l = record {
  tidies : Tidies l.nodes l.members (new_number l.s l.numbers) l.j l.m l.out_nodes l.out_members;
  few : l.m ≤ 8192;
}
