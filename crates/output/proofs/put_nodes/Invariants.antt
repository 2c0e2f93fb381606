-- The node rows gone through are written, and end at `at`; the next set starts at `start`; the other rows are left.
use Rattle.std.proofs.Common.{◌≡◌, ◌*◌, ◌≤◌, length, take, drop, pos}
use Rattle.std.specs.Slice.Iter.{chunks_exact_rest, chunks_exact_size}
use Rattle.stab.specs.Node.{set_start}
use Rattle.stab.specs.Write.{node_lines}
use Rattle.digits.specs.Over.{over}
use Rattle.output.proofs.put_nodes.Given as goal

abbrev pub invariant-loop-row : goal.invariant-loop-row
invariant-loop-row l = record {
  can_next : (goal.iterator-loop-row).can_next l.row-iterator;
  finite : (goal.iterator-loop-row).is_finite l.row-iterator;
  within : length l.yielded ≤ l.count;
  written : l.out ≡ over (node_lines l.nodes l.members 0 (length l.yielded)) l.initial.out;
  ends : l.at ≡ length (node_lines l.nodes l.members 0 (length l.yielded));
  starts : set_start l.nodes (length l.yielded) ≡ pos l.start;
  width : chunks_exact_size l.row-iterator ≡ 9;
  left : chunks_exact_rest l.row-iterator ≡ drop (9 * length l.yielded) (take (9 * l.count) l.nodes);
}
