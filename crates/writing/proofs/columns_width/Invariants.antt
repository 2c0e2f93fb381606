-- The sum is what the numbers of the rows gone through take; the other rows are left.
use Rattle.std.proofs.Common.{◌≡◌, ◌*◌, ◌≤◌, length, take, drop}
use Rattle.std.specs.Slice.Iter.{chunks_exact_rest, chunks_exact_size}
use Rattle.output.specs.NodeTexts.{columns_width}
use Rattle.writing.proofs.columns_width.Given as goal

abbrev pub invariant-loop-row : goal.invariant-loop-row
invariant-loop-row l = record {
  can_next : (goal.iterator-loop-row).can_next l.row-iterator;
  finite : (goal.iterator-loop-row).is_finite l.row-iterator;
  within : length l.yielded ≤ l.count;
  summed : l.sum ≡ columns_width l.nodes (length l.yielded);
  width : chunks_exact_size l.row-iterator ≡ 9;
  left : chunks_exact_rest l.row-iterator ≡ drop (9 * length l.yielded) (take (9 * l.count) l.nodes);
}
