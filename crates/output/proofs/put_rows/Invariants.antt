-- The rows gone through are written, and end at `at`; the other rows are left.
use Rattle.std.proofs.Common.{◌≡◌, ◌*◌, ◌≤◌, length, take, drop}
use Rattle.std.specs.Slice.Iter.{chunks_exact_rest, chunks_exact_size}
use Rattle.stab.specs.Write.{row_lines}
use Rattle.digits.specs.Over.{over}
use Rattle.output.proofs.put_rows.Given as goal

abbrev pub invariant-loop-row : goal.invariant-loop-row
invariant-loop-row l = record {
  can_next : (goal.iterator-loop-row).can_next l.row-iterator;
  finite : (goal.iterator-loop-row).is_finite l.row-iterator;
  within : length l.yielded ≤ l.rows;
  written : l.out ≡ over (row_lines l.w (length l.yielded) l.t) l.initial.out;
  ends : l.at ≡ length (row_lines l.w (length l.yielded) l.t);
  width : chunks_exact_size l.row-iterator ≡ l.w;
  left : chunks_exact_rest l.row-iterator ≡ drop (l.w * length l.yielded) (take (l.w * l.rows) l.t);
}
