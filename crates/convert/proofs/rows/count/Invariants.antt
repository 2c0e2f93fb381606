use Rattle.std.proofs.Common.{◌≡◌, ◌*◌, ◌≤◌}
use Rattle.stab.specs.Formula.{row_at}
use Rattle.wide.specs.Plain.{start_of}
use Rattle.convert.proofs.rows.count.Given as goal

abbrev pub invariant-loop-r : goal.invariant-loop-r
invariant-loop-r l = record {
  so_far : l.s ≡ start_of (row_at l.wide) l.r;
  at_most : l.s ≤ 6 * l.r;
}
