-- The measure: a row number falls by one at each part, which 2 counts for, and an iteration comes after its row.
use Rattle.std.proofs.Common.{List, ◌+◌, ◌≤◌, ◌*◌}
use Rattle.stab.specs.Formula.{row_at, tree}
use Rattle.stab.specs.Occurs.{Wire, gathered, inserted}
use Rattle.pairs.specs.Index.{unbiased}
use Rattle.occurring.specs.Held.{Held}
use Rattle.occurring.proofs.+pairs.Given as goal

abbrev pub decreases-range_pairs : goal.decreases-range_pairs
decreases-range_pairs l = 2 * l.f

abbrev pub decreases-row_pairs : goal.decreases-row_pairs
decreases-row_pairs l = 2 * l.f + 1

abbrev pub invariant-range_pairs-loop-k : goal.invariant-range_pairs-loop-k
invariant-range_pairs-loop-k l = record {
  at_most : l.held ≤ 17;
  so_far : (ws : List Wire) → Held l.fn.keys l.count ws → Held l.keys l.held (gathered (inserted l.n (tree (row_at l.schema) l.body)) (unbiased l.first) l.k ws);
}
