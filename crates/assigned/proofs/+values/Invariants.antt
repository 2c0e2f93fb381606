-- The measure: the row number falls with each part, and an iteration is looked at by itself before its body.
use Rattle.std.proofs.Common.{◌≡◌, ◌+◌, ◌*◌, length, take}
use Rattle.stab.specs.Formula.{row_at, tree}
use Rattle.stab.specs.Meaning.{over, value}
use Rattle.pairs.specs.Index.{unbiased}
use Rattle.pairs.specs.Reading.{op_of}
use Rattle.assigned.specs.Words.{words}
use Rattle.assigned.specs.Assignments.{keyed}
use Rattle.assigned.proofs.+values.Given as goal

abbrev pub decreases-formula_values : goal.decreases-formula_values
decreases-formula_values l = l.f * 2 + 1

abbrev pub decreases-range_values : goal.decreases-range_values
decreases-range_values l = l.f * 2

abbrev pub invariant-range_values-loop-k : goal.invariant-range_values-loop-k
invariant-range_values-loop-k l = record {
  long : length l.next ≡ 64;
  so_far : l.out ≡ words (λ j. over (op_of l.any) (value (keyed (take l.count l.keys) (l.m + j)) l.n (tree (row_at l.schema) l.body)) (unbiased l.first) l.k) 64;
}
