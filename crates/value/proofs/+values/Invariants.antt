-- The measure: a row number falls by one, which 65536 counts for, or at the same row the range falls; a range has fewer numbers than that.
use Rattle.std.proofs.Common.{◌+◌, ◌*◌}
use Rattle.value.proofs.+values.Given as goal

abbrev pub decreases-formula_value : goal.decreases-formula_value
decreases-formula_value l = l.f * 65536

abbrev pub decreases-range_value : goal.decreases-range_value
decreases-range_value l = l.body * 65536 + l.left + 1
