-- The measure: the first row number falls at each part; at the same row what is remembered is asked, then the rows are gone down.
use Rattle.std.proofs.Common.{◌+◌, ◌*◌}
use Rattle.classes.proofs.compare.+agreement.Given as goal

abbrev pub decreases-agrees : goal.decreases-agrees
decreases-agrees l = l.f * 3 + 2

abbrev pub decreases-agrees_anew : goal.decreases-agrees_anew
decreases-agrees_anew l = l.f * 3 + 1

abbrev pub decreases-gone_down : goal.decreases-gone_down
decreases-gone_down l = l.f * 3
