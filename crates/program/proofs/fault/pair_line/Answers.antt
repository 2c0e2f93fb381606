use mathlib.Core.Path.{refl}
use Rattle.stab.specs.LineNumber.{pair_line}
use Rattle.program.proofs.fault.pair_line.Goals as goal

pub returns : goal.returns
unfolding pair_line
returns c = refl
