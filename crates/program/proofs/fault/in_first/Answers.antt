use mathlib.Core.Path.{refl}
use Rattle.stab.specs.Program.{in_first}
use Rattle.program.proofs.fault.in_first.Goals as goal

pub returns : goal.returns
unfolding in_first
returns c = refl
