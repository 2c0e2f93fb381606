use mathlib.Core.Path.{refl}
use Rattle.stab.specs.Program.{in_second}
use Rattle.program.proofs.fault.in_second.Goals as goal

pub returns : goal.returns
unfolding in_second
returns c = refl
