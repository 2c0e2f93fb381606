use mathlib.Core.Path.{refl}
use Rattle.stab.specs.Program.{no_fault}
use Rattle.program.proofs.fault.none.Goals as goal

pub returns : goal.returns
unfolding no_fault
returns c = refl
