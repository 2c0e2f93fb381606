use Rattle.stab.specs.Program.{verdict_fault, place_fault}
use Rattle.program.proofs.fault.check_verdict.Goals as goal

pub returns-in-Ok : goal.returns-in-Ok
unfolding verdict_fault
returns-in-Ok c = rw c.in-Ok.is c.none.ensures

pub returns-in-None : goal.returns-in-None
unfolding verdict_fault place_fault
returns-in-None c = rw (c.in-Err.is, c.in-None.is) c.none-in-None.ensures

pub returns-in-Some : goal.returns-in-Some
unfolding verdict_fault place_fault
returns-in-Some c = rw (c.in-Err.is, c.in-Some.is) c.check_points.ensures
