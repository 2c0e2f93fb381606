use mathlib.Core.Path.{sym, ◌∙◌, ap, subst}
use Rattle.outcome.specs.Outcomes.{verdict_of}
use Rattle.program.specs.Faults.{checked_fault, Few}
use Rattle.program.proofs.Judgements.{check_verdict_is}
use Rattle.program.proofs.Faults.{check_fault_is, check_few}
use Rattle.program.proofs.check.Goals as goal

pub checked-fault-requires : goal.checked-fault-requires
checked-fault-requires c = subst Few (sym c.check_outcome-o.ensures) (check_few _ _ _)

pub returns-clause-verdict_value : goal.returns-clause-verdict_value
returns-clause-verdict_value c = c.verdict-verdict.ensures ∙ ap verdict_of c.check_outcome-o.ensures ∙ check_verdict_is _ _ _

pub returns-clause-fault_value : goal.returns-clause-fault_value
returns-clause-fault_value c = c.checked-fault.ensures ∙ ap checked_fault c.check_outcome-o.ensures ∙ check_fault_is _ _ _
