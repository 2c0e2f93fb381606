use mathlib.Core.Path.{sym, ◌∙◌, ap, subst}
use Rattle.outcome.specs.Outcomes.{verdict_of}
use Rattle.program.specs.Faults.{modelled_fault, Few}
use Rattle.program.proofs.Judgements.{model_verdict_is}
use Rattle.program.proofs.Faults.{model_fault_is, model_few}
use Rattle.program.proofs.check_model.Goals as goal

pub modelled-fault-requires : goal.modelled-fault-requires
modelled-fault-requires c = subst Few (sym c.model_outcome-o.ensures) (model_few _ _)

pub returns-clause-verdict_value : goal.returns-clause-verdict_value
returns-clause-verdict_value c = c.verdict-verdict.ensures ∙ ap verdict_of c.model_outcome-o.ensures ∙ model_verdict_is _ _

pub returns-clause-fault_value : goal.returns-clause-fault_value
returns-clause-fault_value c = c.modelled-fault.ensures ∙ ap modelled_fault c.model_outcome-o.ensures ∙ model_fault_is _ _
