use Rattle.std.proofs.Common.{refl, sym, arith}
use Rattle.std.proofs.lemmas.Result.{err_from_is_err_and}
use Rattle.stab.proofs.Findings.{stays, later}
use Rattle.classes.proofs.Remembering.{nothing_agreed}
use Rattle.tableau.specs.Passes.{later_refusal}
use Rattle.tableau.proofs.check.small_record.Goals as goal

pub returns-in_err-passes : goal.returns-in_err-passes
unfolding later_refusal
returns-in_err-passes c =
    let p = err_from_is_err_and c.from_residual.result c.from_residual.ensures.1 in
    rw (p.1, p.2) (stays _ _ _ _ _ c.in_err-passes.ensures.value refl)

pub single_steps-requires-clause-remembers : goal.single_steps-requires-clause-remembers
single_steps-requires-clause-remembers c = (nothing_agreed _ 256, omega (arith, c.requires.0))

pub returns : goal.returns
unfolding later_refusal
returns c = later _ _ _ (sym c.in_ok-passes.ensures.value) c.single_steps.ensures
