-- Rows, and then nodes.
use Rattle.std.proofs.Common.{refl, sym}
use Rattle.std.proofs.lemmas.Result.{err_from_is_err_and}
use Rattle.stab.specs.Node.{rows, row_count}
use Rattle.stab.proofs.Findings.{stays, later}
use Rattle.tableau.specs.Passes.{rows_refusal, passes_refusal}
use Rattle.tableau.proofs.check.passes.Goals as goal

pub returns-in_err-formulas-clause-value : goal.returns-in_err-formulas-clause-value
unfolding passes_refusal rows_refusal rows row_count
returns-in_err-formulas-clause-value c =
    let p = err_from_is_err_and c.from_residual.result c.from_residual.ensures.1 in
    rw (p.1, p.2) (stays _ _ _ _ _ c.in_err-formulas.ensures.value refl)

pub returns-clause-value : goal.returns-clause-value
unfolding passes_refusal rows_refusal rows row_count
returns-clause-value c = later _ _ _ (sym c.in_ok-formulas.ensures.value) c.nodes_pass.ensures
