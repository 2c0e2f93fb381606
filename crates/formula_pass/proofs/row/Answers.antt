-- 7 and 8 are found first, and then 27, unless rows may repeat.
use Rattle.std.proofs.Common.{sym, ◌∙◌, ap, Err}
use Rattle.std.proofs.lemmas.Result.{err_from_is_err_and}
use Rattle.formula_pass.proofs.PassLaws.{row_stops, row_passes, row_repeats, row_fresh}
use Rattle.formula_pass.proofs.row.Goals as goal

pub returns-in_err-step-clause-value : goal.returns-in_err-step-clause-value
returns-in_err-step-clause-value c =
    let p = err_from_is_err_and c.from_residual.result c.from_residual.ensures.1 in
    rw (p.1, p.2) (sym (row_stops _ _ _ _ (sym c.in_err-step.ensures.value)))

pub returns-then-older-clause-value : goal.returns-then-older-clause-value
returns-then-older-clause-value c = sym (row_passes _ _ _ _ c.if-older.true (sym c.in_ok-step.ensures.value))

pub returns-then-repeats-clause-value : goal.returns-then-repeats-clause-value
returns-then-repeats-clause-value c =
    ap Err c.at.ensures
    ∙ sym (row_repeats _ _ _ _ c.if-older.false (sym c.in_ok-step.ensures.value) (sym c.repeats.ensures.value ∙ c.if-repeats.true))

pub returns-clause-value : goal.returns-clause-value
returns-clause-value c =
    sym (row_fresh _ _ _ _ c.if-older.false (sym c.in_ok-step.ensures.value) (sym c.repeats.ensures.value ∙ c.if-repeats.false))
