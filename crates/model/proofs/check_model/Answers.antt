-- The verdict is what was found; the second clause follows from the first.
use Rattle.std.proofs.Common.{refl, sym, ◌∙◌, ap, ℤ, to_z-of_z}
use Rattle.std.proofs.lemmas.Result.{err_from_is_err_and}
use Rattle.stab.specs.Lent.{lent_schema}
use Rattle.stab.specs.Model.{Model, model_refusal, check_model}
use Rattle.stab.proofs.Soundness.{no_model_lem}
use Rattle.model.proofs.Passes.{accepted_is, refused_is}
use Rattle.model.proofs.check_model.Goals as goal

pub returns-in_err-model_pass-clause-value : goal.returns-in_err-model_pass-clause-value
unfolding check_model
returns-in_err-model_pass-clause-value c =
    let a = c.args in
    let found = c.in_err-model_pass.ensures
    ∙ ap (λ (m : ℤ). model_refusal (record { schema = lent_schema a.schema.now a.h; n = m; pairs = a.pairs.now; pair_rows = a.pair_rows })) (to_z-of_z c.ranges.n) in
    let p = err_from_is_err_and c.from_residual.result c.from_residual.ensures.1 in
    rw (p.1, p.2) (refused_is _ _ _ _ found refl)

pub returns : goal.returns
unfolding check_model
returns c =
    let a = c.args in
    let M : Model = record { schema = lent_schema a.schema.now a.h; n = a.n; pairs = a.pairs.now; pair_rows = a.pair_rows } in
    let found = c.in_ok-model_pass.ensures
    ∙ ap (λ (m : ℤ). model_refusal (record { schema = lent_schema a.schema.now a.h; n = m; pairs = a.pairs.now; pair_rows = a.pair_rows })) (to_z-of_z c.ranges.n) in
    let e = accepted_is _ _ found refl in
    record { value = e; by_index = λ nodes links q. no_model_lem M nodes links (sym e ∙ q) }
