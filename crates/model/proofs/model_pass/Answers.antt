-- Each pass is asked where those before it found nothing.
use Rattle.std.proofs.Common.{refl, sym, ◌∙◌, ap, arith, ℤ, to_z-of_z}
use Rattle.std.proofs.lemmas.Result.{err_from_is_err_and}
use Rattle.stab.specs.Lent.{lent_schema}
use Rattle.stab.specs.Model.{Model}
use Rattle.stab.proofs.Findings.{stays, later}
use Rattle.pairs.proofs.Keys.{scan_sorted}
use Rattle.model.specs.Passes.{truth_refusal}
use Rattle.model.proofs.Passes.{passed_root, model_is, schema_held_lem, rows_few, pairs_few}
use Rattle.model.proofs.model_pass.Goals as goal

pub returns-in_err-tables_pass : goal.returns-in_err-tables_pass
returns-in_err-tables_pass c =
    let a = c.args in
    let M : Model = record { schema = lent_schema a.schema.now a.h; n = a.n; pairs = a.pairs.now; pair_rows = a.pair_rows } in
    let p = err_from_is_err_and c.from_residual.result c.from_residual.ensures.1 in
    rw (p.1, p.2) (stays _ _ _ _ _ c.in_err-tables_pass.ensures refl ∙ sym (model_is M))

pub formulas_pass-requires : goal.formulas_pass-requires
formulas_pass-requires c =
    let tables = sym c.in_ok-tables_pass.ensures in
    (rows_few _ _ _ _ tables, schema_held_lem _ _ _ _ tables)

pub returns-in_err-formulas_pass : goal.returns-in_err-formulas_pass
returns-in_err-formulas_pass c =
    let a = c.args in
    let M : Model = record { schema = lent_schema a.schema.now a.h; n = a.n; pairs = a.pairs.now; pair_rows = a.pair_rows } in
    let p = err_from_is_err_and c.from_residual-in_err-formulas_pass.result c.from_residual-in_err-formulas_pass.ensures.1 in
    rw (p.1, p.2)
    (later _ _ _ (sym c.in_ok-tables_pass.ensures)
    (stays _ _ _ _ _ c.in_err-formulas_pass.ensures.value refl)
    ∙ sym (model_is M))

pub pairs_pass-requires : goal.pairs_pass-requires
pairs_pass-requires c = pairs_few _ _ _ _ (sym c.in_ok-tables_pass.ensures)

pub returns-in_err-pairs_pass : goal.returns-in_err-pairs_pass
returns-in_err-pairs_pass c =
    let a = c.args in
    let M : Model = record { schema = lent_schema a.schema.now a.h; n = a.n; pairs = a.pairs.now; pair_rows = a.pair_rows } in
    let p = err_from_is_err_and c.from_residual-in_err-pairs_pass.result c.from_residual-in_err-pairs_pass.ensures.1 in
    rw (p.1, p.2)
    (later _ _ _ (sym c.in_ok-tables_pass.ensures)
    (later _ _ _ (sym c.in_ok-formulas_pass.ensures.value)
    (stays _ _ _ _ _ c.in_err-pairs_pass.ensures refl))
    ∙ sym (model_is M))

pub truth_pass-requires : goal.truth_pass-requires
truth_pass-requires c =
    let tables = sym c.in_ok-tables_pass.ensures in
    let root = passed_root _ (sym c.in_ok-formulas_pass.ensures.value) in
    record {
      row = omega (arith, root, rows_few _ _ _ _ tables);
      formed = λ r p. c.in_ok-formulas_pass.ensures.all_formed refl r (omega (arith, root));
      few = pairs_few _ _ _ _ tables;
      sorted = scan_sorted _ _ (sym c.in_ok-pairs_pass.ensures);
    }

pub returns : goal.returns
returns c =
    let a = c.args in
    let M : Model = record { schema = lent_schema a.schema.now a.h; n = a.n; pairs = a.pairs.now; pair_rows = a.pair_rows } in
    later _ _ _ (sym c.in_ok-tables_pass.ensures)
    (later _ _ _ (sym c.in_ok-formulas_pass.ensures.value)
    (later _ _ _ (sym c.in_ok-pairs_pass.ensures)
    (c.truth_pass.ensures
    ∙ ap (λ (m : ℤ). truth_refusal (lent_schema a.schema.now a.h) m a.pairs.now a.pair_rows) (to_z-of_z c.ranges.n))))
    ∙ sym (model_is M)
