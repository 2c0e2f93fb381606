-- Each pass is asked where the one before it found nothing.
use Rattle.std.proofs.Common.{ℤ, pos, ◌≡◌, refl, sym, ◌∙◌, ap, ap₂, arith, rules, Err, to_z-of_z}
use Rattle.std.proofs.lemmas.Result.{err_from_is_err_and}
use lib.Signed.{le_z}
use Rattle.stab.specs.Basic.{◌and◌}
use Rattle.stab.specs.Lent.{lent_schema}
use Rattle.stab.proofs.Findings.{stays, later}
use Rattle.model.proofs.Passes.{whole_none, found_last}
use Rattle.found.specs.Find.{Query}
use Rattle.find.specs.Search.{query_refusal}
use Rattle.find.proofs.Searches.{tables_clear, query_ready}
use Rattle.find.proofs.query_pass.Goals as goal

pub returns-in_err-tables_pass-clause-value : goal.returns-in_err-tables_pass-clause-value
unfolding query_refusal
returns-in_err-tables_pass-clause-value c =
    let p = err_from_is_err_and c.from_residual.result c.from_residual.ensures.1 in
    rw (p.1, p.2) (stays _ _ _ _ _ c.in_err-tables_pass.ensures refl)

pub schema_formulas-requires : goal.schema_formulas-requires
schema_formulas-requires c =
    let h = (tables_clear _ _ _).0 (sym c.in_ok-tables_pass.ensures) in
    (h.1.1, h.1.0, omega (arith, h, c.requires))

pub returns-in_err-schema_formulas-clause-value : goal.returns-in_err-schema_formulas-clause-value
unfolding query_refusal
returns-in_err-schema_formulas-clause-value c =
    let r = c.from_residual-in_err-schema_formulas in
    let p = err_from_is_err_and r.result r.ensures.1 in
    rw (p.1, p.2)
    (later _ _ _ (sym c.in_ok-tables_pass.ensures) (stays _ _ _ _ _ c.in_err-schema_formulas.ensures.value refl))

pub returns-then-width_fits : goal.returns-then-width_fits
unfolding query_refusal
returns-then-width_fits c =
    let a = c.args in
    let Q : Query = record { schema = lent_schema a.schema.now a.h; n = a.n; room = a.room } in
    let formulas = sym c.in_ok-schema_formulas.ensures.value in
    let said : c.width_fits.result ≡ (le_z a.h.least a.n and le_z a.n (pos 9999)) =
    c.width_fits.ensures ∙ ap₂ (λ (l m : ℤ). le_z l m and le_z m (pos 9999)) (search rules) (to_z-of_z c.ranges.n) in
    let none =
    later _ _ _ (sym c.in_ok-tables_pass.ensures)
    (later _ _ _ formulas (sym (whole_none _ _ (sym said ∙ c.if-width_fits.true)))) in
    record {
      value = none;
      ready = λ _. query_ready Q (sym none) _ (c.in_ok-schema_formulas.ensures.passed formulas);
    }

pub returns-clause-value : goal.returns-clause-value
unfolding query_refusal
returns-clause-value c =
    let a = c.args in
    let said : c.width_fits.result ≡ (le_z a.h.least a.n and le_z a.n (pos 9999)) =
    c.width_fits.ensures ∙ ap₂ (λ (l m : ℤ). le_z l m and le_z m (pos 9999)) (search rules) (to_z-of_z c.ranges.n) in
    later _ _ _ (sym c.in_ok-tables_pass.ensures)
    (later _ _ _ (sym c.in_ok-schema_formulas.ensures.value)
    (found_last _ _ _ (ap Err c.whole.ensures) (sym said ∙ c.if-width_fits.false)))
