-- The pass over formula rows finds nothing exactly if the table is on the list.
use Rattle.std.proofs.Common.{ℕ, List, ℤ, pos, ◌≡◌, ◌≤◌, Ok, Err, sym, ◌∙◌, ap}
use Rattle.std.specs.Result.{is_ok}
use Rattle.stab.specs.Check.{schema_refusal}
use Rattle.stab.specs.Lent.{lent_schema, schema_header}
use Rattle.stab.specs.Finding.{Finding}
use Rattle.signed.proofs.Signs.{read_back}
use Rattle.small.specs.Small.{on_list}
use Rattle.small.specs.Fits.{RowsFit}
use Rattle.nextsmall.proofs.Judging.{passes, passes_listed, fails_unlisted}
use Rattle.nextsmall.proofs.list.on_list.Goals as goal

told : (n : ℕ) (t : List ℤ) (a : 1 ≤ n) (b : n ≤ 3) → RowsFit n t → (x : Finding) → x ≡ passes n t a b → is_ok x ≡ on_list n t
told n t a b f (Ok tt) e = sym (passes_listed n t a b f (sym e))
told n t a b f (Err r) e = sym (fails_unlisted n t a b _ _ (sym e))

pub returns : goal.returns
returns c =
    let a = c.args in
    let r = c.requires in
    let found : c.schema_formulas.result ≡ passes a.n a.table.now r.0 r.1 =
    c.schema_formulas.ensures.value
    ∙ ap (λ (z : ℤ). schema_refusal (lent_schema a.table.now (schema_header a.n z (pos 0)))) (read_back _ c.of-root.type_inv ∙ c.of-root.ensures) in
    c.is_ok.ensures.value ∙ told a.n a.table.now r.0 r.1 r.3 _ found
