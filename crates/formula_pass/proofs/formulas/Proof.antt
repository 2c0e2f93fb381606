use mathlib.Core.Path.{◌≡◌, sym, ◌∙◌, ap, ap₂, subst}
use Prim.Native.Nat.{ℕ, ◌+◌}
use mir.Syntax.{w32}
use mir.Val.{of_z, to_z}
use borrow.Author.Rules.{rules}
use Rattle.stab.specs.Formula.{formula_rows}
use Rattle.stab.specs.Check.{formulas_refusal}
use Rattle.formula.specs.Rows.{formulas_table, Passed}
use Rattle.signed.proofs.Signs.{read_back}
use Rattle.formula_pass.proofs.formulas.Statement.{statement}
use Rattle.formula_pass.proofs.formulas.Tie as tie

row_count-requires : tie.Need-row_count-requires
row_count-requires c κs = search rules

pass-requires : tie.Need-pass-requires
pass-requires c κs = search rules

shape_of-facts : tie.Need-shape_of-facts
shape_of-facts c = search rules

returns : tie.Need-returns
returns c =
    let p = c.pass.ensures in
    let a = c.args in
    let rows = formula_rows a.schema.now a.h.schema_rows a.proof.now in
    let root = read_back a.h.root c.struct_told-1.given.1.1.0.1 in
    let least = read_back a.h.least c.struct_told-1.given.1.1.1.0.1 in
    let total : c.row_count.result ≡ a.h.schema_rows + a.h.proof_rows = c.row_count.ensures in
    let e =
    ap (λ (n : ℕ). formulas_refusal a.older rows n a.h.schema_rows (to_z w32 (of_z w32 a.h.root)) (to_z w32 (of_z w32 a.h.least))) total
    ∙ ap₂ (formulas_refusal a.older rows (a.h.schema_rows + a.h.proof_rows) a.h.schema_rows) root least in (
      p.0 ∙ e,
      (
        λ h. subst (Passed rows _) total (p.1.0 (sym p.0 ∙ h)),
        p.1.1
            ∙ ap (λ (n : ℕ). formulas_table a.older rows a.facts.now n a.h.schema_rows (to_z w32 (of_z w32 a.h.root)) (to_z w32 (of_z w32 a.h.least))) total
            ∙ ap₂ (formulas_table a.older rows a.facts.now (a.h.schema_rows + a.h.proof_rows) a.h.schema_rows) root least,
      ),
    )

pub formulas_spec : {M : Type 1} → statement M
formulas_spec = tie.close (tie.spec row_count-requires pass-requires shape_of-facts returns)
