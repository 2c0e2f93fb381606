use mathlib.Core.Path.{◌∙◌, ap₂}
use mathlib.Core.Bool.{true}
use borrow.Author.Rules.{rules}
use Rattle.stab.specs.Formula.{row_at}
use Rattle.stab.specs.Check.{formulas_refusal, schema_refusal}
use Rattle.signed.proofs.Signs.{read_back}
use Rattle.formula.specs.Rows.{formulas_table}
use Rattle.formula_pass.proofs.schema_formulas.Statement.{statement}
use Rattle.formula_pass.proofs.schema_formulas.Tie as tie

alone-requires : tie.Need-alone-requires
alone-requires c κs = search rules

shape_of-facts : tie.Need-shape_of-facts
shape_of-facts c = search rules

returns : tie.Need-returns
unfolding schema_refusal
returns c =
    let p = c.alone.ensures in
    let a = c.args in
    let root = read_back a.h.root c.struct_told-1.given.1.0.1 in
    let least = read_back a.h.least c.struct_told-1.given.1.1.0.1 in
    let e = ap₂ (formulas_refusal true (row_at a.schema.now) a.h.rows a.h.rows) root least in
    (p.0 ∙ e, (λ h. p.1.0 (e ∙ h), p.1.1 ∙ ap₂ (formulas_table true (row_at a.schema.now) a.facts.now a.h.rows a.h.rows) root least))

pub schema_formulas_spec : {M : Type 1} → statement M
schema_formulas_spec = tie.close (tie.spec alone-requires shape_of-facts returns)
