use Prim.Native.Nat.{ℕ}
use mathlib.Core.Path.{◌∙◌, ap, ap₂, subst}
use mathlib.Core.Bool.{true}
use mir.Syntax.{w32}
use mir.Val.{of_z, to_z}
use mir.Facts.{to_z-of_z}
use borrow.Author.Rules.{rules}
use Rattle.stab.specs.Formula.{Row, row_at}
use Rattle.stab.specs.Check.{formulas_refusal}
use Rattle.formula.specs.Rows.{formulas_table, Passed}
use Rattle.formula.proofs.Columns.{formula_rows_part}
use Rattle.formula_pass.proofs.alone.Statement.{statement}
use Rattle.formula_pass.proofs.alone.Tie as tie

overflow_mul-end : tie.Need-overflow_mul-end
overflow_mul-end c = search rules

offset_bounds-schema-end : tie.Need-offset_bounds-schema-end
offset_bounds-schema-end c = search rules

slice_bounds-pass-count : tie.Need-slice_bounds-pass-count
slice_bounds-pass-count c = search rules

slice_bounds-pass-start : tie.Need-slice_bounds-pass-start
slice_bounds-pass-start c = search rules

slice_bounds-pass-end : tie.Need-slice_bounds-pass-end
slice_bounds-pass-end c = search rules

pass-requires : tie.Need-pass-requires
pass-requires c κs = search rules

shape_of-facts : tie.Need-shape_of-facts
shape_of-facts c = search rules

returns : tie.Need-returns
returns c =
    let p = c.pass in
    let a = c.args in
    let rows = formula_rows_part a.schema.now a.s in
    let root = to_z-of_z c.ranges.root in
    let least = to_z-of_z c.ranges.least in
    let e =
    ap (λ (r : ℕ → Row). formulas_refusal true r a.s a.s (to_z w32 (of_z w32 a.root)) (to_z w32 (of_z w32 a.least))) rows
    ∙ ap₂ (formulas_refusal true (row_at a.schema.now) a.s a.s) root least in (
      p.ensures.0 ∙ e,
      (
        λ h. subst (λ (r : ℕ → Row). Passed r p.new.facts a.s) rows (p.ensures.1.0 (e ∙ h)),
        p.ensures.1.1
            ∙ ap (λ (r : ℕ → Row). formulas_table true r a.facts.now a.s a.s (to_z w32 (of_z w32 a.root)) (to_z w32 (of_z w32 a.least))) rows
            ∙ ap₂ (formulas_table true (row_at a.schema.now) a.facts.now a.s a.s) root least,
      ),
    )

pub alone_spec : {M : Type 1} → statement M
alone_spec =
    tie.close
    (tie.spec overflow_mul-end offset_bounds-schema-end slice_bounds-pass-count slice_bounds-pass-start slice_bounds-pass-end pass-requires shape_of-facts returns)
