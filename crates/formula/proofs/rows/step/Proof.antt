use mathlib.Core.Path.{sym, ◌∙◌, ap, subst}
use Prim.Native.Nat.{ℕ, ◌+◌}
use mathlib.Core.List.{List}
use borrow.Author.Rules.{rules}
use Rattle.stab.specs.Formula.{formula_rows}
use Rattle.formula.specs.Rows.{judged_refusal, kept_judged, Passed}
use Rattle.std.specs.Prelude.{Option}
use Rattle.formula.specs.declared.rows.Facts.{Facts}
use Rattle.formula.proofs.RowLaws.{row_found_lem, row_kept, passed_more}
use Rattle.formula.proofs.rows.step.Statement.{statement}
use Rattle.formula.proofs.rows.step.Tie as tie

row-found-requires : tie.Need-row-found-requires
row-found-requires c κs = search rules

sized-requires : tie.Need-sized-requires
sized-requires c κs = search rules

shape_of-facts : tie.Need-shape_of-facts
shape_of-facts c = search rules

returns : tie.Need-returns
returns c =
    let a = c.args in
    let rows = formula_rows a.schema.now a.s a.proof.now in
    let kept = c.sized.ensures.1 ∙ ap (λ (j : (Option Facts)). kept_judged j a.facts.now a.r) c.row-found.ensures ∙ row_kept rows a.r a.facts.now in (
      c.sized.ensures.0 ∙ ap (λ (j : (Option Facts)). judged_refusal j a.r) c.row-found.ensures ∙ row_found_lem rows a.r,
      (λ h. subst (λ (l : List ℕ). Passed rows l (a.r + 1)) (sym kept) (passed_more rows _ _ c.requires.1 c.requires.0.1 h), kept),
    )

pub step_spec : {M : Type 1} → statement M
step_spec = tie.close (tie.spec row-found-requires sized-requires shape_of-facts returns)
