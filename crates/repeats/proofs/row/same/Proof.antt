use borrow.Author.Rules.{rules}
use mathlib.Core.Path.{sym, ◌∙◌, ap}
use Rattle.stab.specs.Check.{same_row}
use Rattle.formula.proofs.Columns.{formula_rows_schema, formula_rows_proof}
use Rattle.repeats.proofs.row.same.Statement.{statement}
use Rattle.repeats.proofs.row.same.Tie as tie

same_as-requires : tie.Need-same_as-requires
same_as-requires c κs = search rules

same_as-requires-else-r-s : tie.Need-same_as-requires-else-r-s
same_as-requires-else-r-s c κs = search rules

returns-then-r-s : tie.Need-returns-then-r-s
returns-then-r-s c =
    let a = c.args in
    c.same_as.ensures
    ∙ ap (same_row _) (sym (formula_rows_schema a.schema.now a.s a.proof.now a.r c.if-r-s.true))

returns-else-r-s : tie.Need-returns-else-r-s
returns-else-r-s c =
    let a = c.args in
    c.same_as-else-r-s.ensures
    ∙ ap (same_row _) (sym (formula_rows_proof a.schema.now a.s a.proof.now a.r c.if-r-s.false))

pub same_spec : {M : Type 1} → statement M
same_spec = tie.close (tie.spec same_as-requires same_as-requires-else-r-s returns-then-r-s returns-else-r-s)
