use borrow.Author.Rules.{rules}
use mathlib.Core.Path.{sym, ◌∙◌, ap}
use Rattle.stab.specs.Formula.{Row, row_at}
use Rattle.stab.specs.Check.{same_row}
use Rattle.formula.proofs.Columns.{formula_rows_schema, formula_rows_proof}
use Rattle.repeats.proofs.row.same_as.Statement.{statement}
use Rattle.repeats.proofs.row.same_as.Tie as tie

same_rows-requires : tie.Need-same_rows-requires
same_rows-requires c κs = search rules

same_rows-requires-else-q-s : tie.Need-same_rows-requires-else-q-s
same_rows-requires-else-q-s c κs = search rules

returns-then-q-s : tie.Need-returns-then-q-s
returns-then-q-s c =
    let a = c.args in
    c.same_rows.ensures
    ∙ ap (λ (v : Row). same_row v (row_at a.t.now a.p)) (sym (formula_rows_schema a.schema.now a.s a.proof.now a.q c.if-q-s.true))

returns-else-q-s : tie.Need-returns-else-q-s
returns-else-q-s c =
    let a = c.args in
    c.same_rows-else-q-s.ensures
    ∙ ap (λ (v : Row). same_row v (row_at a.t.now a.p)) (sym (formula_rows_proof a.schema.now a.s a.proof.now a.q c.if-q-s.false))

pub same_as_spec : {M : Type 1} → statement M
same_as_spec = tie.close (tie.spec same_rows-requires same_rows-requires-else-q-s returns-then-q-s returns-else-q-s)
