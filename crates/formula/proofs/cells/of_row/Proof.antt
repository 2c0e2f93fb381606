use mathlib.Core.Path.{sym, ◌∙◌}
use borrow.Author.Rules.{rules}
use Rattle.formula.proofs.Columns.{formula_rows_schema, formula_rows_proof}
use Rattle.formula.proofs.cells.of_row.Statement.{statement}
use Rattle.formula.proofs.cells.of_row.Tie as tie

in_table-requires : tie.Need-in_table-requires
in_table-requires c κs = search rules

in_table-requires-else-r-s : tie.Need-in_table-requires-else-r-s
in_table-requires-else-r-s c κs = search rules

returns-then-r-s : tie.Need-returns-then-r-s
returns-then-r-s c =
    let a = c.args in
    c.in_table.ensures ∙ sym (formula_rows_schema a.schema.now a.s a.proof.now a.r c.if-r-s.true)

returns-else-r-s : tie.Need-returns-else-r-s
returns-else-r-s c =
    let a = c.args in
    c.in_table-else-r-s.ensures ∙ sym (formula_rows_proof a.schema.now a.s a.proof.now a.r c.if-r-s.false)

pub of_row_spec : {M : Type 1} → statement M
of_row_spec = tie.close (tie.spec in_table-requires in_table-requires-else-r-s returns-then-r-s returns-else-r-s)
