use mathlib.Core.Path.{◌∙◌}
use borrow.Author.Rules.{rules}
use Rattle.nextsmall.proofs.RowPlaces.{junction_2, iteration_2}
use Rattle.nextsmall.proofs.rows.over_two.Statement.{statement}
use Rattle.nextsmall.proofs.rows.over_two.Tie as tie

overflow_add-e : tie.Need-overflow_add-e
overflow_add-e c = search rules

row-requires : tie.Need-row-requires
row-requires c κs = search rules

returns-then-e-lt8 : tie.Need-returns-then-e-lt8
returns-then-e-lt8 c = c.row.ensures ∙ junction_2 c.args.e c.if-e-lt8.true

overflow_add-f : tie.Need-overflow_add-f
overflow_add-f c = search rules

overflow_add-f-2 : tie.Need-overflow_add-f-2
overflow_add-f-2 c = search rules

row-requires-2 : tie.Need-row-requires-2
row-requires-2 c κs = search rules

returns : tie.Need-returns
returns c = c.row-2.ensures ∙ iteration_2 c.args.e c.if-e-lt8.false c.requires

pub over_two_spec : {M : Type 1} → statement M
over_two_spec =
    tie.close (tie.spec overflow_add-e row-requires returns-then-e-lt8 overflow_add-f overflow_add-f-2 row-requires-2 returns)
