use mathlib.Core.Path.{◌∙◌}
use borrow.Author.Rules.{rules}
use Rattle.nextsmall.proofs.RowPlaces.{junction_1, iteration_1}
use Rattle.nextsmall.proofs.rows.over_one.Statement.{statement}
use Rattle.nextsmall.proofs.rows.over_one.Tie as tie

overflow_add-e : tie.Need-overflow_add-e
overflow_add-e c = search rules

row-requires : tie.Need-row-requires
row-requires c κs = search rules

returns-then-e-lt2 : tie.Need-returns-then-e-lt2
returns-then-e-lt2 c = c.row.ensures ∙ junction_1 c.args.e c.if-e-lt2.true

overflow_add-f : tie.Need-overflow_add-f
overflow_add-f c = search rules

overflow_add-f-2 : tie.Need-overflow_add-f-2
overflow_add-f-2 c = search rules

row-requires-2 : tie.Need-row-requires-2
row-requires-2 c κs = search rules

returns : tie.Need-returns
returns c = c.row-2.ensures ∙ iteration_1 c.args.e c.if-e-lt2.false c.requires

pub over_one_spec : {M : Type 1} → statement M
over_one_spec =
    tie.close (tie.spec overflow_add-e row-requires returns-then-e-lt2 overflow_add-f overflow_add-f-2 row-requires-2 returns)
