use mathlib.Core.Path.{◌∙◌}
use borrow.Author.Rules.{rules}
use Rattle.nextsmall.proofs.RowPlaces.{constant_at, literal_at}
use Rattle.nextsmall.proofs.rows.plain.Statement.{statement}
use Rattle.nextsmall.proofs.rows.plain.Tie as tie

row-requires : tie.Need-row-requires
row-requires c κs = search rules

returns-then-d-lt2 : tie.Need-returns-then-d-lt2
returns-then-d-lt2 c = c.row.ensures ∙ constant_at c.args.d c.if-d-lt2.true

overflow_add-e : tie.Need-overflow_add-e
overflow_add-e c = search rules

row-requires-2 : tie.Need-row-requires-2
row-requires-2 c κs = search rules

returns : tie.Need-returns
returns c = c.row-2.ensures ∙ literal_at c.args.d c.if-d-lt2.false c.requires

pub plain_spec : {M : Type 1} → statement M
plain_spec = tie.close (tie.spec row-requires returns-then-d-lt2 overflow_add-e row-requires-2 returns)
