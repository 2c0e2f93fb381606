use borrow.Author.Rules.{rules}
use mathlib.Core.Path.{◌∙◌}
use Rattle.formula.specs.Column.{column}
use mir.Facts.{to_z-of_z}
use Rattle.drawn.proofs.DrawnLaws.{turned, only_first, only_second}
use Rattle.drawn.proofs.is_side.Statement.{statement}
use Rattle.drawn.proofs.is_side.Tie as tie

is_in-requires : tie.Need-is_in-requires
is_in-requires c κs = search rules

returns-then-rank-eq0 : tie.Need-returns-then-rank-eq0
unfolding column
returns-then-rank-eq0 c = c.is_in.ensures ∙ turned _ (to_z-of_z c.ranges.z) ∙ only_first _ _ _ c.args.rank c.if-rank-eq0.true

is_in-requires-2 : tie.Need-is_in-requires-2
is_in-requires-2 c κs = search rules

returns : tie.Need-returns
unfolding column
returns c = c.is_in-2.ensures ∙ turned _ (to_z-of_z c.ranges.z) ∙ only_second _ _ _ c.args.rank c.if-rank-eq0.false

pub is_side_spec : {M : Type 1} → statement M
is_side_spec = tie.close (tie.spec is_in-requires returns-then-rank-eq0 is_in-requires-2 returns)
