use borrow.Author.Rules.{rules}
use mathlib.Core.Path.{sym, ◌∙◌}
use Rattle.formula.specs.Column.{column}
use mir.Facts.{to_z-of_z}
use Rattle.drawn.proofs.DrawnLaws.{turned, first_is, second_is}
use Rattle.drawn.proofs.is_part.Statement.{statement}
use Rattle.drawn.proofs.is_part.Tie as tie

is_in-requires : tie.Need-is_in-requires
is_in-requires c κs = search rules

returns-then-is_in : tie.Need-returns-then-is_in
unfolding column
returns-then-is_in c = first_is _ _ _ (sym (c.is_in.ensures ∙ turned _ (to_z-of_z c.ranges.z)) ∙ c.if-is_in.true)

is_in-requires-2 : tie.Need-is_in-requires-2
is_in-requires-2 c κs = search rules

returns : tie.Need-returns
unfolding column
returns c =
    let e = to_z-of_z c.ranges.z in
    c.is_in-2.ensures ∙ turned _ e ∙ second_is _ _ _ (sym (c.is_in.ensures ∙ turned _ e) ∙ c.if-is_in.false)

pub is_part_spec : {M : Type 1} → statement M
is_part_spec = tie.close (tie.spec is_in-requires returns-then-is_in is_in-requires-2 returns)
