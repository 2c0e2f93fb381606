use borrow.Author.Rules.{rules}
use mathlib.Core.Path.{sym, ◌∙◌}
use Rattle.formula.specs.Column.{column}
use mir.Facts.{to_z-of_z}
use Rattle.drawn.proofs.DrawnLaws.{turned, first_is, second_is}
use Rattle.drawn.proofs.is_unfolded.Statement.{statement}
use Rattle.drawn.proofs.is_unfolded.Tie as tie

is_of-requires : tie.Need-is_of-requires
is_of-requires c κs = search rules

returns-then-is_of : tie.Need-returns-then-is_of
unfolding column
returns-then-is_of c = first_is _ _ _ (sym (c.is_of.ensures ∙ turned _ (to_z-of_z c.ranges.z)) ∙ c.if-is_of.true)

is_of-requires-2 : tie.Need-is_of-requires-2
is_of-requires-2 c κs = search rules

returns : tie.Need-returns
unfolding column
returns c =
    let e = to_z-of_z c.ranges.z in
    c.is_of-2.ensures ∙ turned _ e ∙ second_is _ _ _ (sym (c.is_of.ensures ∙ turned _ e) ∙ c.if-is_of.false)

pub is_unfolded_spec : {M : Type 1} → statement M
is_unfolded_spec = tie.close (tie.spec is_of-requires returns-then-is_of is_of-requires-2 returns)
