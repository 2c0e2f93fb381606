use borrow.Author.Rules.{rules}
use mathlib.Core.Path.{sym, ◌∙◌, ap}
use mir.Facts.{to_z-of_z}
use Rattle.stab.specs.Basic.{has}
use Rattle.stab.specs.Node.{row, rows}
use Rattle.stab.specs.Rule.{of_rule}
use Rattle.drawn.proofs.DrawnLaws.{read_as, given_parts, given_side, given_unfolded, given_half, given_nothing}
use Rattle.drawn.proofs.is_given.Statement.{statement}
use Rattle.drawn.proofs.is_given.Tie as tie

natural_of-on-requires : tie.Need-natural_of-on-requires
natural_of-on-requires c κs = search rules

is_of-requires : tie.Need-is_of-requires
is_of-requires c κs = search rules

is_part-requires : tie.Need-is_part-requires
is_part-requires c κs = search rules

returns-then-is_of : tie.Need-returns-then-is_of
unfolding of_rule row rows
returns-then-is_of c =
    c.is_part.ensures
    ∙ read_as _ (to_z-of_z c.ranges.z)
    ∙ rw c.natural_of-on.ensures.0
    (ap (has c.args.z) (given_parts _ _ _ (sym c.is_of.ensures ∙ c.if-is_of.true)))

is_of-requires-2 : tie.Need-is_of-requires-2
is_of-requires-2 c κs = search rules

is_side-requires : tie.Need-is_side-requires
is_side-requires c κs = search rules

returns-then-is_of-2 : tie.Need-returns-then-is_of-2
unfolding of_rule row rows
returns-then-is_of-2 c =
    c.is_side.ensures
    ∙ read_as _ (to_z-of_z c.ranges.z)
    ∙ rw c.natural_of-on.ensures.0
    (ap (has c.args.z) (given_side _ _ _ (sym c.is_of.ensures ∙ c.if-is_of.false) (sym c.is_of-2.ensures ∙ c.if-is_of-2.true)))

is_of-requires-3 : tie.Need-is_of-requires-3
is_of-requires-3 c κs = search rules

is_unfolded-requires : tie.Need-is_unfolded-requires
is_unfolded-requires c κs = search rules

returns-then-is_of-3 : tie.Need-returns-then-is_of-3
unfolding of_rule
returns-then-is_of-3 c =
    c.is_unfolded.ensures
    ∙ read_as _ (to_z-of_z c.ranges.z)
    ∙ ap (has c.args.z)
    (given_unfolded _ _ _
    (sym c.is_of.ensures ∙ c.if-is_of.false)
    (sym c.is_of-2.ensures ∙ c.if-is_of-2.false)
    (sym c.is_of-3.ensures ∙ c.if-is_of-3.true))

is_of-requires-4 : tie.Need-is_of-requires-4
is_of-requires-4 c κs = search rules

is_half-requires : tie.Need-is_half-requires
is_half-requires c κs = search rules

returns-then-is_of-4 : tie.Need-returns-then-is_of-4
unfolding of_rule
returns-then-is_of-4 c =
    c.is_half.ensures
    ∙ read_as _ (to_z-of_z c.ranges.z)
    ∙ ap (has c.args.z)
    (given_half _ _ _
    (sym c.is_of.ensures ∙ c.if-is_of.false)
    (sym c.is_of-2.ensures ∙ c.if-is_of-2.false)
    (sym c.is_of-3.ensures ∙ c.if-is_of-3.false)
    (sym c.is_of-4.ensures ∙ c.if-is_of-4.true))

returns : tie.Need-returns
unfolding of_rule has
returns c =
    ap (has c.args.z)
    (given_nothing _ _ _
    (sym c.is_of.ensures ∙ c.if-is_of.false)
    (sym c.is_of-2.ensures ∙ c.if-is_of-2.false)
    (sym c.is_of-3.ensures ∙ c.if-is_of-3.false)
    (sym c.is_of-4.ensures ∙ c.if-is_of-4.false))

pub is_given_spec : {M : Type 1} → statement M
is_given_spec =
    tie.close
    (tie.spec
    natural_of-on-requires
    is_of-requires
    is_part-requires
    returns-then-is_of
    is_of-requires-2
    is_side-requires
    returns-then-is_of-2
    is_of-requires-3
    is_unfolded-requires
    returns-then-is_of-3
    is_of-requires-4
    is_half-requires
    returns-then-is_of-4
    returns)
