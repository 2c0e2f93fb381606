use mathlib.Core.Bool.{not}
use borrow.Author.Rules.{rules}
use mathlib.Core.Path.{sym, ◌∙◌, ap}
use borrow.Author.Tests.{not-true, not-false}
use mir.Facts.{to_z-of_z}
use Rattle.branch.specs.Parents.{is_alone}
use Rattle.branch.proofs.ParentLaws.{wrong_up, right_first, right_later}
use Rattle.sets.proofs.parents.parent_is_right.Statement.{statement}
use Rattle.sets.proofs.parents.parent_is_right.Tie as tie

up_fits-requires : tie.Need-up_fits-requires
up_fits-requires c κs = search rules

returns-then-not-up_fits : tie.Need-returns-then-not-up_fits
returns-then-not-up_fits c =
    let a = c.args in
    wrong_up a.nodes.now a.members.now a.root a.j (sym c.up_fits.ensures ∙ not-true c.up_fits.result (ap not c.if-not-up_fits.true))

is_alone-requires : tie.Need-is_alone-requires
is_alone-requires c κs = search rules

returns-then-j-eq0 : tie.Need-returns-then-j-eq0
returns-then-j-eq0 c =
    let a = c.args in
    c.is_alone.ensures
    ∙ ap (is_alone a.nodes.now a.members.now a.j) (to_z-of_z c.ranges.root)
    ∙ right_first a.nodes.now a.members.now a.root a.j (sym c.up_fits.ensures ∙ not-false c.up_fits.result (ap not c.if-not-up_fits.false)) c.if-j-eq0.true

returns : tie.Need-returns
returns c =
    let a = c.args in
    right_later a.nodes.now a.members.now a.root a.j (sym c.up_fits.ensures ∙ not-false c.up_fits.result (ap not c.if-not-up_fits.false)) c.if-j-eq0.false

pub parent_is_right_spec : {M : Type 1} → statement M
parent_is_right_spec =
    tie.close (tie.spec up_fits-requires returns-then-not-up_fits is_alone-requires returns-then-j-eq0 returns)
