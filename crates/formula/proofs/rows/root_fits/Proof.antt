use mathlib.Core.Bool.{not}
use mathlib.Core.Path.{sym, ◌∙◌, ap}
use mir.Facts.{to_z-of_z}
use borrow.Author.Rules.{rules}
use Rattle.stab.specs.Basic.{below}
use Rattle.stab.specs.Check.{root_fits}
use Rattle.stab.proofs.Bools.{and_first_false, and_first_true}
use Rattle.formula.proofs.RowLaws.{fails, passes, within_below}
use Rattle.formula.proofs.rows.root_fits.Statement.{statement}
use Rattle.formula.proofs.rows.root_fits.Tie as tie

below-requires : tie.Need-below-requires
below-requires c κs = search rules

returns-then-not-below : tie.Need-returns-then-not-below
unfolding root_fits
returns-then-not-below c =
    sym (and_first_false _ _ (fails _ (c.below.ensures ∙ ap (below c.args.s) (to_z-of_z c.ranges.root)) (ap not c.if-not-below.true)))

below-requires-2 : tie.Need-below-requires-2
below-requires-2 c κs = search rules

returns : tie.Need-returns
unfolding root_fits
returns c =
    let h = passes _ (c.below.ensures ∙ ap (below c.args.s) (to_z-of_z c.ranges.root)) (ap not c.if-not-below.false) in
    c.below-2.ensures
    ∙ ap (below 10000) (to_z-of_z c.ranges.least)
    ∙ within_below 9999 c.args.least
    ∙ sym (and_first_true _ _ h)

pub root_fits_spec : {M : Type 1} → statement M
root_fits_spec = tie.close (tie.spec below-requires returns-then-not-below below-requires-2 returns)
