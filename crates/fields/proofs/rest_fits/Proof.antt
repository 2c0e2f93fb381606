use mathlib.Core.Bool.{not}
use borrow.Author.Rules.{rules}
use mathlib.Core.Path.{◌∙◌, ap}
use Rattle.branch.specs.Lent.{rest_fits}
use Rattle.fields.proofs.Answers.{first_fails, second_decides}
use Rattle.fields.proofs.rest_fits.Statement.{statement}
use Rattle.fields.proofs.rest_fits.Tie as tie
use Rattle.stab.proofs.Bools.{asked_false, asked_true}

other_fits-requires : tie.Need-other_fits-requires
other_fits-requires c κs = search rules

returns-then-not-other_fits : tie.Need-returns-then-not-other_fits
unfolding rest_fits
returns-then-not-other_fits c = first_fails _ _ (asked_false c.other_fits.ensures (ap not c.if-not-other_fits.true))

link_fits-requires : tie.Need-link_fits-requires
link_fits-requires c κs = search rules

returns : tie.Need-returns
unfolding rest_fits
returns c = c.link_fits.ensures ∙ second_decides _ _ (asked_true c.other_fits.ensures (ap not c.if-not-other_fits.false))

pub rest_fits_spec : {M : Type 1} → statement M
rest_fits_spec = tie.close (tie.spec other_fits-requires returns-then-not-other_fits link_fits-requires returns)
