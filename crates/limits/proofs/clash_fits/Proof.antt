use mathlib.Core.Bool.{not}
use borrow.Author.Rules.{rules}
use mathlib.Core.Path.{sym, ◌∙◌, ap}
use borrow.Author.Tests.{not-true, not-false}
use Rattle.stab.specs.Rule.{clash_fits}
use Rattle.stab.proofs.Bools.{or_left, or_first_false}
use Rattle.fields.proofs.Answers.{first_fails, second_decides}
use Rattle.limits.proofs.clash_fits.Statement.{statement}
use Rattle.limits.proofs.clash_fits.Tie as tie

same_place-requires : tie.Need-same_place-requires
same_place-requires c κs = search rules

returns-then-same_place : tie.Need-returns-then-same_place
unfolding clash_fits
returns-then-same_place c = sym (or_left _ _ (sym c.same_place.ensures ∙ c.if-same_place.true))

returns-then-not-exact : tie.Need-returns-then-not-exact
unfolding clash_fits
returns-then-not-exact c = first_fails _ _ (not-true _ (ap not c.if-not-exact.true)) ∙ sym (or_first_false _ _ (sym c.same_place.ensures ∙ c.if-same_place.false))

same_index-requires : tie.Need-same_index-requires
same_index-requires c κs = search rules

returns : tie.Need-returns
unfolding clash_fits
returns c =
    c.same_index.ensures
    ∙ second_decides _ _ (not-false _ (ap not c.if-not-exact.false))
    ∙ sym (or_first_false _ _ (sym c.same_place.ensures ∙ c.if-same_place.false))

pub clash_fits_spec : {M : Type 1} → statement M
clash_fits_spec =
    tie.close (tie.spec same_place-requires returns-then-same_place returns-then-not-exact same_index-requires returns)
