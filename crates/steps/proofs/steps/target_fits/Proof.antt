use mathlib.Core.Bool.{not}
use borrow.Author.Rules.{rules}
use mathlib.Core.Path.{◌∙◌, ap}
use Rattle.stab.specs.Rule.{of_rule}
use Rattle.stab.proofs.Bools.{asked_false, asked_true}
use Rattle.fields.proofs.Answers.{implies_made, implies_spared}
use Rattle.steps.proofs.steps.target_fits.Statement.{statement}
use Rattle.steps.proofs.steps.target_fits.Tie as tie

is_of-requires : tie.Need-is_of-requires
is_of-requires c κs = search rules

returns-then-not-is_of : tie.Need-returns-then-not-is_of
unfolding of_rule
returns-then-not-is_of c = implies_spared _ _ (asked_false c.is_of.ensures (ap not c.if-not-is_of.true))

is_below-requires : tie.Need-is_below-requires
is_below-requires c κs = search rules

returns : tie.Need-returns
unfolding of_rule
returns c =
    c.is_below.ensures ∙ implies_made _ _ (asked_true c.is_of.ensures (ap not c.if-not-is_of.false))

pub target_fits_spec : {M : Type 1} → statement M
target_fits_spec = tie.close (tie.spec is_of-requires returns-then-not-is_of is_below-requires returns)
