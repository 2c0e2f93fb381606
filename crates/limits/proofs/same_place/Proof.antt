use mathlib.Core.Bool.{not}
use borrow.Author.Rules.{rules}
use mathlib.Core.Path.{◌∙◌, ap}
use Rattle.formula.specs.Column.{column}
use Rattle.fields.proofs.Answers.{first_fails, second_decides}
use Rattle.limits.proofs.same_place.Statement.{statement}
use Rattle.limits.proofs.same_place.Tie as tie
use Rattle.stab.proofs.Bools.{asked_false, asked_true}

same_in-requires : tie.Need-same_in-requires
same_in-requires c κs = search rules

returns-then-not-same_in : tie.Need-returns-then-not-same_in
unfolding column
returns-then-not-same_in c = first_fails _ _ (asked_false c.same_in.ensures (ap not c.if-not-same_in.true))

same_in-requires-2 : tie.Need-same_in-requires-2
same_in-requires-2 c κs = search rules

returns : tie.Need-returns
unfolding column
returns c = c.same_in-2.ensures ∙ second_decides _ _ (asked_true c.same_in.ensures (ap not c.if-not-same_in.false))

pub same_place_spec : {M : Type 1} → statement M
same_place_spec = tie.close (tie.spec same_in-requires returns-then-not-same_in same_in-requires-2 returns)
