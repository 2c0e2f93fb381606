use mathlib.Core.Bool.{not}
use borrow.Author.Rules.{rules}
use mathlib.Core.Path.{◌∙◌, ap}
use Rattle.stab.specs.Rule.{shortened}
use Rattle.formula.specs.Column.{column}
use Rattle.fields.proofs.Answers.{first_fails, second_fails, third_decides}
use Rattle.steps.proofs.partners.is_shortened.Statement.{statement}
use Rattle.steps.proofs.partners.is_shortened.Tie as tie
use Rattle.stab.proofs.Bools.{asked_false, asked_true}

same_in-requires : tie.Need-same_in-requires
same_in-requires c κs = search rules

returns-then-not-same_in : tie.Need-returns-then-not-same_in
unfolding shortened column
returns-then-not-same_in c = first_fails _ _ (asked_false c.same_in.ensures (ap not c.if-not-same_in.true))

same_in-requires-2 : tie.Need-same_in-requires-2
same_in-requires-2 c κs = search rules

returns-then-not-same_in-2 : tie.Need-returns-then-not-same_in-2
unfolding shortened column
returns-then-not-same_in-2 c =
    second_fails _ _ _
    (asked_true c.same_in.ensures (ap not c.if-not-same_in.false))
    (asked_false c.same_in-2.ensures (ap not c.if-not-same_in-2.true))

is_next-requires : tie.Need-is_next-requires
is_next-requires c κs = search rules

returns : tie.Need-returns
unfolding shortened column
returns c =
    c.is_next.ensures
    ∙ third_decides _ _ _
    (asked_true c.same_in.ensures (ap not c.if-not-same_in.false))
    (asked_true c.same_in-2.ensures (ap not c.if-not-same_in-2.false))

pub is_shortened_spec : {M : Type 1} → statement M
is_shortened_spec =
    tie.close
    (tie.spec same_in-requires returns-then-not-same_in same_in-requires-2 returns-then-not-same_in-2 is_next-requires returns)
