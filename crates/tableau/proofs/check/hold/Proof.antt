use mathlib.Core.Bool.{not}
use mathlib.Core.Path.{sym, ◌∙◌, ap}
use borrow.Author.Rules.{rules}
use Rattle.stab.specs.Check.{tables_hold}
use Rattle.stab.proofs.Bools.{and_first_false, and_first_true, asked_false, asked_true}
use Rattle.tableau.proofs.check.hold.Statement.{statement}
use Rattle.tableau.proofs.check.hold.Tie as tie

holds-requires : tie.Need-holds-requires
holds-requires c κs = search rules

returns-then-not-holds : tie.Need-returns-then-not-holds
unfolding tables_hold
returns-then-not-holds c = sym (and_first_false _ _ (asked_false c.holds.ensures (ap not c.if-not-holds.true)))

holds-requires-2 : tie.Need-holds-requires-2
holds-requires-2 c κs = search rules

returns-then-not-holds-2 : tie.Need-returns-then-not-holds-2
unfolding tables_hold
returns-then-not-holds-2 c =
    sym
    (and_first_true _ _ (asked_true c.holds.ensures (ap not c.if-not-holds.false))
    ∙ and_first_false _ _ (asked_false c.holds-2.ensures (ap not c.if-not-holds-2.true)))

holds-requires-3 : tie.Need-holds-requires-3
holds-requires-3 c κs = search rules

returns-then-not-holds-3 : tie.Need-returns-then-not-holds-3
unfolding tables_hold
returns-then-not-holds-3 c =
    sym
    (and_first_true _ _ (asked_true c.holds.ensures (ap not c.if-not-holds.false))
    ∙ and_first_true _ _ (asked_true c.holds-2.ensures (ap not c.if-not-holds-2.false))
    ∙ and_first_false _ _ (asked_false c.holds-3.ensures (ap not c.if-not-holds-3.true)))

holds-requires-4 : tie.Need-holds-requires-4
holds-requires-4 c κs = search rules

returns : tie.Need-returns
unfolding tables_hold
returns c =
    c.holds-4.ensures
    ∙ sym
    (and_first_true _ _ (asked_true c.holds.ensures (ap not c.if-not-holds.false))
    ∙ and_first_true _ _ (asked_true c.holds-2.ensures (ap not c.if-not-holds-2.false))
    ∙ and_first_true _ _ (asked_true c.holds-3.ensures (ap not c.if-not-holds-3.false)))

pub hold_spec : {M : Type 1} → statement M
hold_spec =
    tie.close
    (tie.spec
    holds-requires
    returns-then-not-holds
    holds-requires-2
    returns-then-not-holds-2
    holds-requires-3
    returns-then-not-holds-3
    holds-requires-4
    returns)
