use mathlib.Core.Bool.{not}
use mathlib.Core.Path.{sym, ◌∙◌, ap}
use borrow.Author.Rules.{rules}
use Rattle.stab.proofs.Bools.{and_first_false, and_first_true, asked_false, asked_true}
use Rattle.writing.proofs.proof_held.Statement.{statement}
use Rattle.writing.proofs.proof_held.Tie as tie

holds-requires : tie.Need-holds-requires
holds-requires c κs = search rules

returns-then-not-holds : tie.Need-returns-then-not-holds
returns-then-not-holds c = sym (and_first_false _ _ (asked_false c.holds.ensures (ap not c.if-not-holds.true)))

holds-requires-2 : tie.Need-holds-requires-2
holds-requires-2 c κs = search rules

returns-then-not-holds-2 : tie.Need-returns-then-not-holds-2
returns-then-not-holds-2 c =
    sym
    (and_first_true _ _ (asked_true c.holds.ensures (ap not c.if-not-holds.false))
    ∙ and_first_false _ _ (asked_false c.holds-2.ensures (ap not c.if-not-holds-2.true)))

holds-requires-3 : tie.Need-holds-requires-3
holds-requires-3 c κs = search rules

returns : tie.Need-returns
returns c =
    c.holds-3.ensures
    ∙ sym
    (and_first_true _ _ (asked_true c.holds.ensures (ap not c.if-not-holds.false))
    ∙ and_first_true _ _ (asked_true c.holds-2.ensures (ap not c.if-not-holds-2.false)))

pub proof_held_spec : {M : Type 1} → statement M
proof_held_spec =
    tie.close
    (tie.spec holds-requires returns-then-not-holds holds-requires-2 returns-then-not-holds-2 holds-requires-3 returns)
