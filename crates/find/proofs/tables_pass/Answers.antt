-- Each test that fails is the first that does.
use Rattle.std.proofs.Common.{not, Err, sym, ◌∙◌, ap}
use borrow.Author.Tests.{le-leb, lt-leb}
use Rattle.stab.proofs.Bools.{asked_false, asked_true}
use Rattle.model.proofs.Passes.{whole_none, found_last, found_here, found_later}
use Rattle.find.specs.Search.{tables_refusal}
use Rattle.find.proofs.Searches.{at_here, at_later}
use Rattle.find.proofs.tables_pass.Goals as goal

pub returns-then-room-lt8192 : goal.returns-then-room-lt8192
unfolding tables_refusal
returns-then-room-lt8192 c = ap Err c.at.ensures ∙ at_here _ _ _ _ (lt-leb _ _ c.if-room-lt8192.true)

pub returns-then-not-holds : goal.returns-then-not-holds
unfolding tables_refusal
returns-then-not-holds c =
    at_later _ _ _ _ _ (le-leb _ _ c.if-room-lt8192.false)
    (found_here _ _ _ _ (ap Err c.whole.ensures) (asked_false c.holds.ensures (ap not c.if-not-holds.true)))

pub returns-then-schema_rows-gt1024 : goal.returns-then-schema_rows-gt1024
unfolding tables_refusal
returns-then-schema_rows-gt1024 c =
    at_later _ _ _ _ _ (le-leb _ _ c.if-room-lt8192.false)
    (found_later _ _ _ _ (asked_true c.holds.ensures (ap not c.if-not-holds.false))
    (found_last _ _ _ (ap Err c.whole-then-schema_rows-gt1024.ensures) (lt-leb _ _ c.if-schema_rows-gt1024.true)))

pub returns : goal.returns
unfolding tables_refusal
returns c =
    at_later _ _ _ _ _ (le-leb _ _ c.if-room-lt8192.false)
    (found_later _ _ _ _ (asked_true c.holds.ensures (ap not c.if-not-holds.false))
    (sym (whole_none _ _ (le-leb _ _ c.if-schema_rows-gt1024.false))))
