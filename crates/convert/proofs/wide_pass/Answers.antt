-- Each refusal is the first that is found.
use Rattle.std.proofs.Common.{◌*◌, length, not, Err, sym, ◌∙◌, ap, arith}
use borrow.Author.Tests.{lt-leb, le-leb, leb-true}
use Rattle.stab.proofs.Bools.{asked_false, asked_true, nothing_unless, found_unless, otherwise_nothing, otherwise_found}
use Rattle.stab.specs.Check.{holds, at_unless, whole_unless}
use Rattle.convert.specs.Emission.{input_refusal}
use Rattle.convert.proofs.wide_pass.Goals as goal

pub returns-then-room-lt4096 : goal.returns-then-room-lt4096
unfolding input_refusal at_unless
returns-then-room-lt4096 c =
    ap Err c.at.ensures ∙ sym (otherwise_found _ _ (found_unless _ _ _ (lt-leb 4096 _ c.if-room-lt4096.true)))

pub returns-then-not-holds : goal.returns-then-not-holds
unfolding input_refusal at_unless whole_unless
returns-then-not-holds c =
    ap Err c.whole.ensures
    ∙ sym
    (otherwise_nothing _ _ (nothing_unless _ _ _ (le-leb 4096 _ c.if-room-lt4096.false))
    ∙ otherwise_found _ _ (found_unless _ _ _ (asked_false c.holds.ensures (ap not c.if-not-holds.true))))

pub returns-then-h-gt1024 : goal.returns-then-h-gt1024
unfolding input_refusal at_unless whole_unless
returns-then-h-gt1024 c =
    ap Err c.whole-then-h-gt1024.ensures
    ∙ sym
    (otherwise_nothing _ _ (nothing_unless _ _ _ (le-leb 4096 _ c.if-room-lt4096.false))
    ∙ otherwise_nothing _ _ (nothing_unless _ _ _ (asked_true c.holds.ensures (ap not c.if-not-holds.false)))
    ∙ otherwise_found _ _ (found_unless _ _ _ (lt-leb _ 1024 c.if-h-gt1024.true)))

pub wide_rows-requires : goal.wide_rows-requires
unfolding holds
wide_rows-requires c =
    let a = c.args in (
      c.if-h-gt1024.false,
      leb-true (4 * a.h.rows) (length a.wide.now) (asked_true c.holds.ensures (ap not c.if-not-holds.false)),
      omega arith,
    )

pub returns : goal.returns
unfolding input_refusal at_unless whole_unless
returns c =
    c.wide_rows.ensures.value
    ∙ sym
    (otherwise_nothing _ _ (nothing_unless _ _ _ (le-leb 4096 _ c.if-room-lt4096.false))
    ∙ otherwise_nothing _ _ (nothing_unless _ _ _ (asked_true c.holds.ensures (ap not c.if-not-holds.false)))
    ∙ otherwise_nothing _ _ (nothing_unless _ _ _ (le-leb _ 1024 c.if-h-gt1024.false)))
