use mathlib.Core.Bool.{not}
use mathlib.Core.Path.{ap}
use Prim.Native.Nat.{◌*◌, ◌≤◌}
use native.Mathlib.Omega.{arith}
use lib.ListN.{length}
use borrow.Author.Tests.{leb-true}
use borrow.Author.Rules.{rules}
use Rattle.stab.specs.declared.Refusal.TheVariants.{TableTooShort, NotListed}
use Rattle.stab.proofs.Bools.{and_first_false, and_second_false, asked_false, asked_true}
use Rattle.stab.specs.Check.{holds}
use Rattle.small.proofs.Order.{too_many}
use Rattle.nextsmall.proofs.Answers.{no_rows, both_hold, too_short, not_listed, refused_so}
use Rattle.nextsmall.proofs.next_small.Statement.{statement}
use Rattle.nextsmall.proofs.next_small.Tie as tie

abbrev start : tie.Else-not-holds-2 → tie.Start
start c = c.before.before.before.before

-- either table holds the rows
given : (c : tie.Else-not-holds-2) → 4 * (start c).args.rows ≤ length (start c).args.table.now
unfolding holds
given c = leb-true _ _ (asked_true c.holds.ensures (ap not c.if-not-holds.false))

lent : (c : tie.Else-not-holds-2) → 4 * (start c).args.rows ≤ length (start c).args.next.now
unfolding holds
lent c = leb-true _ _ (asked_true c.holds-2.ensures (ap not c.if-not-holds-2.false))

holds-requires : tie.Need-holds-requires
holds-requires c κs = search rules

refuse-requires : tie.Need-refuse-requires
refuse-requires c κs = search rules

shape_of-next-then-not-holds : tie.Need-shape_of-next-then-not-holds
shape_of-next-then-not-holds c = search rules

returns-then-not-holds : tie.Need-returns-then-not-holds
returns-then-not-holds c =
    let t = c.args.table.now in
    let n = c.args.rows in
    let room = length c.args.next.now in
    refused_so n t room TableTooShort _ _ (too_short n t room (and_first_false _ _ (asked_false c.holds.ensures (ap not c.if-not-holds.true)))) c.refuse.ensures.0 c.refuse.ensures.1

holds-requires-2 : tie.Need-holds-requires-2
holds-requires-2 c κs = search rules

refuse-requires-then-not-holds-2 : tie.Need-refuse-requires-then-not-holds-2
refuse-requires-then-not-holds-2 c κs = search rules

shape_of-next-then-not-holds-2 : tie.Need-shape_of-next-then-not-holds-2
shape_of-next-then-not-holds-2 c = search rules

returns-then-not-holds-2 : tie.Need-returns-then-not-holds-2
unfolding holds
returns-then-not-holds-2 c =
    let t = c.args.table.now in
    let n = c.args.rows in
    let room = length c.args.next.now in
    refused_so n t room TableTooShort _ _ (too_short n t room (and_second_false (holds t 4 n) _ (asked_false c.holds-2.ensures (ap not c.if-not-holds-2.true)))) c.refuse-then-not-holds-2.ensures.0
    c.refuse-then-not-holds-2.ensures.1

refuse-requires-then-rows-eq0 : tie.Need-refuse-requires-then-rows-eq0
refuse-requires-then-rows-eq0 c κs = search rules

shape_of-next-then-rows-eq0 : tie.Need-shape_of-next-then-rows-eq0
shape_of-next-then-rows-eq0 c = search rules

returns-then-rows-eq0 : tie.Need-returns-then-rows-eq0
returns-then-rows-eq0 c =
    let s = start c.before.before.before.before in
    let t = s.args.table.now in
    let n = s.args.rows in
    let room = length s.args.next.now in
    refused_so n t room NotListed _ _ (not_listed n t room (both_hold n t room (given c.before.before.before.before) (lent c.before.before.before.before)) (no_rows n t c.if-rows-eq0.true)) c.refuse-then-rows-eq0.ensures.0
    c.refuse-then-rows-eq0.ensures.1

refuse-requires-then-rows-gt3 : tie.Need-refuse-requires-then-rows-gt3
refuse-requires-then-rows-gt3 c κs = search rules

shape_of-next-then-rows-gt3 : tie.Need-shape_of-next-then-rows-gt3
shape_of-next-then-rows-gt3 c = search rules

returns-then-rows-gt3 : tie.Need-returns-then-rows-gt3
returns-then-rows-gt3 c =
    let s = start c.before.before.before.before.before in
    let t = s.args.table.now in
    let n = s.args.rows in
    let room = length s.args.next.now in
    refused_so n t room NotListed _ _ (not_listed n t room (both_hold n t room (given c.before.before.before.before.before) (lent c.before.before.before.before.before)) (too_many n t c.if-rows-gt3.true)) c.refuse-then-rows-gt3.ensures.0 c.refuse-then-rows-gt3.ensures.1

after-requires : tie.Need-after-requires
after-requires c κs =
    (omega (arith, c.if-rows-eq0.false), omega (arith, c.if-rows-gt3.false), given c.before.before.before, lent c.before.before.before)

shape_of-next : tie.Need-shape_of-next
shape_of-next c = search rules

returns : tie.Need-returns
returns c = search rules

pub next_small_spec : {M : Type 1} → statement M
next_small_spec =
    tie.close
    (tie.spec
    holds-requires
    refuse-requires
    shape_of-next-then-not-holds
    returns-then-not-holds
    holds-requires-2
    refuse-requires-then-not-holds-2
    shape_of-next-then-not-holds-2
    returns-then-not-holds-2
    refuse-requires-then-rows-eq0
    shape_of-next-then-rows-eq0
    returns-then-rows-eq0
    refuse-requires-then-rows-gt3
    shape_of-next-then-rows-gt3
    returns-then-rows-gt3
    after-requires
    shape_of-next
    returns)
