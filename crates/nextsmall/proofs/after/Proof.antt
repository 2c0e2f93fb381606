use mathlib.Core.Bool.{not}
use Prim.Native.Nat.{◌+◌, ◌<◌}
use native.Mathlib.Omega.{arith}
use mathlib.Core.Path.{◌≡◌, ◌∙◌, ap}
use lib.ListN.{length}
use borrow.Author.Rules.{rules}
use Rattle.stab.specs.declared.Refusal.TheVariants.{NotListed}
use Rattle.stab.proofs.Bools.{asked_false, asked_true}
use Rattle.small.specs.Small.{tables, next_table}
use Rattle.nextsmall.specs.Places.{first_from}
use Rattle.nextsmall.proofs.Answers.{no_fit, Holds, both_hold, not_listed, refused_so, table_so, last_so}
use Rattle.nextsmall.proofs.TablePlaces.{next_from}
use Rattle.nextsmall.proofs.after.Statement.{statement}
use Rattle.nextsmall.proofs.after.Tie as tie

held : (s : tie.Start) → Holds s.args.rows s.args.table.now (length s.args.next.now)
held s = both_hold s.args.rows s.args.table.now (length s.args.next.now) s.requires.2 s.requires.3

found : (c : tie.Else-total-i) → c.place-i.result < length (tables c.args.rows)
found c = omega (arith, c.if-total-i.false, c.total.ensures.0)

abbrev start : tie.Else-not-on_list → tie.Start
start c = c.before.before.before.before.before

-- the table after the given one
next_is : (c : tie.Else-not-on_list) → let s = start c in next_table s.args.rows s.args.table.now ≡ first_from s.args.rows (c.place-i.result + 1)
next_is c =
    next_from c.args.rows c.place-i.result (found c.before.before) c.args.table.now c.requires.1 (c.place-i.ensures.here (found c.before.before))

place-i-requires : tie.Need-place-i-requires
place-i-requires c κs = search rules

total-requires : tie.Need-total-requires
total-requires c κs = search rules

refuse-requires : tie.Need-refuse-requires
refuse-requires c κs = search rules

shape_of-next-then-total-i : tie.Need-shape_of-next-then-total-i
shape_of-next-then-total-i c = search rules

returns-then-total-i : tie.Need-returns-then-total-i
returns-then-total-i c =
    let t = c.args.table.now in
    let n = c.args.rows in
    let room = length c.args.next.now in
    refused_so n t room NotListed _ _
    (not_listed n t room (held c.before.before.before.before.before.before) (no_fit n t (c.place-i.ensures.nowhere (omega (arith, c.if-total-i.true, c.total.ensures.0)))))
    c.refuse.ensures.0 c.refuse.ensures.1

on_list-requires : tie.Need-on_list-requires
on_list-requires c κs = (c.requires.0, c.requires.1, c.requires.2, c.place-i.ensures.fits (found c))

refuse-requires-then-not-on_list : tie.Need-refuse-requires-then-not-on_list
refuse-requires-then-not-on_list c κs = search rules

shape_of-next-then-not-on_list : tie.Need-shape_of-next-then-not-on_list
shape_of-next-then-not-on_list c = search rules

returns-then-not-on_list : tie.Need-returns-then-not-on_list
returns-then-not-on_list c =
    let t = c.args.table.now in
    let n = c.args.rows in
    let room = length c.args.next.now in
    refused_so n t room NotListed _ _ (not_listed n t room (held c.before.before.before.before.before.before.before.before) (asked_false c.on_list.ensures (ap not c.if-not-on_list.true))) c.refuse-then-not-on_list.ensures.0 c.refuse-then-not-on_list.ensures.1

overflow_add-i : tie.Need-overflow_add-i
overflow_add-i c = search rules

first-requires : tie.Need-first-requires
first-requires c κs = search rules

overflow_mul-rows : tie.Need-overflow_mul-rows
overflow_mul-rows c = search rules

clear-requires : tie.Need-clear-requires
clear-requires c κs = search rules

shape_of-next-then-first : tie.Need-shape_of-next-then-first
shape_of-next-then-first c = search rules

returns-then-first : tie.Need-returns-then-first
returns-then-first c =
    let s = start c.before.before.before.before.before.before.before in
    let v = c.first.new.table in
    table_so s.args.rows s.args.table.now _ (held s) (asked_true c.on_list.ensures (ap not c.if-not-on_list.false)) v _ c.first.auto.table
    (next_is c.before.before.before.before.before.before.before ∙ c.first.ensures.0 c.if-first.true) (omega (arith, s.requires.3, c.first.auto.table)) c.clear.ensures

clear-requires-2 : tie.Need-clear-requires-2
clear-requires-2 c κs = search rules

shape_of-next : tie.Need-shape_of-next
shape_of-next c = search rules

returns : tie.Need-returns
returns c =
    let s = start c.before.before.before.before.before.before.before in
    let v = c.first.new.table in
    last_so s.args.rows s.args.table.now _ (held s) (asked_true c.on_list.ensures (ap not c.if-not-on_list.false)) v _ c.first.auto.table
    (next_is c.before.before.before.before.before.before.before ∙ c.first.ensures.1 c.if-first.false) c.clear-2.ensures

pub after_spec : {M : Type 1} → statement M
after_spec =
    tie.close
    (tie.spec
    place-i-requires
    total-requires
    refuse-requires
    shape_of-next-then-total-i
    returns-then-total-i
    on_list-requires
    refuse-requires-then-not-on_list
    shape_of-next-then-not-on_list
    returns-then-not-on_list
    overflow_add-i
    first-requires
    overflow_mul-rows
    clear-requires
    shape_of-next-then-first
    returns-then-first
    clear-requires-2
    shape_of-next
    returns)
