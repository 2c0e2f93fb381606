use Prim.Native.Nat.{ℕ, ◌*◌, ◌≤◌}
use native.Mathlib.Omega.{arith}
use mathlib.Core.Path.{◌≡◌, sym, ◌∙◌, ap}
use mathlib.Core.Bool.{Bool, true, not}
use mathlib.Core.List.{List}
use borrow.Author.Rules.{rules}
use borrow.Author.Tests.{le-leb, lt-leb, leb-true, not-true, not-false}
use lib.Dec.{leb}
use lib.ListN.{length, take}
use lib.Seq.{length-take-le}
use Rattle.stab.specs.Basic.{◌and◌, all_of}
use Rattle.stab.specs.Text.{five_digits}
use Rattle.stab.specs.Check.{holds}
use Rattle.stab.specs.Write.{rows_writable}
use Rattle.stab.proofs.Bools.{and_both, and_first_false, and_second_false, asked_false, asked_true}
use Rattle.output.specs.Headed.{headed_text, write_headed}
use Rattle.writing.proofs.Writings.{too_short, too_many, no_number, left, answered}
use Rattle.writing.proofs.write_headed.Statement.{statement}
use Rattle.writing.proofs.write_headed.Tie as tie

abbrev Whole : tie.Start → List ℕ
Whole s = headed_text s.args.first.now s.args.line.now s.args.second.now s.args.w s.args.t.now s.args.rows

abbrev N : tie.Start → ℕ
N s = length s.args.out.now

-- the three tests
abbrev Held : tie.Start → Bool
Held s = leb (s.args.w * s.args.rows) (length s.args.t.now)

abbrev Few : tie.Start → Bool
Few s = leb s.args.rows s.args.most

abbrev Ok : tie.Start → Bool
Ok s = all_of five_digits s.args.line.now and all_of five_digits (take (s.args.w * s.args.rows) s.args.t.now)

-- and what is known where each has passed
abbrev S₁ : tie.Else-not-holds → tie.Start
S₁ c = c.before.before.before.before.before

held : (c : tie.Else-not-holds) → Held (S₁ c) ≡ true
unfolding holds
held c = asked_true c.holds.ensures (ap not c.if-not-holds.false)

within : (c : tie.Else-not-holds) → (S₁ c).args.w * (S₁ c).args.rows ≤ length (S₁ c).args.t.now
within c = leb-true _ _ (held c)

few : (c : tie.Else-most-rows) → Few (S₁ c.before) ≡ true
few c = le-leb _ _ c.if-most-rows.false

front : (c : tie.Else-not-writable) → all_of five_digits (S₁ c.before.before.before).args.line.now ≡ true
front c = sym c.writable.ensures ∙ not-false _ (ap not c.if-not-writable.false)

holds-requires : tie.Need-holds-requires
holds-requires c κs = search rules

refuse-requires : tie.Need-refuse-requires
refuse-requires c κs = search rules

shape_of-out-then-not-holds : tie.Need-shape_of-out-then-not-holds
shape_of-out-then-not-holds c = search rules

returns-then-not-holds : tie.Need-returns-then-not-holds
unfolding write_headed holds rows_writable
returns-then-not-holds c =
    answered (N c.before.before.before.before.before.before.before.before.before)
    (too_short (Held c.before.before.before.before.before.before.before.before.before) (Few c.before.before.before.before.before.before.before.before.before) (Ok c.before.before.before.before.before.before.before.before.before) (N c.before.before.before.before.before.before.before.before.before) (Whole c.before.before.before.before.before.before.before.before.before) (asked_false c.holds.ensures (ap not c.if-not-holds.true)))
    c.refuse.ensures

refuse-requires-then-most-rows : tie.Need-refuse-requires-then-most-rows
refuse-requires-then-most-rows c κs = search rules

shape_of-out-then-most-rows : tie.Need-shape_of-out-then-most-rows
shape_of-out-then-most-rows c = search rules

returns-then-most-rows : tie.Need-returns-then-most-rows
unfolding write_headed holds rows_writable
returns-then-most-rows c =
    let s = S₁ c.before.before.before.before.before in
    answered (N s) (too_many (Held s) (Few s) (Ok s) (N s) (Whole s) (held c.before.before.before.before.before) (lt-leb _ _ c.if-most-rows.true)) c.refuse-then-most-rows.ensures

writable-requires : tie.Need-writable-requires
writable-requires c κs = search rules

refuse-requires-then-not-writable : tie.Need-refuse-requires-then-not-writable
refuse-requires-then-not-writable c κs = search rules

shape_of-out-then-not-writable : tie.Need-shape_of-out-then-not-writable
shape_of-out-then-not-writable c = search rules

returns-then-not-writable : tie.Need-returns-then-not-writable
unfolding write_headed holds rows_writable
returns-then-not-writable c =
    let s = S₁ c.before.before.before.before.before.before.before in
    answered (N s)
    (no_number (Held s) (Few s) (Ok s) (N s) (Whole s) (held c.before.before.before.before.before.before.before) (few c.before.before.before.before.before.before)
    (and_first_false _ _ (sym c.writable.ensures ∙ not-true _ (ap not c.if-not-writable.true))))
    c.refuse-then-not-writable.ensures

overflow_mul-count : tie.Need-overflow_mul-count
overflow_mul-count c =
    record { fits = omega (arith, within c.before.before.before, (S₁ c.before.before.before).well_formed.1.1.1.1.1.0.0) }

slice_bounds-writable-end : tie.Need-slice_bounds-writable-end
slice_bounds-writable-end c =
    sym (length-take-le ((S₁ c.before.before.before).args.w * (S₁ c.before.before.before).args.rows) (S₁ c.before.before.before).args.t.now (within c.before.before.before))

writable-requires-2 : tie.Need-writable-requires-2
writable-requires-2 c κs = search rules

refuse-requires-then-not-writable-2 : tie.Need-refuse-requires-then-not-writable-2
refuse-requires-then-not-writable-2 c κs = search rules

shape_of-out-then-not-writable-2 : tie.Need-shape_of-out-then-not-writable-2
shape_of-out-then-not-writable-2 c = search rules

returns-then-not-writable-2 : tie.Need-returns-then-not-writable-2
unfolding write_headed holds rows_writable
returns-then-not-writable-2 c =
    let s = S₁ c.before.before.before.before.before.before.before.before.before in
    answered (N s)
    (no_number (Held s) (Few s) (Ok s) (N s) (Whole s) (held c.before.before.before.before.before.before.before.before.before) (few c.before.before.before.before.before.before.before.before)
    (and_second_false (all_of five_digits s.args.line.now) _ (sym c.writable-2.ensures ∙ not-true _ (ap not c.if-not-writable-2.true))))
    c.refuse-then-not-writable-2.ensures

-- the rows can be written
rows : (c : tie.Else-not-writable-2) → all_of five_digits (take ((S₁ c.before.before.before.before.before).args.w * (S₁ c.before.before.before.before.before).args.rows) (S₁ c.before.before.before.before.before).args.t.now) ≡ true
rows c = sym c.writable-2.ensures ∙ not-false _ (ap not c.if-not-writable-2.false)

fill_headed-requires : tie.Need-fill_headed-requires
fill_headed-requires c κs = (
  (S₁ c.before.before.before.before.before.before).requires.0,
  record { some = (S₁ c.before.before.before.before.before.before).requires.0.some; digits = front c.before.before.before },
  record { some = (S₁ c.before.before.before.before.before.before).requires.1; held = within c.before.before.before.before.before.before; digits = rows c.before },
)

shape_of-out : tie.Need-shape_of-out
shape_of-out c = search rules

returns : tie.Need-returns
unfolding write_headed holds rows_writable
returns c =
    let s = S₁ c.before.before.before.before.before.before.before.before.before in
    answered (N s)
    (left (Held s) (Few s) (Ok s) (N s) (Whole s) (held c.before.before.before.before.before.before.before.before.before) (few c.before.before.before.before.before.before.before.before) (and_both _ _ (front c.before.before.before.before.before.before) (rows c.before.before.before.before)))
    c.fill_headed.ensures

pub write_headed_spec : {M : Type 1} → statement M
write_headed_spec =
    tie.close
    (tie.spec
    holds-requires
    refuse-requires
    shape_of-out-then-not-holds
    returns-then-not-holds
    refuse-requires-then-most-rows
    shape_of-out-then-most-rows
    returns-then-most-rows
    writable-requires
    refuse-requires-then-not-writable
    shape_of-out-then-not-writable
    returns-then-not-writable
    overflow_mul-count
    slice_bounds-writable-end
    writable-requires-2
    refuse-requires-then-not-writable-2
    shape_of-out-then-not-writable-2
    returns-then-not-writable-2
    fill_headed-requires
    shape_of-out
    returns)
