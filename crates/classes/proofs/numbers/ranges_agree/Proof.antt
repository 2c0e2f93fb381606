use mathlib.Core.Bool.{not}
use native.Mathlib.Omega.{arith}
use mathlib.Core.Path.{◌≡◌, sym, ◌∙◌, ap, ap₂}
use lib.IntN.{ℤ, pos, ◌+ℤ◌, ◌-ℤ◌}
use Rattle.stab.specs.Basic.{eq_z}
use Rattle.stab.proofs.Bools.{asked_false, asked_true, and_first_true, and_first_false}
use Rattle.signed.proofs.Signs.{read_back}
use Rattle.classes.proofs.Meets.{and_none}
use Rattle.classes.proofs.Shifts.{offset_read}
use Rattle.classes.proofs.numbers.ranges_agree.Statement.{statement}
use Rattle.classes.proofs.numbers.ranges_agree.Tie as tie

is_raised-requires : tie.Need-is_raised-requires
is_raised-requires c κs =
    let p = c.requires.1 in
    ((omega arith, omega arith), (offset_read _ c.struct_told-1.given.1.1.0.1 p.0, offset_read _ c.struct_told-2-1.given.1.1.0.1 p.1))

-- b stays
first_same : (c : tie.After-is_raised) → let a = c.args in c.is_raised.result ≡ eq_z a.x.b a.y.b
first_same c =
    let a = c.args in
    c.is_raised.ensures
    ∙ ap₂ (λ (z w : ℤ). eq_z (z +ℤ (pos 0 -ℤ pos 0)) w) (read_back a.x.b c.struct_told-1.given.1.1.0.1) (read_back a.y.b c.struct_told-2-1.given.1.1.0.1)
    ∙ ap (λ (z : ℤ). eq_z z a.y.b) (and_none a.x.b)

returns-then-not-is_raised : tie.Need-returns-then-not-is_raised
returns-then-not-is_raised c = sym (and_first_false _ _ (asked_false (first_same c.before) (ap not c.if-not-is_raised.true)))

abbrev start : tie.After-struct_told-4-1 → tie.Start
start c = c.before.before.before.before.before.before

is_raised-requires-2 : tie.Need-is_raised-requires-2
is_raised-requires-2 c κs =
    let p = (start c).requires in
    ((omega (arith, p.0), omega (arith, p.0)), (offset_read _ c.struct_told-3-1.given.1.1.1.0.1 p.1.2, offset_read _ c.struct_told-4-1.given.1.1.1.0.1 p.1.3))

returns : tie.Need-returns
returns c =
    let a = (start c.before).args in
    c.is_raised-2.ensures
    ∙ ap₂ (λ (z w : ℤ). eq_z (z +ℤ (pos a.up -ℤ pos a.down)) w) (read_back a.x.c c.struct_told-3-1.given.1.1.1.0.1) (read_back a.y.c c.struct_told-4-1.given.1.1.1.0.1)
    ∙ sym (and_first_true _ _ (asked_true (first_same c.before.before.before.before) (ap not c.if-not-is_raised.false)))

pub ranges_agree_spec : {M : Type 1} → statement M
ranges_agree_spec =
    tie.close
    (tie.spec
    is_raised-requires
    returns-then-not-is_raised
    is_raised-requires-2
    returns)
