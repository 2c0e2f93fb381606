use native.Mathlib.Omega.{arith}
use Prim.Native.Nat.{ℕ, ◌+◌, ◌*◌, ◌<◌}
use mathlib.Core.Path.{◌≡◌, refl, ◌∙◌, ap, ap₂}
use mathlib.Core.Option.{some}
use lib.IntN.{ℤ, neg_ℤ}
use lib.ListN.{get_or}
use borrow.Author.Rules.{rules}
use Rattle.stab.specs.Basic.{nat}
use Rattle.signed.proofs.Signs.{read_back}
use Rattle.formula.specs.Cells.{row_of}
use Rattle.classes.specs.Class.{shift_code}
use Rattle.classes.specs.Key.{iteration_form}
use Rattle.classes.proofs.Shifts.{offset_read}
use Rattle.classes.proofs.Forms.{form_same}
use Rattle.classes.proofs.form.iteration.Statement.{statement}
use Rattle.classes.proofs.form.iteration.Tie as tie

-- where the body has been read
abbrev start : tie.After-natural-body → tie.Start
start c = c.before.before.before

body_is : (c : tie.After-natural-body) → c.natural-body.result ≡ nat (start c).args.w.a
body_is c = c.natural-body.ensures ∙ ap nat (read_back (start c).args.w.a c.struct_told-1.given.1.0.1)

body_small : (c : tie.After-natural-body) → c.natural-body.result < 1024
body_small c = omega (arith, body_is c, (start c).requires.0)

natural-body-requires : tie.Need-natural-body-requires
natural-body-requires c κs = search rules

overflow_mul-body : tie.Need-overflow_mul-body
overflow_mul-body c = omega (arith, body_small c)

held_at-class-requires : tie.Need-held_at-class-requires
held_at-class-requires c κs = omega (arith, body_is c, (start c).requires.3)

overflow_mul-body-2 : tie.Need-overflow_mul-body-2
overflow_mul-body-2 c = omega (arith, body_small c.before)

overflow_add-body : tie.Need-overflow_add-body
overflow_add-body c = omega (arith, body_small c.before)

held_at-shift-requires : tie.Need-held_at-shift-requires
held_at-shift-requires c κs = omega (arith, body_is c.before, (start c.before).requires.3)

overflow_mul-low : tie.Need-overflow_mul-low
overflow_mul-low c = search rules

overflow_add-low : tie.Need-overflow_add-low
overflow_add-low c = omega (arith, body_small c.before.before, c.held_at-class.ensures.1, c.held_at-shift.ensures.1)

raised-high-requires : tie.Need-raised-high-requires
raised-high-requires c κs = search (rules, offset_read)

mirrored-requires : tie.Need-mirrored-requires
mirrored-requires c κs = search (rules, offset_read)

returns : tie.Need-returns
unfolding iteration_form row_of
returns c =
    let b = start c.before.before.before.before.before.before in
    form_same
    (c.mirrored.ensures ∙ ap (λ (z : ℤ). shift_code (some (neg_ℤ z))) (read_back b.args.w.c c.struct_told-3-1.given.1.1.1.0.1))
    refl
    (ap₂ (λ (x y : ℕ). x + 1024 * y)
    (c.held_at-class.ensures.0 ∙ ap (λ (m : ℕ). get_or b.args.forms.now (4 * m) 0) (body_is c.before.before.before.before.before.before))
    (c.held_at-shift.ensures.0 ∙ ap (λ (m : ℕ). get_or b.args.forms.now (4 * m + 1) 0) (body_is c.before.before.before.before.before.before)))
    (c.raised-high.ensures ∙ ap (λ (z : ℤ). shift_code (some z)) (read_back b.args.w.b c.struct_told-2-1.given.1.1.0.1))

pub iteration_spec : {M : Type 1} → statement M
iteration_spec =
    tie.close
    (tie.spec
    natural-body-requires
    overflow_mul-body
    held_at-class-requires
    overflow_mul-body-2
    overflow_add-body
    held_at-shift-requires
    overflow_mul-low
    overflow_add-low
    raised-high-requires
    mirrored-requires
    returns)
