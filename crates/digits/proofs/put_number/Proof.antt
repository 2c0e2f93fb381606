use Prim.Native.Nat.{ℕ, ◌≤◌}
use native.Mathlib.Omega.{arith}
use mathlib.Core.Path.{◌≡◌, refl, sym, ◌∙◌, ap, subst}
use mathlib.Core.List.{List, [], ◌∷◌}
use borrow.Author.Rules.{rules}
use lib.IntN.{ℤ, neg_ℤ}
use lib.ListN.{length, set, length-set}
use mir.Facts.{to_z-of_z}
use Rattle.stab.specs.Basic.{nat}
use Rattle.stab.specs.Text.{digits_n, decimal}
use Rattle.digits.specs.Over.{over}
use Rattle.digits.proofs.Overs.{over_byte, Room, lent_room, lent_over, lent_length}
use Rattle.digits.proofs.Decimals.{decimal_plain, decimal_minus, five_nat, five_under, count_most}
use Rattle.digits.proofs.put_number.Statement.{statement}
use Rattle.digits.proofs.put_number.Tie as tie

under-below-requires : tie.Need-under-below-requires
under-below-requires c κs = search rules

natural-requires : tie.Need-natural-requires
natural-requires c κs = search rules

-- how far below 0 the number lies
below : (c : tie.After-under-below) → c.under-below.result ≡ nat (neg_ℤ c.args.z)
below c = c.under-below.ensures ∙ ap (λ (z : ℤ). nat (neg_ℤ z)) (to_z-of_z c.ranges.z)

-- without a minus the number is its natural part
plain : (c : tie.After-natural) → decimal c.args.z ≡ digits_n 4 c.natural.result
plain c =
    decimal_plain c.args.z (sym (below c.before.before.before) ∙ c.if-below-eq0.true)
    ∙ ap (digits_n 4) (sym (c.natural.ensures ∙ ap nat (to_z-of_z c.ranges.z)))

put_digits-requires : tie.Need-put_digits-requires
put_digits-requires c κs = (
  omega (arith, c.natural.ensures ∙ ap nat (to_z-of_z c.ranges.z), five_nat c.args.z c.requires.0),
  subst (λ (d : List ℕ). length d ≤ length c.args.out.now) (plain c) c.requires.1,
)

shape_of-out-then-below-eq0 : tie.Need-shape_of-out-then-below-eq0
shape_of-out-then-below-eq0 c = search rules

returns-then-below-eq0 : tie.Need-returns-then-below-eq0
returns-then-below-eq0 c =
    let out = c.args.out.now in (
      c.put_digits.ensures.0 ∙ ap length (sym (plain c.before.before.before)),
      c.put_digits.ensures.1 ∙ ap (λ (d : List ℕ). over d out) (sym (plain c.before.before.before)),
    )

-- a minus in front of the digits
minus : (c : tie.Else-below-eq0) → decimal c.args.z ≡ 45 ∷ digits_n 4 c.under-below.result
minus c =
    decimal_minus c.args.z (λ e. c.if-below-eq0.false (below c.before ∙ e))
    ∙ ap (λ (v : ℕ). 45 ∷ digits_n 4 v) (sym (below c.before))

room : (c : tie.Else-below-eq0) → length (45 ∷ digits_n 4 c.under-below.result) ≤ length c.args.out.now
room c = omega (arith, ap length (minus c), c.requires.1)

marked : (c : tie.Else-below-eq0) → set c.args.out.now 0 45 ≡ over (45 ∷ []) c.args.out.now
unfolding over
marked c = over_byte [] c.args.out.now 45 (omega (arith, room c))

after : (c : tie.Else-below-eq0) → Room (45 ∷ []) (digits_n 4 c.under-below.result) c.args.out.now (set c.args.out.now 0 45) 1
after c = record { is = marked c; ends = refl; fits = room c }

bounds-out-0 : tie.Need-bounds-out-0
bounds-out-0 c = omega (arith, room c)

slice_bounds-put_digits-count : tie.Need-slice_bounds-put_digits-count
slice_bounds-put_digits-count c = omega (arith, length-set c.args.out.now 0 45, room c)

slice_bounds-put_digits-start : tie.Need-slice_bounds-put_digits-start
slice_bounds-put_digits-start c = omega (arith, length-set c.args.out.now 0 45, room c)

slice_bounds-put_digits-end : tie.Need-slice_bounds-put_digits-end
slice_bounds-put_digits-end c = search rules

put_digits-requires-2 : tie.Need-put_digits-requires-2
put_digits-requires-2 c κs = (
  omega (arith, below c.before.before, five_under c.args.z c.requires.0),
  lent_room (after c.before),
)

overflow_add-result : tie.Need-overflow_add-result
overflow_add-result c = omega (arith, c.put_digits-2.ensures.0, count_most 4 c.under-below.result)

shape_of-out : tie.Need-shape_of-out
shape_of-out c =
    lent_length (after c.before.before.before.before) c.put_digits-2.ensures.1

returns : tie.Need-returns
returns c = (
  omega (arith, c.put_digits-2.ensures.0, ap length (minus c.before.before.before.before)),
  lent_over (after c.before.before.before.before) c.put_digits-2.ensures.1 ∙ ap (λ (d : List ℕ). over d c.args.out.now) (sym (minus c.before.before.before.before)),
)

pub put_number_spec : {M : Type 1} → statement M
put_number_spec =
    tie.close
    (tie.spec
    under-below-requires
    natural-requires
    put_digits-requires
    shape_of-out-then-below-eq0
    returns-then-below-eq0
    bounds-out-0
    slice_bounds-put_digits-count
    slice_bounds-put_digits-start
    slice_bounds-put_digits-end
    put_digits-requires-2
    overflow_add-result
    shape_of-out
    returns)
