use native.Mathlib.Omega.{arith}
use mathlib.Core.Path.{sym, ◌∙◌, ap}
use Prim.Native.Nat.{ℕ}
use borrow.Author.Rules.{rules}
use lib.IntN.{ℤ, neg_ℤ}
use lib.ListN.{length}
use mir.Facts.{to_z-of_z}
use Rattle.stab.specs.Basic.{nat}
use Rattle.stab.specs.Text.{digits_n}
use Rattle.digits.proofs.Decimals.{decimal_plain, decimal_minus, count_most}
use Rattle.digits.proofs.width.Statement.{statement}
use Rattle.digits.proofs.width.Tie as tie

under-below-requires : tie.Need-under-below-requires
under-below-requires c κs = search rules

natural-requires : tie.Need-natural-requires
natural-requires c κs = search rules

digit_count-requires : tie.Need-digit_count-requires
digit_count-requires c κs = search rules

returns-then-below-eq0 : tie.Need-returns-then-below-eq0
returns-then-below-eq0 c =
    let e = to_z-of_z c.ranges.z in
    let u = c.under-below.ensures ∙ ap (λ (z : ℤ). nat (neg_ℤ z)) e in
    c.digit_count.ensures
    ∙ ap (λ (v : ℕ). length (digits_n 4 v)) (c.natural.ensures ∙ ap nat e)
    ∙ ap length (sym (decimal_plain c.args.z (sym u ∙ c.if-below-eq0.true)))

digit_count-requires-2 : tie.Need-digit_count-requires-2
digit_count-requires-2 c κs = search rules

overflow_add-result : tie.Need-overflow_add-result
overflow_add-result c = omega (arith, c.digit_count-2.ensures, count_most 4 c.under-below.result)

returns : tie.Need-returns
returns c =
    let u = c.under-below.ensures ∙ ap (λ (z : ℤ). nat (neg_ℤ z)) (to_z-of_z c.ranges.z) in
    let k = c.digit_count-2.ensures ∙ ap (λ (v : ℕ). length (digits_n 4 v)) u in
    omega (arith, k, ap length (decimal_minus c.args.z (λ z. c.if-below-eq0.false (u ∙ z))))

pub width_spec : {M : Type 1} → statement M
width_spec =
    tie.close
    (tie.spec
    under-below-requires
    natural-requires
    digit_count-requires
    returns-then-below-eq0
    digit_count-requires-2
    overflow_add-result
    returns)
