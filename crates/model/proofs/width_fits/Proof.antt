use Prim.Native.Nat.{ℕ, ◌+◌}
use native.Mathlib.Omega.{arith}
use mathlib.Core.Path.{◌≡◌, sym, ◌∙◌, ap, ap₂}
use lib.Dec.{leb}
use lib.IntN.{ℤ, neg_ℤ}
use lib.Signed.{le_z}
use mir.Facts.{to_z-of_z}
use borrow.Author.Rules.{rules}
use borrow.Author.Tests.{le-leb, lt-leb}
use Rattle.stab.specs.Basic.{nat}
use Rattle.stab.proofs.Bools.{and_first_false, and_first_true}
use Rattle.signed.proofs.Signs.{nat_small, under_small}
use Rattle.pairs.proofs.Parts.{high_is}
use Rattle.model.proofs.Passes.{order_is}
use Rattle.model.proofs.width_fits.Statement.{statement}
use Rattle.model.proofs.width_fits.Tie as tie

-- a signed number is kept as bits, and read back from them
least_nat : (c : tie.After-natural) → c.natural.result ≡ nat c.args.least
least_nat c = c.natural.ensures ∙ ap nat (to_z-of_z c.ranges.least)

n_under : (c : tie.After-under) → c.under.result ≡ nat (neg_ℤ c.args.n)
n_under c = c.under.ensures ∙ ap (λ (z : ℤ). nat (neg_ℤ z)) (to_z-of_z c.ranges.n)

n_nat : (c : tie.After-natural-2) → c.natural-2.result ≡ nat c.args.n
n_nat c = c.natural-2.ensures ∙ ap nat (to_z-of_z c.ranges.n)

least_under : (c : tie.After-under-2) → c.under-2.result ≡ nat (neg_ℤ c.args.least)
least_under c = c.under-2.ensures ∙ ap (λ (z : ℤ). nat (neg_ℤ z)) (to_z-of_z c.ranges.least)

-- the test of the first branch
order : (c : tie.After-under-2) →
    le_z c.args.least c.args.n ≡ leb (c.natural.result + c.under.result) (c.natural-2.result + c.under-2.result)
order c =
    order_is c.args.least c.args.n
    ∙ ap₂ leb
    (ap₂ ◌+◌ (sym (least_nat c.before.before.before)) (sym (n_under c.before.before)))
    (ap₂ ◌+◌ (sym (n_nat c.before)) (sym (least_under c)))

natural-requires : tie.Need-natural-requires
natural-requires c κs = search rules

under-requires : tie.Need-under-requires
under-requires c κs = search rules

overflow_add-natural : tie.Need-overflow_add-natural
overflow_add-natural c =
    record { fits = omega (arith, least_nat c.before, n_under c, nat_small _ c.ranges.least, under_small _ c.ranges.n) }

natural-requires-2 : tie.Need-natural-requires-2
natural-requires-2 c κs = search rules

under-requires-2 : tie.Need-under-requires-2
under-requires-2 c κs = search rules

overflow_add-natural-2 : tie.Need-overflow_add-natural-2
overflow_add-natural-2 c =
    record { fits = omega (arith, n_nat c.before, least_under c, nat_small _ c.ranges.n, under_small _ c.ranges.least) }

natural-requires-then-natural-under : tie.Need-natural-requires-then-natural-under
natural-requires-then-natural-under c κs = search rules

returns-then-natural-under : tie.Need-returns-then-natural-under
returns-then-natural-under c =
    ap (λ (k : ℕ). leb k 9999) (c.natural-then-natural-under.ensures ∙ ap nat (to_z-of_z c.ranges.n))
    ∙ sym (high_is 9999 c.args.n)
    ∙ sym (and_first_true _ _ (order c.before.before ∙ le-leb _ _ c.if-natural-under.true))

returns : tie.Need-returns
returns c = sym (and_first_false _ _ (order c.before ∙ lt-leb _ _ c.if-natural-under.false))

pub width_fits_spec : {M : Type 1} → statement M
width_fits_spec =
    tie.close
    (tie.spec
    natural-requires
    under-requires
    overflow_add-natural
    natural-requires-2
    under-requires-2
    overflow_add-natural-2
    natural-requires-then-natural-under
    returns-then-natural-under
    returns)
