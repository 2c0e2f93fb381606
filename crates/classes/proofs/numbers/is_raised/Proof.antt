use borrow.Author.Rules.{rules}
use Prim.Native.Nat.{ℕ, ◌+◌}
use native.Mathlib.Omega.{arith}
use mathlib.Core.Path.{◌≡◌, ◌∙◌, ap, ap₂}
use lib.Dec.{eqb}
use lib.IntN.{ℤ, neg_ℤ}
use mir.Facts.{to_z-of_z}
use Rattle.stab.specs.Basic.{nat}
use Rattle.formula.proofs.RowLaws.{offset_small}
use Rattle.classes.proofs.Meets.{raised_test}
use Rattle.classes.proofs.numbers.is_raised.Statement.{statement}
use Rattle.classes.proofs.numbers.is_raised.Tie as tie

natural_z : (c : tie.After-natural) → c.natural.result ≡ nat c.args.z
natural_z c = c.natural.ensures ∙ ap nat (to_z-of_z c.ranges.z)

under_x : (c : tie.After-under) → c.under.result ≡ nat (neg_ℤ c.args.x)
under_x c = c.under.ensures ∙ ap (λ (z : ℤ). nat (neg_ℤ z)) (to_z-of_z c.ranges.x)

natural_x : (c : tie.After-natural-2) → c.natural-2.result ≡ nat c.args.x
natural_x c = c.natural-2.ensures ∙ ap nat (to_z-of_z c.ranges.x)

under_z : (c : tie.After-under-2) → c.under-2.result ≡ nat (neg_ℤ c.args.z)
under_z c = c.under-2.ensures ∙ ap (λ (z : ℤ). nat (neg_ℤ z)) (to_z-of_z c.ranges.z)

natural-requires : tie.Need-natural-requires
natural-requires c κs = search rules

overflow_add-result : tie.Need-overflow_add-result
overflow_add-result c = let p = c.requires in omega (arith, natural_z c, offset_small _ p.1.0, p.0)

under-requires : tie.Need-under-requires
under-requires c κs = search rules

overflow_add-result-2 : tie.Need-overflow_add-result-2
overflow_add-result-2 c =
    let p = c.requires in
    omega (arith, natural_z c.before, under_x c, offset_small _ p.1.0, offset_small _ p.1.1, p.0)

natural-requires-2 : tie.Need-natural-requires-2
natural-requires-2 c κs = search rules

under-requires-2 : tie.Need-under-requires-2
under-requires-2 c κs = search rules

overflow_add-result-3 : tie.Need-overflow_add-result-3
overflow_add-result-3 c =
    let p = c.requires in
    omega (arith, natural_x c.before, under_z c, offset_small _ p.1.0, offset_small _ p.1.1)

overflow_add-result-4 : tie.Need-overflow_add-result-4
overflow_add-result-4 c =
    let p = c.requires in
    omega (arith, natural_x c.before, under_z c, offset_small _ p.1.0, offset_small _ p.1.1, p.0)

returns : tie.Need-returns
returns c =
    let a = c.args in
    ap₂ eqb
    (ap₂ (λ (m n : ℕ). m + a.up + n) (natural_z c.before.before.before) (under_x c.before.before))
    (ap₂ (λ (m n : ℕ). m + n + a.down) (natural_x c.before) (under_z c))
    ∙ raised_test _ _ a.up a.down

pub is_raised_spec : {M : Type 1} → statement M
is_raised_spec =
    tie.close
    (tie.spec
    natural-requires
    overflow_add-result
    under-requires
    overflow_add-result-2
    natural-requires-2
    under-requires-2
    overflow_add-result-3
    overflow_add-result-4
    returns)
