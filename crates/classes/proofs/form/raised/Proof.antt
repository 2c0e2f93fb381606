use native.Mathlib.Omega.{arith}
use Prim.Native.Nat.{ℕ, ◌+◌, ◌-◌}
use mathlib.Core.Path.{◌≡◌, ◌∙◌, ap, ap₂}
use lib.IntN.{ℤ, neg_ℤ}
use mir.Facts.{to_z-of_z}
use borrow.Author.Rules.{rules}
use Rattle.stab.specs.Basic.{nat}
use Rattle.formula.proofs.RowLaws.{offset_small}
use Rattle.classes.proofs.Shifts.{raised_is}
use Rattle.classes.proofs.form.raised.Statement.{statement}
use Rattle.classes.proofs.form.raised.Tie as tie

natural_is : (c : tie.After-natural) → c.natural.result ≡ nat c.args.z
natural_is c = c.natural.ensures ∙ ap nat (to_z-of_z c.ranges.z)

under_is : (c : tie.After-under) → c.under.result ≡ nat (neg_ℤ c.args.z)
under_is c = c.under.ensures ∙ ap (λ (z : ℤ). nat (neg_ℤ z)) (to_z-of_z c.ranges.z)

natural-requires : tie.Need-natural-requires
natural-requires c κs = search rules

overflow_add-result : tie.Need-overflow_add-result
overflow_add-result c = omega (arith, natural_is c, offset_small _ c.requires)

under-requires : tie.Need-under-requires
under-requires c κs = search rules

overflow_sub-result : tie.Need-overflow_sub-result
overflow_sub-result c = omega (arith, under_is c, offset_small _ c.requires)

returns : tie.Need-returns
returns c = ap₂ (λ (a b : ℕ). a + 10000 - b) (natural_is c.before) (under_is c) ∙ raised_is _ c.requires

pub raised_spec : {M : Type 1} → statement M
raised_spec = tie.close (tie.spec natural-requires overflow_add-result under-requires overflow_sub-result returns)
