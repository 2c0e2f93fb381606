use mathlib.Core.Path.{◌≡◌, ◌∙◌, ap}
use Prim.Native.Nat.{ℕ, ◌+◌}
use native.Mathlib.Omega.{arith}
use borrow.Author.Rules.{rules}
use lib.IntN.{ℤ, negsuc, ◌-ℤ◌}
use mir.Syntax.{w32}
use mir.Facts.{to_z-of_z}
use Rattle.stab.specs.Basic.{nat}
use Rattle.signed.proofs.Signs.{mirrored_fits, nat_mirrored, nat_small, under_none}
use Rattle.signed.proofs.under.Statement.{statement}
use Rattle.signed.proofs.under.Tie as tie

mirrored-requires : tie.Need-mirrored-requires
mirrored-requires c κs = search rules

natural-requires : tie.Need-natural-requires
natural-requires c κs = search rules

-- what the two calls give; a signed number is read back from its bits between them
known : (c : tie.After-natural) → c.natural.result ≡ nat (negsuc 0 -ℤ c.args.z)
known c =
    c.natural.ensures
    ∙ ap nat
    (to_z-of_z {w = w32} (record { sfits = c.mirrored.type_inv })
    ∙ c.mirrored.ensures
    ∙ ap (λ (x : ℤ). negsuc 0 -ℤ x) (to_z-of_z c.ranges.z))

overflow_add-result : tie.Need-overflow_add-result
overflow_add-result c = record { fits = omega (arith, known c, nat_small _ (mirrored_fits _ c.ranges.z)) }

returns-then-z-lt0 : tie.Need-returns-then-z-lt0
returns-then-z-lt0 c =
    ap (λ (n : ℕ). n + 1) (known c)
    ∙ nat_mirrored c.args.z (rw (to_z-of_z c.ranges.z) at c.if-z-lt0.true)

returns-else-z-lt0 : tie.Need-returns-else-z-lt0
returns-else-z-lt0 c = under_none c.args.z (rw (to_z-of_z c.ranges.z) at c.if-z-lt0.false)

pub under_spec : {M : Type 1} → statement M
under_spec = tie.close (tie.spec mirrored-requires natural-requires overflow_add-result returns-then-z-lt0 returns-else-z-lt0)
