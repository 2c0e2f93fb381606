use Prim.Native.Nat.{ℕ, ◌≤◌}
use native.Mathlib.Omega.{arith}
use mathlib.Core.Path.{◌≡◌, sym, ◌∙◌, ap, subst}
use mathlib.Core.Bool.{true}
use mathlib.Core.List.{List}
use borrow.Author.Rules.{rules}
use lib.IntN.{ℤ}
use lib.ListN.{length}
use mir.Facts.{to_z-of_z}
use Rattle.stab.specs.Text.{decimal, five_digits}
use Rattle.digits.specs.Over.{over}
use Rattle.digits.proofs.Overs.{over_next}
use Rattle.output.proofs.Spreads.{spread_one, one_length}
use Rattle.output.proofs.put_spaced.Statement.{statement}
use Rattle.output.proofs.put_spaced.Tie as tie

put_number-n-requires : tie.Need-put_number-n-requires
put_number-n-requires c κs =
    subst (λ (z : ℤ). (five_digits z ≡ true) × (length (decimal z) ≤ length c.args.out.now)) (sym (to_z-of_z c.ranges.z))
    (c.requires.0, omega (arith, one_length c.args.z, c.requires.1))

-- what the number's writer says
wrote : (c : tie.After-put_number-n) →
    (c.put_number-n.result ≡ length (decimal c.args.z)) × (c.put_number-n.new.out ≡ over (decimal c.args.z) c.args.out.now)
wrote c =
    subst (λ (z : ℤ). (c.put_number-n.result ≡ length (decimal z)) × (c.put_number-n.new.out ≡ over (decimal z) c.args.out.now))
    (to_z-of_z c.ranges.z)
    c.put_number-n.ensures

bounds-out-n : tie.Need-bounds-out-n
bounds-out-n c =
    omega (arith, (wrote c.before.before).0, one_length c.args.z, c.requires.1, c.put_number-n.auto.out)

overflow_add-result : tie.Need-overflow_add-result
overflow_add-result c =
    omega (arith, (wrote c.before.before).0, one_length c.args.z, c.requires.1, c.well_formed.0.0)

shape_of-out : tie.Need-shape_of-out
shape_of-out c = search rules

returns : tie.Need-returns
returns c = (
  omega (arith, (wrote c.before.before).0, one_length c.args.z),
  over_next (decimal c.args.z) c.args.out.now c.put_number-n.new.out c.put_number-n.result 32 (wrote c.before.before).1 (wrote c.before.before).0
      (omega (arith, (wrote c.before.before).0, one_length c.args.z, c.requires.1))
      ∙ ap (λ (x : List ℕ). over x c.args.out.now) (sym (spread_one c.args.z)),
)

pub put_spaced_spec : {M : Type 1} → statement M
put_spaced_spec =
    tie.close
    (tie.spec put_number-n-requires bounds-out-n overflow_add-result shape_of-out returns)
