-- A natural number of at most five digits with a sign, as a number of 32 bits.
use Prim.Native.Nat.{ℕ, zero, suc, ◌≤◌}
use native.Mathlib.Omega.{arith}
use mathlib.Core.Path.{◌≡◌, ◌∙◌, ap}
use lib.IntN.{ℤ, pos, neg_ℤ, ◌-ℤ◌}
use mir.Syntax.{w32}
use mir.Val.{SFits, of_z, to_z}
use mir.Facts.{to_z-of_z, to_z_pos}
use Rattle.stab.proofs.Whole.{num, ◌⊖◌, less, eq_of}

-- its bits are its own
pub of_bits : (v : ℕ) → v ≤ 99999 → to_z w32 v ≡ pos v
of_bits v h = to_z_pos w32 (omega arith)

less_fits : (v : ℕ) → v ≤ 99999 → SFits w32 (neg_ℤ (pos v))
less_fits zero h = record { sfits = omega arith }
less_fits (suc v) h = record { sfits = omega arith }

from_zero : (v : ℕ) → v ≤ 99999 → (pos 0 -ℤ to_z w32 v) ≡ neg_ℤ (pos v)
from_zero v h = ap (λ (z : ℤ). pos 0 -ℤ z) (of_bits v h) ∙ eq_of (num 0 ⊖ num v) (less (num v)) (omega arith)

pub minus_fits : (v : ℕ) → v ≤ 99999 → SFits w32 (pos 0 -ℤ to_z w32 v)
minus_fits v h = rw (from_zero v h) (less_fits v h)

pub minus_bits : (v : ℕ) → v ≤ 99999 → to_z w32 (of_z w32 (pos 0 -ℤ to_z w32 v)) ≡ neg_ℤ (pos v)
minus_bits v h = to_z-of_z (minus_fits v h) ∙ from_zero v h
