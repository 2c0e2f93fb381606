-- A whole number by its natural part and its distance below 0, as code reads it.
use Prim.Native.Nat.{ℕ, zero, suc, ◌≤◌}
use native.Mathlib.Omega.{arith}
use mathlib.Core.Path.{◌≡◌, refl, sym, ◌∙◌, ap}
use mathlib.Core.Bool.{true}
use lib.Dec.{ltb}
use lib.IntN.{ℤ, pos, negsuc, neg_ℤ}
use lib.Signed.{le_z, lt_z}
use Rattle.stab.specs.Basic.{nat, within}
use Rattle.stab.proofs.Bools.{and_left, and_right}
use Rattle.stab.proofs.Whole.{atom, num, of_le, nat_pos, plus_nat, nonneg_minus}

-- a number at least 0 is its natural part
pub is_natural_lem : (z : ℤ) → nat (neg_ℤ z) ≤ 0 → pos (nat z) ≡ z
unfolding nat
is_natural_lem (pos n) h = refl
is_natural_lem (negsuc n) h = absurd (omega arith)

pub natural_less : (z : ℤ) (n : ℕ) → nat (neg_ℤ z) ≤ 0 → ltb (nat z) n ≡ lt_z z (pos n)
natural_less z n h = ap (λ (x : ℤ). lt_z x (pos n)) (is_natural_lem z h)

-- ---- when a number is the natural number n

under_pos : (n : ℕ) → nat (neg_ℤ (pos n)) ≡ 0
unfolding nat
under_pos zero = refl
under_pos (suc n) = refl

pub under_of : (z : ℤ) (n : ℕ) → z ≡ pos n → nat (neg_ℤ z) ≡ 0
under_of z n e = ap (λ (x : ℤ). nat (neg_ℤ x)) e ∙ under_pos n

pub number_is : (z : ℤ) (n : ℕ) → nat (neg_ℤ z) ≤ 0 → nat z ≡ n → z ≡ pos n
number_is z n h e = sym (is_natural_lem z h) ∙ ap pos e

-- a number in 0..n
pub within_natural : (n : ℕ) (z : ℤ) → within (pos 0) (pos n) z ≡ true → pos (nat z) ≡ z
unfolding within
within_natural n z h = nat_pos z (and_left _ _ h)

pub within_most : (n : ℕ) (z : ℤ) → within (pos 0) (pos n) z ≡ true → nat z ≤ n
unfolding within
within_most n z h =
    omega (arith, of_le (atom z) (num n) (and_right (le_z (pos 0) z) _ h), nonneg_minus z (and_left _ _ h), plus_nat z)
