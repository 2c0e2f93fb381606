-- A whole number by its sign: what the tests on signed numbers say, and what fits.
use Prim.Native.Nat.{ℕ, zero, suc, ◌+◌, ◌-◌, ◌<◌, ◌^◌}
use native.Mathlib.Omega.{arith}
use native.Mathlib.Numerals.{add-one}
use mathlib.Core.Path.{◌≡◌, refl, sym, ◌∙◌, ap}
use mathlib.Core.Bool.{Bool, true, false, cond, true≢false}
use lib.Dec.{T, eqb}
use lib.IntN.{ℤ, pos, negsuc, neg_ℤ, nat_abs, ◌-ℤ◌}
use lib.Signed.{mag, lt_z, non_neg}
use mir.Syntax.{w32, w64}
use mir.Val.{Fits, SFits, of_z, to_z, hbits}
use mir.Facts.{to_z-of_z}
use borrow.Author.Tests.{eqb-true, eqb-false, ltb-true, le-ltb}
use Rattle.stab.specs.Basic.{eq_z, nat}
use Rattle.stab.proofs.Whole.{eq_z_of, eq_z_not}

-- a signed number is kept as bits, and read back from them
pub read_back : (z : ℤ) → mag z < 2 ^ hbits w32 → to_z w32 (of_z w32 z) ≡ z
read_back z h = to_z-of_z {w = w32} (record { sfits = h })

-- z is negative
pub nat_negative : (z : ℤ) → lt_z z (pos 0) ≡ true → 0 ≡ nat z
unfolding nat
nat_negative (pos n) h = absurd (omega (arith, ltb-true n 0 h))
nat_negative (negsuc n) h = refl

-- z is not
pub non_neg_of : (z : ℤ) → lt_z z (pos 0) ≡ false → T (non_neg z)
non_neg_of (pos n) h = tt
non_neg_of (negsuc n) h = absurd (true≢false h)

pub nat_abs_lem : (z : ℤ) → lt_z z (pos 0) ≡ false → nat_abs z ≡ nat z
unfolding nat
nat_abs_lem (pos n) h = refl
nat_abs_lem (negsuc n) h = absurd (true≢false h)

pub abs_fits : (z : ℤ) → SFits w32 z → lt_z z (pos 0) ≡ false → Fits w64 (nat_abs z)
abs_fits (pos n) f h = record { fits = omega (arith, f.sfits) }
abs_fits (negsuc n) f h = absurd (true≢false h)

pub under_none : (z : ℤ) → lt_z z (pos 0) ≡ false → 0 ≡ nat (neg_ℤ z)
unfolding nat
under_none (pos zero) h = refl
under_none (pos (suc n)) h = refl
under_none (negsuc n) h = absurd (true≢false h)

-- ---- -1 - z

mirrored_negsuc : (n : ℕ) → (negsuc 0 -ℤ negsuc n) ≡ pos n
mirrored_negsuc n =
    ap (λ (t : Bool). cond t (negsuc (1 - suc (suc n))) (pos (suc n - 1))) (le-ltb (suc n) 1 (omega arith)) ∙ ap pos (omega arith)

pub mirrored_fits : (z : ℤ) → SFits w32 z → SFits w32 (negsuc 0 -ℤ z)
mirrored_fits (pos zero) f = record { sfits = f.sfits }
mirrored_fits (pos (suc n)) f = record { sfits = omega (arith, f.sfits) }
mirrored_fits (negsuc n) f = rw (mirrored_negsuc n) (record { sfits = f.sfits })

pub nat_mirrored : (z : ℤ) → lt_z z (pos 0) ≡ true → nat (negsuc 0 -ℤ z) + 1 ≡ nat (neg_ℤ z)
unfolding nat
nat_mirrored (pos n) h = absurd (omega (arith, ltb-true n 0 h))
nat_mirrored (negsuc n) h = rw (mirrored_negsuc n) (add-one n)

-- a number of 32 bits has a natural part of 31 bits
pub nat_small : (z : ℤ) → SFits w32 z → nat z < 2 ^ 31
unfolding nat
nat_small (pos n) f = omega (arith, f.sfits)
nat_small (negsuc n) f = omega arith

-- ---- equality of signed numbers is equality of their bits

pub bits_equal : (a b : ℤ) → SFits w32 a → SFits w32 b → eqb (of_z w32 a) (of_z w32 b) ≡ eq_z a b
bits_equal a b f g = go (eqb (of_z w32 a) (of_z w32 b)) refl
  where
    back : of_z w32 a ≡ of_z w32 b → a ≡ b
    back e = sym (to_z-of_z f) ∙ ap (to_z w32) e ∙ to_z-of_z g

    go : (t : Bool) → eqb (of_z w32 a) (of_z w32 b) ≡ t → eqb (of_z w32 a) (of_z w32 b) ≡ eq_z a b
    go true e = e ∙ sym (eq_z_of a b (back (eqb-true (of_z w32 a) (of_z w32 b) e)))
    go false e = e ∙ sym (eq_z_not a b (λ p. eqb-false (of_z w32 a) (of_z w32 b) e (ap (of_z w32) p)))

-- a number of 32 bits has a negative part of 32 bits
pub under_small : (z : ℤ) → SFits w32 z → nat (neg_ℤ z) < 2 ^ 32
unfolding nat
under_small (pos zero) f = omega arith
under_small (pos (suc n)) f = omega arith
under_small (negsuc n) f = omega (arith, f.sfits)
