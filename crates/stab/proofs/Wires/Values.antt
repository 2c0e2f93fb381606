-- The value of a formula rests on the pairs that occur in it alone.
use Prim.Native.Nat.{ℕ, zero, suc, ◌<◌}
use native.Mathlib.Omega.{arith}
use mathlib.Core.Path.{◌≡◌, refl, ap, ap₂}
use mathlib.Core.Logic.{inl, inr}
use mathlib.Core.Bool.{Bool}
use lib.IntN.{ℤ, pos, ◌+ℤ◌, ◌-ℤ◌}
use lib.Signed.{◌<ℤ◌}
use Rattle.stab.specs.Formula.{Op, Formula, const, lit, join, iter}
use Rattle.stab.specs.Meaning.{Assignment, base, signed, op, over, range_size, value}
use Rattle.stab.specs.Occurs.{Occurs}
use Rattle.stab.proofs.Whole.{atom, num, ◌⊖◌, of_le, of_lt, le_z_of, lt_z_of}
use Rattle.stab.proofs.Audit.{of_range}

over_agrees : (o : Op) (p q : ℤ → Bool) (b : ℤ) (k : ℕ) → ((m : ℕ) → m < k → p (b +ℤ pos m) ≡ q (b +ℤ pos m)) → over o p b k ≡ over o q b k
unfolding over
over_agrees o p q b zero h = refl
over_agrees o p q b (suc k) h = ap₂ (op o) (over_agrees o p q b k (λ m l. h m (omega arith))) (h k (omega arith))

-- two assignments that agree on the pairs that occur in a formula at n and i give it the same value there
pub same_value : (σ τ : Assignment) (n : ℕ) (f : Formula) (i : ℤ) → ((s z : ℤ) → Occurs n f i s z → σ s z ≡ τ s z) → value σ n f i ≡ value τ n f i
unfolding value
same_value σ τ n (const v) i h = refl
same_value σ τ n (lit v s x c) i h = ap (signed v) (h s (base n i x +ℤ c) (refl, refl))
same_value σ τ n (join o f g) i h =
    ap₂ (op o) (same_value σ τ n f i (λ s z p. h s z (inl p))) (same_value σ τ n g i (λ s z p. h s z (inr p)))
same_value σ τ n (iter o f b c) i h =
    over_agrees o (value σ n f) (value τ n f) b (range_size b (pos n -ℤ c)) (λ m l.
    let r = of_range b (pos n -ℤ c) m l in
    same_value σ τ n f (b +ℤ pos m) (λ s z p. h s z (b +ℤ pos m, r.0, r.1, p)))

-- "an empty range gives none"
pub empty_range_lem : (n : ℕ) (o : Op) (f : Formula) (b c i s z : ℤ) → (pos n -ℤ c) <ℤ b → Occurs n (iter o f b c) i s z → ⊥
empty_range_lem n o f b c i s z h p =
    omega (arith, of_le (atom b) (atom p.0) (le_z_of p.1), of_le (atom p.0) (num n ⊖ atom c) (le_z_of p.2), of_lt (num n ⊖ atom c) (atom b) (lt_z_of h))
