-- Whole numbers by what the leaf reads of them, the natural part and how far below 0 they lie; and numbers carried as naturals.
use Prim.Native.Nat.{ℕ, zero, suc, ◌+◌, ◌-◌, ◌≤◌}
use native.Mathlib.Omega.{arith}
use mathlib.Core.Path.{◌≡◌, refl, sym, ◌∙◌, ap₂}
use mathlib.Core.Logic.{◌⊎◌, inl, inr, ⊎_elim}
use mathlib.Core.Bool.{true}
use lib.Dec.{leb, leb-zero, leb-suc-zero, leb-suc-suc}
use lib.IntN.{ℤ, pos, negsuc, neg_ℤ, ◌+ℤ◌, ◌-ℤ◌}
use lib.Signed.{le_z}
use borrow.Author.Tests.{leb-true}
use Rattle.stab.specs.Basic.{◌and◌, nat, within}
use Rattle.stab.specs.Meaning.{range_size}
use Rattle.stab.proofs.Bools.{and_left, and_right}
use Rattle.stab.proofs.Whole.{plus, minus, Exp, atom, num, ◌⊕◌, ◌⊖◌, eval, P, N, parts, le_of, eq_of, of_eq, plus_nat, nonneg_minus, minus_nat}
use Rattle.pairs.specs.Index.{unbiased}

one_part : (z : ℤ) → (plus z ≡ 0) ⊎ (minus z ≡ 0)
unfolding nat
one_part (pos n) = inr (nonneg_minus (pos n) (leb-zero n))
one_part (negsuc n) = inl (sym (plus_nat (negsuc n)))

-- the natural part of an expression
pub nat_of : (e : Exp) → nat (eval e) ≡ P e - N e
nat_of e =
    ⊎_elim
    (λ h. omega (arith, parts e, plus_nat (eval e), h))
    (λ h. omega (arith, parts e, plus_nat (eval e), h))
    (one_part (eval e))

-- ---- limits

low_is : (a : ℕ) (z : ℤ) → le_z (neg_ℤ (pos a)) z ≡ leb (nat (neg_ℤ z)) a
unfolding nat
low_is zero (pos zero) = refl
low_is zero (pos (suc n)) = leb-zero (suc n)
low_is zero (negsuc n) = sym (leb-suc-zero n)
low_is (suc a) (pos zero) = sym (leb-zero (suc a))
low_is (suc a) (pos (suc n)) = sym (leb-zero (suc a))
low_is (suc a) (negsuc n) = sym (leb-suc-suc n a)

pub high_is : (m : ℕ) (z : ℤ) → le_z z (pos m) ≡ leb (nat z) m
unfolding nat
high_is m (pos n) = refl
high_is m (negsuc n) = sym (leb-zero m)

-- z lies in -a .. m, by its parts
pub within_is : (a m : ℕ) (z : ℤ) → within (neg_ℤ (pos a)) (pos m) z ≡ (leb (nat (neg_ℤ z)) a and leb (nat z) m)
unfolding within
within_is a m z = ap₂ ◌and◌ (low_is a z) (high_is m z)

module _ (a m : ℕ) (z : ℤ) (h : within (neg_ℤ (pos a)) (pos m) z ≡ true) where
  pub within_under : nat (neg_ℤ z) ≤ a
  within_under = leb-true _ _ (and_left _ (leb (nat z) m) (sym (within_is a m z) ∙ h))

  pub within_nat : nat z ≤ m
  within_nat = leb-true _ _ (and_right (leb (nat (neg_ℤ z)) a) _ (sym (within_is a m z) ∙ h))

-- ---- numbers carried as naturals

-- the number that stands for z, where z is not too far below 0
pub biased_parts : (z : ℤ) → nat (neg_ℤ z) ≤ 65536 → nat (z +ℤ pos 65536) + nat (neg_ℤ z) ≡ nat z + 65536
biased_parts z h =
    omega
    (arith, parts (atom z ⊕ num 65536), plus_nat z, minus_nat z, plus_nat (z +ℤ pos 65536), nonneg_minus (z +ℤ pos 65536) (le_of (num 0) (atom z ⊕ num 65536) (omega (arith, plus_nat z, minus_nat z))))

pub unbiased_of : (z : ℤ) → nat (neg_ℤ z) ≤ 65536 → z ≡ unbiased (nat (z +ℤ pos 65536))
unfolding unbiased
unbiased_of z h =
    eq_of (atom z) (num (nat (z +ℤ pos 65536)) ⊖ num 65536) (omega (arith, biased_parts z h, plus_nat z, minus_nat z))

pub moved_is : (x a u : ℕ) (z : ℤ) → a ≡ nat z → u ≡ nat (neg_ℤ z) → u ≤ x → unbiased (x + a - u) ≡ (unbiased x +ℤ z)
unfolding unbiased
moved_is x a u z p q h =
    eq_of (num (x + a - u) ⊖ num 65536) (num x ⊖ num 65536 ⊕ atom z) (omega (arith, plus_nat z, minus_nat z))

pub moved_high : (r x : ℕ) (z : ℤ) → unbiased r ≡ (unbiased x +ℤ z) → r ≤ x + nat z
unfolding unbiased
moved_high r x z e = omega (arith, of_eq (num r ⊖ num 65536) (num x ⊖ num 65536 ⊕ atom z) e, plus_nat z)

-- the same further on
pub moved_more : (r x j : ℕ) (z : ℤ) → unbiased r ≡ (unbiased x +ℤ z) → unbiased (r + j) ≡ (unbiased (x + j) +ℤ z)
unfolding unbiased
moved_more r x j z e =
    eq_of (num (r + j) ⊖ num 65536) (num (x + j) ⊖ num 65536 ⊕ atom z)
    (omega (arith, of_eq (num r ⊖ num 65536) (num x ⊖ num 65536 ⊕ atom z) e))

pub unbiased_zero : unbiased 65536 ≡ pos 0
unfolding unbiased
unbiased_zero = refl

pub unbiased_pos : (n : ℕ) → unbiased (65536 + n) ≡ pos n
unfolding unbiased
unbiased_pos n = eq_of (num (65536 + n) ⊖ num 65536) (num n) (omega arith)

pub unbiased_more : (x k : ℕ) → unbiased (x + k) ≡ (unbiased x +ℤ pos k)
unfolding unbiased
unbiased_more x k = eq_of (num (x + k) ⊖ num 65536) (num x ⊖ num 65536 ⊕ num k) (omega arith)

-- ---- ranges

-- how many whole numbers there are from b up to n - c
pub size_is : (n : ℕ) (b c : ℤ) → range_size b (pos n -ℤ c) ≡ (n + 1 + nat (neg_ℤ b) + nat (neg_ℤ c)) - (nat b + nat c)
unfolding range_size
size_is n b c =
    omega (arith, nat_of (num n ⊖ atom c ⊖ atom b ⊕ num 1), plus_nat b, minus_nat b, plus_nat c, minus_nat c)
