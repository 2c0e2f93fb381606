-- The tests on bounds and indices, by natural parts.
use Rattle.std.specs.Prelude.{if◌then◌else◌}
use Prim.Native.Nat.{ℕ, zero, suc, ◌+◌, ◌-◌, ◌<◌, ◌≤◌}
use native.Mathlib.Omega.{arith}
use mathlib.Core.Path.{◌≡◌, refl, sym, ◌∙◌, ap, ap₂}
use mathlib.Core.Logic.{⊎_elim}
use mathlib.Core.Bool.{Bool, true, false, not, true≢false}
use mathlib.Core.Option.{some}
use lib.Dec.{leb, ltb, eqb}
use lib.IntN.{ℤ, pos, neg_ℤ, ◌+ℤ◌, ◌-ℤ◌}
use lib.Signed.{le_z, lt_z}
use borrow.Author.Tests.{le-leb, leb-true, lt-leb, lt-ltb, ltb-true, eq-eqb, eqb-true, ne_eqb}
use Rattle.stab.specs.Basic.{eq_z, nat}
use Rattle.stab.specs.Formula.{Row, nothing, parameter, index, base_of}
use Rattle.stab.specs.Meaning.{base}
use Rattle.stab.specs.Node.{Bound, is_upper, is_exact}
use Rattle.stab.specs.Rule.{stays_below, split_fits, void_fits, upper_fits, loop_fits, index_at}
use Rattle.stab.proofs.Bools.{decide, same_test}
use Rattle.stab.proofs.Whole.{atom, num, ◌⊕◌, ◌⊖◌, le_of, of_le, lt_of, not_lt_of, of_not_le, eq_of, of_eq, eq_z_true, plus_nat, minus_nat}
use Rattle.formula.proofs.RowLaws.{test_same}
use Rattle.branch.specs.Lent.{upper, bounded}
use Rattle.fields.proofs.Answers.{first_fails, second_decides}

-- L ≥ b + c
pub reach_test : (b c : ℤ) (l : ℕ) → leb (nat b + nat c) (l + (nat (neg_ℤ b) + nat (neg_ℤ c))) ≡ le_z (b +ℤ c) (pos l)
reach_test b c l =
    same_test _ _
    (λ h.
    le_of (atom b ⊕ atom c) (num l)
    (omega (
      arith,
      leb-true (nat b + nat c) (l + (nat (neg_ℤ b) + nat (neg_ℤ c))) h,
      plus_nat b,
      minus_nat b,
      plus_nat c,
      minus_nat c,
    )))
    (λ h. le-leb (nat b + nat c) (l + (nat (neg_ℤ b) + nat (neg_ℤ c))) (omega (arith, of_le (atom b ⊕ atom c) (num l) h, plus_nat b, minus_nat b, plus_nat c, minus_nat c)))

-- L < b + c
pub not_reached : (b c : ℤ) (l : ℕ) → not (le_z (b +ℤ c) (pos l)) ≡ lt_z (pos l) (b +ℤ c)
not_reached b c l =
    ⊎_elim
    (λ h. ap not h ∙ sym (not_lt_of (num l) (atom b ⊕ atom c) (omega (arith, of_le (atom b ⊕ atom c) (num l) h))))
    (λ h. ap not h ∙ sym (lt_of (num l) (atom b ⊕ atom c) (omega (arith, of_not_le (atom b ⊕ atom c) (num l) h))))
    (decide (le_z (b +ℤ c) (pos l)))

-- ---- indices

module _ (b : ℤ) (l : ℕ) where
  pub base_parameter : eq_z b (pos 1) ≡ true → pos l ≡ base l (pos 0) (base_of b)
  unfolding base base_of eq_z
  base_parameter h = ap (λ (z : ℤ). base l (pos 0) (base_of z)) (sym (eq_z_true b (pos 1) h))

  pub base_other : eq_z b (pos 1) ≡ false → pos 0 ≡ base l (pos 0) (base_of b)
  unfolding base_of base
  base_other h = go (eq_z b (pos 0)) (eq_z b (pos 1)) h
    where
      go : (t u : Bool) → u ≡ false → pos 0 ≡ base l (pos 0) (if t then nothing else if u then parameter else index)
      go true u e = refl
      go false true e = absurd (true≢false e)
      go false false e = refl

-- the same index, for what the two are added to
pub index_test :
    (v w : Row) (l x y : ℕ)
    → pos x ≡ base l (pos 0) (base_of v.b)
    → pos y ≡ base l (pos 0) (base_of w.b)
    → eqb (x + nat v.c + nat (neg_ℤ w.c)) (y + nat w.c + nat (neg_ℤ v.c)) ≡ eq_z (index_at l v) (index_at l w)
unfolding index_at
index_test v w l x y e d =
    test_same (x + nat v.c + nat (neg_ℤ w.c)) (y + nat w.c + nat (neg_ℤ v.c)) (pos x +ℤ v.c) (pos y +ℤ w.c)
    (λ h. eq_of (num x ⊕ atom v.c) (num y ⊕ atom w.c) (omega (arith, plus_nat v.c, minus_nat v.c, plus_nat w.c, minus_nat w.c)))
    (λ h. omega (arith, of_eq (num x ⊕ atom v.c) (num y ⊕ atom w.c) h, plus_nat v.c, minus_nat v.c, plus_nat w.c, minus_nat w.c))
    ∙ ap₂ (λ (a b : ℤ). eq_z (a +ℤ v.c) (b +ℤ w.c)) e d

-- ---- a split's K, and the upper bound as it is kept

module _ (h l k : ℕ) where
  pub k_low : k < l → false ≡ split_fits (bounded h l) k
  unfolding split_fits
  k_low p = first_fails _ _ (lt-leb l k p)

  k_from : l ≤ k → stays_below (upper h) k ≡ split_fits (bounded h l) k
  unfolding split_fits
  k_from p = second_decides _ _ (le-leb l k p)

  pub k_open : l ≤ k → h ≡ 0 → leb k 9998 ≡ split_fits (bounded h l) k
  unfolding stays_below upper
  k_open p e = ap (λ (n : ℕ). stays_below (upper n) k) (sym e) ∙ k_from p

stays_test : (h k : ℕ) → (h ≡ 0 → ⊥) → ltb (k + 1) h ≡ stays_below (upper h) k
unfolding stays_below upper
stays_test zero k f = absurd (f refl)
stays_test (suc H) k f =
    same_test _ _
    (λ e. le_of (num k) (num H ⊖ num 1) (omega (arith, ltb-true (k + 1) (suc H) e)))
    (λ e. lt-ltb (k + 1) (suc H) (omega (arith, of_le (num k) (num H ⊖ num 1) e)))

pub k_below : (h l k : ℕ) → l ≤ k → (h ≡ 0 → ⊥) → ltb (k + 1) h ≡ split_fits (bounded h l) k
k_below h l k p f = stays_test h k f ∙ k_from h l k p

pub exact_test : (h l : ℕ) → eqb (l + 1) h ≡ is_exact (bounded h l)
unfolding is_exact is_upper upper
exact_test zero l = ne_eqb (l + 1) 0 (λ e. omega arith)
exact_test (suc H) l =
    same_test _ _
    (λ e. eq-eqb l H (omega (arith, eqb-true (l + 1) (suc H) e)))
    (λ e. eq-eqb (l + 1) (suc H) (omega (arith, eqb-true l H e)))

pub void_open : (h : ℕ) (w : Row) → h ≡ 0 → false ≡ void_fits (upper h) w
unfolding void_fits upper
void_open h w e = ap (λ (n : ℕ). void_fits (upper n) w) (sym e)

pub void_upper : (h : ℕ) (w : Row) → (h ≡ 0 → ⊥) → lt_z (pos (h - 1)) (w.b +ℤ w.c) ≡ void_fits (upper h) w
unfolding void_fits upper
void_upper zero w f = absurd (f refl)
void_upper (suc H) w f = ap (λ (n : ℕ). lt_z (pos n) (w.b +ℤ w.c)) (omega arith)

-- ---- links: L - k is at least the target's L, H - k at most its H

pub link_low : (B A : Bound) (k : ℕ) → B.L < A.L + k → false ≡ loop_fits B A (pos k)
unfolding loop_fits
link_low B A k p =
    first_fails _ _
    (⊎_elim
    (λ t. absurd (omega (arith, of_le (num A.L) (num B.L ⊖ num k) t)))
    (λ t. t)
    (decide (le_z (pos A.L) (pos B.L -ℤ pos k))))

pub link_from : (B A : Bound) (k : ℕ) → A.L + k ≤ B.L → upper_fits B.H A.H (pos k) ≡ loop_fits B A (pos k)
unfolding loop_fits
link_from B A k p = second_decides _ _ (le_of (num A.L) (num B.L ⊖ num k) (omega arith))

pub no_upper : (h a k : ℕ) → a ≡ 0 → true ≡ upper_fits (upper h) (upper a) (pos k)
unfolding upper_fits upper
no_upper h a k e = ap (λ (n : ℕ). upper_fits (upper h) (upper n) (pos k)) (sym e)

pub leaf_open : (h a k : ℕ) → (a ≡ 0 → ⊥) → h ≡ 0 → false ≡ upper_fits (upper h) (upper a) (pos k)
unfolding upper_fits upper
leaf_open h zero k f e = absurd (f refl)
leaf_open h (suc A) k f e = ap (λ (n : ℕ). upper_fits (upper n) (some A) (pos k)) (sym e)

pub upper_test : (h a k : ℕ) → (a ≡ 0 → ⊥) → (h ≡ 0 → ⊥) → leb h (a + k) ≡ upper_fits (upper h) (upper a) (pos k)
unfolding upper_fits upper
upper_test h zero k f g = absurd (f refl)
upper_test zero (suc A) k f g = absurd (g refl)
upper_test (suc H) (suc A) k f g =
    same_test _ _
    (λ t. le_of (num H ⊖ num k) (num A) (omega (arith, leb-true (suc H) (suc A + k) t)))
    (λ t. le-leb (suc H) (suc A + k) (omega (arith, of_le (num H ⊖ num k) (num A) t)))
