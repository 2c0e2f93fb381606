-- For an auditor: the meaning that `value` computes is the paper's.
use Prim.Native.Nat.{ℕ, zero, suc, ◌<◌}
use native.Mathlib.Omega.{arith}
use mathlib.Core.Path.{◌≡◌, refl, sym, ◌∙◌, ap}
use mathlib.Core.Logic.{⊎_elim, ◌↔◌}
use mathlib.Core.Bool.{Bool, true, false≢true}
use lib.IntN.{ℤ, pos, ◌+ℤ◌, ◌-ℤ◌}
use lib.Signed.{◌≤ℤ◌}
use Rattle.stab.specs.Basic.{nat}
use Rattle.stab.specs.Formula.{Row, conj, disj, Formula, iter, tree, is_body, well_formed}
use Rattle.stab.specs.Meaning.{Assignment, op, empty, over, range_size, value}
use Rattle.stab.specs.Alike.{lower, instance, alike}
use Rattle.stab.proofs.Bools.{and_left, and_right, and_both, or_cases, or_left, or_right}
use Rattle.stab.proofs.Whole.{atom, num, ◌⊕◌, ◌⊖◌, le_of, of_le, eq_of, of_eq, le_z_of, of_le_z, nat_pos, nat_le}
use Rattle.stab.proofs.Meanings.{lower_value, instance_value}
use Rattle.stab.proofs.Alikes.{alike_tests, alike_value}
use Rattle.stab.proofs.Decoded as D

-- the formula of a row lowered by k has at n the value that the row has at n - k, if the table is well formed up to that row
pub lowered_means : (rows : ℕ → Row) (r : ℕ) → ((a : ℕ) → a < suc r → well_formed rows a ≡ true) → (σ : Assignment) (n m : ℕ) (k i : ℤ) → pos m ≡ (pos n -ℤ k) → value σ n (lower k (tree rows r)) i ≡ value σ m (tree rows r) i
lowered_means rows r h σ n m k i e = lower_value σ n m k (tree rows r) i e (D.proper rows (suc r) h r (omega arith))

-- a body's instance at n - c has the value that the body has at i = n - c
pub instance_means : (σ : Assignment) (n : ℕ) (c i : ℤ) (f : Formula) → is_body f ≡ true → value σ n (instance c f) i ≡ value σ n f (pos n -ℤ c)
instance_means σ n c i f h = instance_value σ n c f i h

-- formulas that are alike have one value, at every n and i and under every assignment
pub alike_means : (σ : Assignment) (n : ℕ) (i : ℤ) (f g : Formula) → alike f g ≡ true → value σ n f i ≡ value σ n g i
alike_means σ n i f g h = alike_value σ n ((alike_tests f g).0 h) i

-- ---- iterations

-- p holds at each of b, b + 1, .. b + (k - 1)
every : (p : ℤ → Bool) (b : ℤ) (k : ℕ) → over conj p b k ≡ true → (i : ℕ) → i < k → p (b +ℤ pos i) ≡ true
unfolding over op
every p b zero h i l = absurd (omega arith)
every p b (suc k) h i l =
    ⊎_elim
    (λ m. every p b k (and_left _ _ h) i m)
    (λ e. ap (λ (j : ℕ). p (b +ℤ pos j)) e ∙ and_right (over conj p b k) _ h)
    (Rattle.stab.proofs.Scans.below_suc i k l)

every_of : (p : ℤ → Bool) (b : ℤ) (k : ℕ) → ((i : ℕ) → i < k → p (b +ℤ pos i) ≡ true) → over conj p b k ≡ true
unfolding over op empty
every_of p b zero h = refl
every_of p b (suc k) h = and_both _ _ (every_of p b k (λ i l. h i (omega arith))) (h k (omega arith))

some_of : (p : ℤ → Bool) (b : ℤ) (k : ℕ) → over disj p b k ≡ true → (i : ℕ) × (i < k) × (p (b +ℤ pos i) ≡ true)
unfolding over op empty
some_of p b zero h = absurd (false≢true h)
some_of p b (suc k) h =
    ⊎_elim
    (λ t. let w = some_of p b k t in (w.0, omega (arith, w.1), w.2))
    (λ t. (k, omega arith, t))
    (or_cases (over disj p b k) _ h)

of_some : (p : ℤ → Bool) (b : ℤ) (k i : ℕ) → i < k → p (b +ℤ pos i) ≡ true → over disj p b k ≡ true
unfolding over op
of_some p b zero i l h = absurd (omega arith)
of_some p b (suc k) i l h =
    ⊎_elim
    (λ m. or_left _ _ (of_some p b k i m h))
    (λ e. or_right (over disj p b k) _ (ap (λ (j : ℕ). p (b +ℤ pos j)) (sym e) ∙ h))
    (Rattle.stab.proofs.Scans.below_suc i k l)

-- a whole number from b up to e is b plus a natural number below the size of the range, and the other way
pub in_range_lem : (b e j : ℤ) → (b ≤ℤ j) → (j ≤ℤ e) → (m : ℕ) × (m < range_size b e) × ((b +ℤ pos m) ≡ j)
unfolding range_size
in_range_lem b e j h k =
    let low = of_le (atom b) (atom j) (le_z_of h) in
    let high = of_le (atom j) (atom e) (le_z_of k) in
    let m : ℕ = nat (j -ℤ b) in
    let q = of_eq (num m) (atom j ⊖ atom b) (nat_pos (j -ℤ b) (le_of (num 0) (atom j ⊖ atom b) (omega arith))) in
    let s : ℤ = (e -ℤ b) +ℤ pos 1 in
    let r = of_eq (num (nat s)) ((atom e ⊖ atom b) ⊕ num 1) (nat_pos s (le_of (num 0) ((atom e ⊖ atom b) ⊕ num 1) (omega arith))) in
    (m, omega arith, eq_of (atom b ⊕ num m) (atom j) (omega arith))

pub of_range : (b e : ℤ) (m : ℕ) → m < range_size b e → (b ≤ℤ (b +ℤ pos m)) × ((b +ℤ pos m) ≤ℤ e)
unfolding range_size
of_range b e m l =
    let r = of_le (num (suc m)) ((atom e ⊖ atom b) ⊕ num 1) (nat_le ((e -ℤ b) +ℤ pos 1) (suc m) l (omega arith)) in
    (of_le_z (le_of (atom b) (atom b ⊕ num m) (omega arith)), of_le_z (le_of (atom b ⊕ num m) (atom e) (omega arith)))

-- a big and is true exactly when its body is true at every i with b ≤ i ≤ n - c
pub big_and_means : (σ : Assignment) (n : ℕ) (f : Formula) (b c x : ℤ) → (value σ n (iter conj f b c) x ≡ true) ↔ ((i : ℤ) → b ≤ℤ i → i ≤ℤ (pos n -ℤ c) → value σ n f i ≡ true)
unfolding value
big_and_means σ n f b c x = (
  (λ h i l m.
      let w = in_range_lem b (pos n -ℤ c) i l m in
      ap (value σ n f) (sym w.2) ∙ every (value σ n f) b (range_size b (pos n -ℤ c)) h w.0 w.1),
  λ h. every_of (value σ n f) b (range_size b (pos n -ℤ c)) (λ i l. let w = of_range b (pos n -ℤ c) i l in h (b +ℤ pos i) w.0 w.1),
)

-- a big or is true exactly when its body is true at some i with b ≤ i ≤ n - c
pub big_or_means : (σ : Assignment) (n : ℕ) (f : Formula) (b c x : ℤ) → (value σ n (iter disj f b c) x ≡ true) ↔ ((i : ℤ) × (b ≤ℤ i) × (i ≤ℤ (pos n -ℤ c)) × (value σ n f i ≡ true))
unfolding value
big_or_means σ n f b c x = (
  (λ h.
      let w = some_of (value σ n f) b (range_size b (pos n -ℤ c)) h in
      let v = of_range b (pos n -ℤ c) w.0 w.1 in
      (b +ℤ pos w.0, v.0, v.1, w.2)),
  λ h.
      let w = in_range_lem b (pos n -ℤ c) h.0 h.1 h.2 in
      of_some (value σ n f) b (range_size b (pos n -ℤ c)) w.0 w.1 (ap (value σ n f) w.2 ∙ h.3),
)
