-- A lowered row in a list, by places.
use Prim.Native.Nat.{ℕ, zero, suc, ◌+◌, ◌*◌, ◌<◌, ◌≤◌}
use native.Mathlib.Omega.{arith}
use mathlib.Core.Path.{◌≡◌, refl, sym, ap₂}
use mathlib.Core.Logic.{⊎_elim}
use mathlib.Core.Bool.{true, false}
use mathlib.Core.List.{List, [], ◌∷◌}
use lib.Dec.{leb}
use lib.IntN.{ℤ, pos}
use lib.ListN.{get_or, length}
use borrow.Author.Count.{below_more}
use borrow.Author.Tests.{leb-true, leb-false}
use Rattle.stab.specs.Basic.{◌or◌}
use Rattle.stab.specs.Alike.{alike}
use Rattle.stab.specs.Node.{Tableau, formula}
use Rattle.stab.specs.Rule.{is_lowered, has_lowered}
use Rattle.stab.proofs.Bools.{decide, or_left, or_right, or_false, same_test}
use Rattle.stab.proofs.Alikes.{alike_sym, alike_trans, alike_lower}

-- what holds from m on and before it
pub all_round : {P : ℕ → Type 0} (m n : ℕ) → ((i : ℕ) → m ≤ i → i < n → P i) → ((i : ℕ) → 0 ≤ i → i < m → P i) → (i : ℕ) → i < n → P i
all_round m n after before i l =
    ⊎_elim (λ e. after i (leb-true m i e) l) (λ e. before i (omega arith) (leb-false m i e)) (decide (leb m i))

-- what holds before i, at i, and after it
pub all_past : {P : ℕ → Type 0} (i n : ℕ) → ((a : ℕ) → a < i → P a) → P i → ((a : ℕ) → a < n → i < a → P a) → (a : ℕ) → a < n → P a
all_past {P} i n before here after a l =
    ⊎_elim (λ e. after a l (omega (arith, leb-true (i + 1) a e))) (λ e. below_more P i before here a (leb-false (i + 1) a e)) (decide (leb (i + 1) a))

-- rows y and z have one class and one shift
abbrev pub OneForm : List ℕ → ℕ → ℕ → Type 0
OneForm forms y z = (get_or forms (4 * y) 0 ≡ get_or forms (4 * z) 0) × (get_or forms (4 * y + 1) 0 ≡ get_or forms (4 * z + 1) 0)

module _ (T : Tableau) (k z : ℤ) where
  pub lowered_at : (xs : List ℤ) (i : ℕ) → i < length xs → is_lowered T k z (get_or xs i (pos 0)) ≡ true → true ≡ has_lowered T k xs z
  unfolding has_lowered
  lowered_at [] i p h = absurd (omega arith)
  lowered_at (x ∷ xs) zero p h = sym (or_left _ _ h)
  lowered_at (x ∷ xs) (suc i) p h = sym (or_right (is_lowered T k z x) _ (sym (lowered_at xs i (omega arith) h)))

  pub lowered_nowhere : (xs : List ℤ) → ((i : ℕ) → i < length xs → is_lowered T k z (get_or xs i (pos 0)) ≡ false) → false ≡ has_lowered T k xs z
  unfolding has_lowered
  lowered_nowhere [] h = refl
  lowered_nowhere (x ∷ xs) h = sym (or_false _ _ (h zero (omega arith)) (sym (lowered_nowhere xs (λ i p. h (suc i) (omega arith)))))

-- rows that are alike have the same partners
module _ (T : Tableau) (k y z : ℤ) (e : alike (formula T y) (formula T z) ≡ true) where
  twins_at : (x : ℤ) → is_lowered T k y x ≡ is_lowered T k z x
  unfolding is_lowered
  twins_at x =
      let down = alike_lower k (formula T y) (formula T z) e in
      same_test _ _ (alike_trans _ _ (formula T x) (alike_sym _ _ down)) (alike_trans _ _ (formula T x) down)

  pub twins_lowered : (xs : List ℤ) → has_lowered T k xs y ≡ has_lowered T k xs z
  unfolding has_lowered
  twins_lowered [] = refl
  twins_lowered (x ∷ xs) = ap₂ ◌or◌ (twins_at x) (twins_lowered xs)
