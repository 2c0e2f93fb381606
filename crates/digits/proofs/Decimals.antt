-- The digits of a number: how many, and each from the last to the first.
use Prim.Native.Nat.{ℕ, zero, suc, ◌+◌, ◌/◌, ◌%◌, ◌<◌, ◌≤◌, ◌^◌}
use native.Mathlib.Omega.{arith}
use native.Mathlib.Nat.{pow-succ'}
use mathlib.Core.Path.{◌≡◌, refl, sym, ◌∙◌, ap}
use mathlib.Core.Logic.{⊎_elim}
use mathlib.Core.Bool.{Bool, true, false}
use mathlib.Core.List.{List, [], ◌∷◌, ◌++◌}
use lib.Dec.{leb, ltb}
use lib.IntN.{ℤ, pos, negsuc, neg_ℤ}
use lib.ListN.{length, take, get_or, length-append}
use lib.Seq.{take_at, get_or_at, take-take, get_or-take}
use borrow.Author.Tests.{lt-ltb, le-ltb, ltb-true, ltb-false, leb-true}
use Rattle.stab.specs.Basic.{◌and◌, nat}
use Rattle.stab.specs.Text.{digits_n, zero_digit, decimal, five_digits, minus}
use Rattle.stab.proofs.Bools.{if_true, if_false, decide}

pub digits_one : (k v : ℕ) → v < 10 → digits_n k v ≡ (48 + v) ∷ []
unfolding digits_n zero_digit
digits_one zero v h = refl
digits_one (suc k) v h = if_true (ltb v 10) _ _ (lt-ltb v 10 h)

pub digits_more : (k v : ℕ) → 10 ≤ v → digits_n (suc k) v ≡ digits_n k (v / 10) ++ (48 + v % 10) ∷ []
unfolding digits_n zero_digit
digits_more k v h = if_false (ltb v 10) _ _ (le-ltb v 10 h)

-- ---- how many

pub count_one : (k v : ℕ) → v < 10 → 1 ≡ length (digits_n k v)
count_one k v h = sym (ap length (digits_one k v h))

pub count_more : (k v n : ℕ) → 10 ≤ v → n ≡ length (digits_n k (v / 10)) → suc n ≡ length (digits_n (suc k) v)
count_more k v n h e = omega (arith, ap length (digits_more k v h), length-append (digits_n k (v / 10)) ((48 + v % 10) ∷ []))

pub count_most : (k v : ℕ) → length (digits_n k v) ≤ suc k
count_most zero v = unfold digits_n in omega arith
count_most (suc k) v =
    ⊎_elim
    (λ e. omega (arith, count_one (suc k) v (ltb-true v 10 e)))
    (λ e. omega (arith, count_more k v _ (ltb-false v 10 e) refl, count_most k (v / 10)))
    (decide (ltb v 10))

-- ---- the last n digits of v

pub last_digits : ℕ → ℕ → List ℕ
last_digits zero v = []
last_digits (suc n) v = last_digits n (v / 10) ++ (48 + v % 10) ∷ []

pub last_length : (n v : ℕ) → length (last_digits n v) ≡ n
unfolding last_digits
last_length zero v = refl
last_length (suc n) v = omega (arith, length-append (last_digits n (v / 10)) ((48 + v % 10) ∷ []), last_length n (v / 10))

one_last : (v : ℕ) → v < 10 → (48 + v) ∷ [] ≡ last_digits 1 v
unfolding last_digits
one_last v h = let e : 48 + v ≡ 48 + v % 10 = omega arith in ap (λ (d : ℕ). d ∷ []) e

-- all the digits of v are its last ones, as many as they are
pub digits_last : (k v : ℕ) → v < 10 ^ suc k → digits_n k v ≡ last_digits (length (digits_n k v)) v
digits_last zero v h = digits_one 0 v h ∙ one_last v h ∙ ap (λ (n : ℕ). last_digits n v) (count_one 0 v h)
digits_last (suc k) v h =
    ⊎_elim
    (λ e.
    let m = ltb-true v 10 e in
    digits_one (suc k) v m ∙ one_last v m ∙ ap (λ (n : ℕ). last_digits n v) (count_one (suc k) v m))
    (λ e.
    let m = ltb-false v 10 e in
    digits_more k v m
    ∙ ap (λ (l : List ℕ). l ++ (48 + v % 10) ∷ []) (digits_last k (v / 10) (omega (arith, pow-succ' 10 (suc k))))
    ∙ (unfold last_digits in ap (λ (n : ℕ). last_digits n v) (count_more k v _ m refl)))
    (decide (ltb v 10))

-- one digit off the end
module _ (d : List ℕ) (i v : ℕ) (e : last_digits (suc i) v ≡ take (suc i) d) where
  pub last_front : last_digits i (v / 10) ≡ take i d
  unfolding last_digits
  last_front = sym (take_at (last_digits i (v / 10)) ((48 + v % 10) ∷ []) i (last_length i (v / 10))) ∙ ap (take i) e ∙ take-take i (suc i) d (omega arith)

  pub last_digit : get_or d i 0 ≡ 48 + v % 10
  unfolding last_digits
  last_digit =
      sym (get_or-take (suc i) d i 0 (omega arith))
      ∙ ap (λ (l : List ℕ). get_or l i 0) (sym e)
      ∙ get_or_at (last_digits i (v / 10)) (48 + v % 10) [] 0 i (last_length i (v / 10))

-- ---- numbers by their two parts

pub decimal_plain : (z : ℤ) → nat (neg_ℤ z) ≡ 0 → decimal z ≡ digits_n 4 (nat z)
unfolding decimal nat
decimal_plain (pos v) h = refl
decimal_plain (negsuc v) h = absurd (omega arith)

pub decimal_minus : (z : ℤ) → (nat (neg_ℤ z) ≡ 0 → ⊥) → decimal z ≡ 45 ∷ digits_n 4 (nat (neg_ℤ z))
unfolding decimal nat minus
decimal_minus (pos zero) h = absurd (h refl)
decimal_minus (pos (suc v)) h = absurd (h refl)
decimal_minus (negsuc v) h = refl

pub five_parts : (z : ℤ) → (leb (nat z) 99999 and leb (nat (neg_ℤ z)) 99999) ≡ five_digits z
unfolding five_digits nat ◌and◌
five_parts (pos zero) = refl
five_parts (pos (suc v)) = go (leb (suc v) 99999)
  where
    go : (t : Bool) → (t and true) ≡ t
    go true = refl
    go false = refl
five_parts (negsuc v) = refl

pub five_nat : (z : ℤ) → five_digits z ≡ true → nat z ≤ 99999
unfolding five_digits nat
five_nat (pos v) h = leb-true v 99999 h
five_nat (negsuc v) h = omega arith

pub five_under : (z : ℤ) → five_digits z ≡ true → nat (neg_ℤ z) ≤ 99999
unfolding five_digits nat
five_under (pos zero) h = omega arith
five_under (pos (suc v)) h = omega arith
five_under (negsuc v) h = leb-true (suc v) 99999 h
