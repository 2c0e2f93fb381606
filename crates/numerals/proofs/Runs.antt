-- A run of digits, one byte of the text at a time.
use Prim.Native.Nat.{ℕ, zero, suc, ◌+◌, ◌*◌, ◌-◌, ◌<◌, ◌≤◌}
use native.Mathlib.Omega.{arith}
use native.Mathlib.Numerals.{add-one}
use mathlib.Core.Path.{◌≡◌, refl, sym, ◌∙◌, ap, ap₂}
use mathlib.Core.Logic.{◌⊎◌, inl, inr, ⊎_elim}
use mathlib.Core.Bool.{true, false}
use mathlib.Core.List.{List, [], ◌∷◌}
use lib.ListN.{length, get_or, drop, drop_of_length-le, get_or-eq_default}
use lib.Seq.{drop-cons}
use lib.Dec.{leb, ltb}
use borrow.Author.Tests.{le-leb, lt-leb, ltb-true, ltb-false}
use Rattle.stab.specs.Text.{is_digit}
use Rattle.stab.proofs.Bools.{and_both, and_first_false, and_second_false, if_true, if_false, decide}
use Rattle.stab.proofs.Texts.Numbers.{digit_high}
use Rattle.numerals.specs.Here.{run_length, run_value}

-- ---- what stands at a place

pub below_or_not : (a b : ℕ) → (a < b) ⊎ (b ≤ a)
below_or_not a b = ⊎_elim (λ h. inl (ltb-true a b h)) (λ h. inr (ltb-false a b h)) (decide (ltb a b))

-- within a list the default makes no difference
pub get_d_any : (xs : List ℕ) (i a b : ℕ) → i < length xs → get_or xs i a ≡ get_or xs i b
get_d_any [] i a b h = absurd (omega arith)
get_d_any (x ∷ xs) zero a b h = refl
get_d_any (x ∷ xs) (suc i) a b h = get_d_any xs i a b (omega arith)

-- a number below 256 is a byte that stands there
pub byte_within : (text : List ℕ) (i : ℕ) → get_or text i 256 < 256 → i < length text
byte_within text i h =
    ⊎_elim (λ l. l) (λ l. absurd (omega (arith, get_or-eq_default text 256 l))) (below_or_not i (length text))

pub drop_byte : (text : List ℕ) (i : ℕ) → get_or text i 256 < 256 → drop i text ≡ get_or text i 256 ∷ drop (i + 1) text
drop_byte text i h = drop-cons text i 256 (byte_within text i h) ∙ ap (λ (j : ℕ). get_or text i 256 ∷ drop j text) (sym (add-one i))

-- nothing, or the byte and what follows
pub at_place : (text : List ℕ) (i : ℕ) → ((drop i text ≡ []) × (get_or text i 256 ≡ 256)) ⊎ (drop i text ≡ get_or text i 256 ∷ drop (i + 1) text)
at_place text i =
    ⊎_elim
    (λ l. inr (drop-cons text i 256 l ∙ ap (λ (j : ℕ). get_or text i 256 ∷ drop j text) (sym (add-one i))))
    (λ l. inl (drop_of_length-le text l, get_or-eq_default text 256 l))
    (below_or_not i (length text))

-- ---- digits

pub is_digit_lem : (x : ℕ) → 48 ≤ x → x ≤ 57 → is_digit x ≡ true
unfolding is_digit
is_digit_lem x l h = and_both _ _ (le-leb 48 x l) (le-leb x 57 h)

pub not_digit_low : (x : ℕ) → x < 48 → is_digit x ≡ false
unfolding is_digit
not_digit_low x l = and_first_false _ _ (lt-leb 48 x l)

pub not_digit_high : (x : ℕ) → 57 < x → is_digit x ≡ false
unfolding is_digit
not_digit_high x l = and_second_false (leb 48 x) _ (lt-leb x 57 l)

-- ---- a run of digits

pub value_digit : (n v x : ℕ) (xs : List ℕ) → is_digit x ≡ true → run_value (suc n) v (x ∷ xs) ≡ run_value n (10 * v + (x - 48)) xs
unfolding run_value
value_digit n v x xs h = if_true (is_digit x) _ v h

pub length_digit : (n x : ℕ) (xs : List ℕ) → is_digit x ≡ true → run_length (suc n) (x ∷ xs) ≡ suc (run_length n xs)
unfolding run_length
length_digit n x xs h = if_true (is_digit x) _ 0 h

pub value_other : (n v x : ℕ) (xs : List ℕ) → is_digit x ≡ false → run_value n v (x ∷ xs) ≡ v
unfolding run_value
value_other zero v x xs h = refl
value_other (suc n) v x xs h = if_false (is_digit x) _ v h

pub length_other : (n x : ℕ) (xs : List ℕ) → is_digit x ≡ false → run_length n (x ∷ xs) ≡ 0
unfolding run_length
length_other zero x xs h = refl
length_other (suc n) x xs h = if_false (is_digit x) _ 0 h

pub value_nil : (n v : ℕ) → run_value n v [] ≡ v
unfolding run_value
value_nil zero v = refl
value_nil (suc n) v = refl

pub length_nil : (n : ℕ) → run_length n [] ≡ 0
unfolding run_length
length_nil zero = refl
length_nil (suc n) = refl

module _ (text : List ℕ) (v i e : ℕ) where
  -- one more digit
  pub run_on_value : i < e → 48 ≤ get_or text i 256 → get_or text i 256 ≤ 57
      → run_value (e - i) v (drop i text) ≡ run_value (e - (i + 1)) (10 * v + (get_or text i 256 - 48)) (drop (i + 1) text)
  run_on_value l low high =
      ap₂ (λ (n : ℕ) (xs : List ℕ). run_value n v xs) (omega arith) (drop_byte text i (omega arith))
      ∙ value_digit (e - (i + 1)) v _ _ (is_digit_lem _ low high)

  pub run_on_length : i < e → 48 ≤ get_or text i 256 → get_or text i 256 ≤ 57
      → i + run_length (e - i) (drop i text) ≡ i + 1 + run_length (e - (i + 1)) (drop (i + 1) text)
  run_on_length l low high =
      let q : run_length (e - i) (drop i text) ≡ suc (run_length (e - (i + 1)) (drop (i + 1) text)) =
      ap₂ run_length (omega arith) (drop_byte text i (omega arith)) ∙ length_digit (e - (i + 1)) _ (drop (i + 1) text) (is_digit_lem _ low high) in
      omega arith

  -- no digit stands there
  pub run_off_value : is_digit (get_or text i 256) ≡ false → run_value (e - i) v (drop i text) ≡ v
  run_off_value h =
      ⊎_elim
      (λ p. ap (run_value (e - i) v) p.0 ∙ value_nil (e - i) v)
      (λ p. ap (run_value (e - i) v) p ∙ value_other (e - i) v _ _ h)
      (at_place text i)

  pub run_off_length : is_digit (get_or text i 256) ≡ false → run_length (e - i) (drop i text) ≡ 0
  run_off_length h =
      ⊎_elim
      (λ p. ap (run_length (e - i)) p.0 ∙ length_nil (e - i))
      (λ p. ap (run_length (e - i)) p ∙ length_other (e - i) _ _ h)
      (at_place text i)

-- as many digits as may be were read
pub run_none_value : (v e i : ℕ) (xs : List ℕ) → e ≤ i → run_value (e - i) v xs ≡ v
unfolding run_value
run_none_value v e i xs h = let p : e - i ≡ 0 = omega arith in ap (λ (n : ℕ). run_value n v xs) p

pub run_none_length : (e i : ℕ) (xs : List ℕ) → e ≤ i → run_length (e - i) xs ≡ 0
unfolding run_length
run_none_length e i xs h = let p : e - i ≡ 0 = omega arith in ap (λ (n : ℕ). run_length n xs) p

-- ---- what a run comes to

pub run_grows : (n v : ℕ) (xs : List ℕ) → v ≤ run_value n v xs
unfolding run_value
run_grows zero v xs = omega arith
run_grows (suc n) v [] = omega arith
run_grows (suc n) v (x ∷ xs) =
    ⊎_elim
    (λ h. omega (arith, if_true (is_digit x) (run_value n (10 * v + (x - 48)) xs) v h, run_grows n (10 * v + (x - 48)) xs))
    (λ h. omega (arith, if_false (is_digit x) (run_value n (10 * v + (x - 48)) xs) v h))
    (decide (is_digit x))

-- the most that n more digits make of b
grown : ℕ → ℕ → ℕ
grown zero b = b
grown (suc n) b = grown n (10 * b + 9)

grown_more : (n b : ℕ) → b ≤ grown n b
unfolding grown
grown_more zero b = omega arith
grown_more (suc n) b = omega (arith, grown_more n (10 * b + 9))

run_grown : (n v b : ℕ) (xs : List ℕ) → v ≤ b → run_value n v xs ≤ grown n b
unfolding run_value grown
run_grown zero v b xs h = h
run_grown (suc n) v b [] h = omega (arith, grown_more n (10 * b + 9))
run_grown (suc n) v b (x ∷ xs) h =
    ⊎_elim
    (λ e. omega (arith, if_true (is_digit x) (run_value n (10 * v + (x - 48)) xs) v e, digit_high x e, run_grown n (10 * v + (x - 48)) (10 * b + 9) xs (omega (arith, digit_high x e))))
    (λ e. omega (arith, if_false (is_digit x) (run_value n (10 * v + (x - 48)) xs) v e, grown_more n (10 * b + 9)))
    (decide (is_digit x))

pub run_below : (v : ℕ) (xs : List ℕ) → v ≤ 9 → run_value 4 v xs ≤ 99999
unfolding grown
run_below v xs h = run_grown 4 v 9 xs h
