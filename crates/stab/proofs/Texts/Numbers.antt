-- Numbers as text: the bytes of a number read back as the number, and bytes that read as a number are the number's own.
use Rattle.std.specs.Prelude.{if◌then◌else◌}
use Prim.Native.Nat.{ℕ, zero, suc, ◌+◌, ◌*◌, ◌-◌, ◌/◌, ◌%◌, ◌^◌, ◌<◌, ◌≤◌}
use native.Mathlib.Omega.{arith}
use native.Mathlib.Nat.{add-zero, pow-le-pow_right, pow-succ'}
use mathlib.Core.Path.{◌≡◌, refl, sym, ◌∙◌, ap, ap₂, subst, subst₂}
use mathlib.Core.Logic.{⊎_elim}
use mathlib.Core.Bool.{Bool, true, false, not, false≢true}
use mathlib.Core.List.{List, [], ◌∷◌, ◌++◌, append_assoc, append-nil}
use mathlib.Core.Option.{some, none-ne-some, some-injective}
use lib.Dec.{leb, ltb, eqb}
use lib.IntN.{ℤ, pos, negsuc, neg_ℤ}
use lib.ListN.{length, length-append}
use borrow.Author.Tests.{leb-true, ltb-true, ltb-false, eqb-true, eqb-false, le-leb, lt-ltb, le-ltb, eq-eqb, ne_eqb}
use Rattle.stab.specs.Basic.{◌and◌, all_of}
use Rattle.stab.specs.Text.{same_bytes, zero_digit, minus, is_digit, digits_value, is_natural, some_if, number_of, digits_n, five_digits, decimal}
use Rattle.stab.proofs.Bools.{and_left, and_right, and_both, and_first_false, decide, if_true, if_false, not_of_false, false_of_not}

-- ---- digits

pub digit_low : (x : ℕ) → is_digit x ≡ true → 48 ≤ x
unfolding is_digit
digit_low x h = leb-true 48 x (and_left _ _ h)

pub digit_high : (x : ℕ) → is_digit x ≡ true → x ≤ 57
unfolding is_digit
digit_high x h = leb-true x 57 (and_right (leb 48 x) _ h)

pub digit_of_lem : (d : ℕ) → d < 10 → is_digit (48 + d) ≡ true
unfolding is_digit
digit_of_lem d h = and_both _ _ (le-leb 48 (48 + d) (omega arith)) (le-leb (48 + d) 57 (omega arith))

-- one digit more at the end
pub value_snoc : (v : ℕ) (ds : List ℕ) (d : ℕ) → digits_value v (ds ++ d ∷ []) ≡ 10 * digits_value v ds + (d - 48)
unfolding digits_value zero_digit
value_snoc v [] d = refl
value_snoc v (x ∷ xs) d = value_snoc (10 * v + (x - 48)) xs d

-- the digits of a number stand for it
pub digits_value_lem : (k v : ℕ) → digits_value 0 (digits_n k v) ≡ v
unfolding digits_value digits_n zero_digit
digits_value_lem zero v = omega arith
digits_value_lem (suc k) v =
    ⊎_elim
    (λ h. ap (digits_value 0) (if_true (ltb v 10) _ _ h) ∙ omega arith)
    (λ h. ap (digits_value 0) (if_false (ltb v 10) _ _ h)
    ∙ value_snoc 0 (digits_n k (v / 10)) (48 + v % 10)
    ∙ omega (arith, digits_value_lem k (v / 10)))
    (decide (ltb v 10))

-- digits as `isNatural` asks for them, with up to k more after the first
unfoldable pub natural_within : ℕ → List ℕ → Bool
natural_within k [] = false
natural_within k (x ∷ xs) = not (eqb x zero_digit) and leb (length xs) k and is_digit x and all_of is_digit xs

natural_four : (ds : List ℕ) → natural_within 4 ds ≡ is_natural ds
unfolding natural_within is_natural
natural_four [] = refl
natural_four (x ∷ xs) = refl

all_snoc : (p : ℕ → Bool) (ds : List ℕ) (d : ℕ) → all_of p ds ≡ true → p d ≡ true → all_of p (ds ++ d ∷ []) ≡ true
unfolding all_of
all_snoc p [] d h e = and_both _ _ e refl
all_snoc p (x ∷ xs) d h e = and_both (p x) _ (and_left _ _ h) (all_snoc p xs d (and_right (p x) _ h) e)

-- what the test says of its parts
natural_head : (k x : ℕ) (xs : List ℕ) → natural_within k (x ∷ xs) ≡ true → not (eqb x 48) ≡ true
unfolding natural_within zero_digit
natural_head k x xs h = and_left _ _ h

natural_length : (k x : ℕ) (xs : List ℕ) → natural_within k (x ∷ xs) ≡ true → leb (length xs) k ≡ true
unfolding natural_within zero_digit
natural_length k x xs h = and_left _ _ (and_right (not (eqb x 48)) _ h)

natural_digit : (k x : ℕ) (xs : List ℕ) → natural_within k (x ∷ xs) ≡ true → is_digit x ≡ true
unfolding natural_within zero_digit
natural_digit k x xs h = and_left _ _ (and_right (leb (length xs) k) _ (and_right (not (eqb x 48)) _ h))

natural_rest : (k x : ℕ) (xs : List ℕ) → natural_within k (x ∷ xs) ≡ true → all_of is_digit xs ≡ true
unfolding natural_within zero_digit
natural_rest k x xs h = and_right (is_digit x) _ (and_right (leb (length xs) k) _ (and_right (not (eqb x 48)) _ h))

natural_make : (k x : ℕ) (xs : List ℕ) → not (eqb x 48) ≡ true → leb (length xs) k ≡ true → is_digit x ≡ true → all_of is_digit xs ≡ true → natural_within k (x ∷ xs) ≡ true
unfolding natural_within zero_digit
natural_make k x xs a b c d = and_both _ _ a (and_both _ _ b (and_both _ _ c d))

natural_snoc : (k : ℕ) (ds : List ℕ) (d : ℕ) → natural_within k ds ≡ true → is_digit d ≡ true → natural_within (suc k) (ds ++ d ∷ []) ≡ true
natural_snoc k [] d h e = absurd (false≢true (unfold natural_within in h))
natural_snoc k (x ∷ xs) d h e =
    natural_make (suc k) x (xs ++ d ∷ [])
    (natural_head k x xs h)
    (le-leb (length (xs ++ d ∷ [])) (suc k) (omega (arith, length-append xs (d ∷ []), leb-true (length xs) k (natural_length k x xs h))))
    (natural_digit k x xs h)
    (all_snoc is_digit xs d (natural_rest k x xs h) e)

natural_one : (k d : ℕ) → 1 ≤ d → d < 10 → natural_within k ((48 + d) ∷ []) ≡ true
unfolding all_of
natural_one k d l h =
    natural_make k (48 + d) []
    (not_of_false _ (ne_eqb (48 + d) 48 (λ e. omega arith)))
    (le-leb 0 k (omega arith))
    (digit_of_lem d h)
    refl

-- the digits of a positive number are of the required form
pub digits_natural : (k v : ℕ) → 1 ≤ v → v < 10 ^ suc k → natural_within k (digits_n k v) ≡ true
unfolding digits_n zero_digit
digits_natural zero v l h = natural_one 0 v l h
digits_natural (suc k) v l h =
    ⊎_elim
    (λ e. subst (λ (ds : List ℕ). natural_within (suc k) ds ≡ true) (sym (if_true (ltb v 10) _ _ e))
    (natural_one (suc k) v l (ltb-true v 10 e)))
    (λ e. let m = ltb-false v 10 e in
    subst (λ (ds : List ℕ). natural_within (suc k) ds ≡ true) (sym (if_false (ltb v 10) _ _ e))
    (natural_snoc k (digits_n k (v / 10)) (48 + v % 10)
    (digits_natural k (v / 10) (omega arith) (omega (arith, pow-succ' 10 (suc k))))
    (digit_of_lem (v % 10) (omega arith))))
    (decide (ltb v 10))

-- digits that follow those of v are the digits of the number that they all stand for
digits_follow : (xs : List ℕ) (k v : ℕ) → 1 ≤ v → all_of is_digit xs ≡ true → digits_n (k + length xs) (digits_value v xs) ≡ digits_n k v ++ xs
unfolding digits_value digits_n all_of zero_digit
digits_follow [] k v l h = ap (λ (j : ℕ). digits_n j v) (add-zero k) ∙ sym (append-nil (digits_n k v))
digits_follow (x ∷ xs) k v l h =
    let low = digit_low x (and_left _ _ h) in
    let high = digit_high x (and_left _ _ h) in
    let w : ℕ = 10 * v + (x - 48) in
    let more : k + suc (length xs) ≡ suc k + length xs = omega arith in
    let tens : w / 10 ≡ v = omega arith in
    let ones : 48 + w % 10 ≡ x = omega arith in
    ap (λ (j : ℕ). digits_n j (digits_value w xs)) more
    ∙ digits_follow xs (suc k) w (omega arith) (and_right (is_digit x) _ h)
    ∙ ap (λ (p : List ℕ). p ++ xs)
    (if_false (ltb w 10) _ _ (le-ltb w 10 (omega arith)) ∙ ap₂ (λ (a b : ℕ). digits_n k a ++ b ∷ []) tens ones)
    ∙ append_assoc (digits_n k v) (x ∷ []) xs

digits_one : (k d : ℕ) → d < 10 → digits_n k d ≡ (48 + d) ∷ []
unfolding digits_n zero_digit
digits_one zero d h = refl
digits_one (suc k) d h = if_true (ltb d 10) _ _ (lt-ltb d 10 h)

-- digits of the required form are the digits of the number that they stand for
pub natural_digits : (ds : List ℕ) → is_natural ds ≡ true → digits_n 4 (digits_value 0 ds) ≡ ds
unfolding digits_value zero_digit
natural_digits [] h = absurd (false≢true (unfold is_natural in h))
natural_digits (x ∷ xs) h =
    let g = natural_four (x ∷ xs) ∙ h in
    let low = digit_low x (natural_digit 4 x xs g) in
    let high = digit_high x (natural_digit 4 x xs g) in
    let few = leb-true (length xs) 4 (natural_length 4 x xs g) in
    let first : (x ≡ 48) → ⊥ = eqb-false x 48 (false_of_not _ (natural_head 4 x xs g)) in
    let v : ℕ = 10 * 0 + (x - 48) in
    let k : ℕ = 4 - length xs in
    let all : 4 ≡ k + length xs = omega arith in
    let same : 48 + v ≡ x = omega arith in
    ap (λ (j : ℕ). digits_n j (digits_value v xs)) all
    ∙ digits_follow xs k v (omega arith) (natural_rest 4 x xs g)
    ∙ ap (λ (p : List ℕ). p ++ xs) (digits_one k v (omega arith) ∙ ap (λ (y : ℕ). y ∷ []) same)

value_positive : (v : ℕ) (xs : List ℕ) → 1 ≤ v → 1 ≤ digits_value v xs
unfolding digits_value
value_positive v [] l = l
value_positive v (x ∷ xs) l = value_positive (10 * v + (x - zero_digit)) xs (omega arith)

value_below : (a v : ℕ) (xs : List ℕ) → all_of is_digit xs ≡ true → v < 10 ^ a → digits_value v xs < 10 ^ (a + length xs)
unfolding digits_value all_of zero_digit
value_below a v [] h l = subst (λ (j : ℕ). v < 10 ^ j) (sym (add-zero a)) l
value_below a v (x ∷ xs) h l =
    let high = digit_high x (and_left _ _ h) in
    let w : ℕ = 10 * v + (x - 48) in
    let more : suc a + length xs ≡ a + suc (length xs) = omega arith in
    subst (λ (j : ℕ). digits_value w xs < 10 ^ j) more
    (value_below (suc a) w xs (and_right (is_digit x) _ h) (omega (arith, pow-succ' 10 a)))

-- it is positive and has at most five digits
pub natural_positive : (ds : List ℕ) → is_natural ds ≡ true → 1 ≤ digits_value 0 ds
unfolding digits_value zero_digit
natural_positive [] h = absurd (false≢true (unfold is_natural in h))
natural_positive (x ∷ xs) h =
    let g = natural_four (x ∷ xs) ∙ h in
    let low = digit_low x (natural_digit 4 x xs g) in
    let first : (x ≡ 48) → ⊥ = eqb-false x 48 (false_of_not _ (natural_head 4 x xs g)) in
    value_positive (10 * 0 + (x - 48)) xs (omega arith)

pub natural_below : (ds : List ℕ) → is_natural ds ≡ true → digits_value 0 ds ≤ 99999
unfolding digits_value zero_digit
natural_below [] h = absurd (false≢true (unfold is_natural in h))
natural_below (x ∷ xs) h =
    let g = natural_four (x ∷ xs) ∙ h in
    let high = digit_high x (natural_digit 4 x xs g) in
    let few = leb-true (length xs) 4 (natural_length 4 x xs g) in
    let fits : 1 + length xs ≤ 5 = omega arith in
    omega (arith, value_below 1 (10 * 0 + (x - 48)) xs (natural_rest 4 x xs g) (omega arith), pow-le-pow_right {n = 10} (omega arith) fits)

-- ---- whole numbers

pub same_bytes_true : (xs ys : List ℕ) → same_bytes xs ys ≡ true → xs ≡ ys
unfolding same_bytes
same_bytes_true [] [] h = refl
same_bytes_true [] (y ∷ ys) h = absurd (false≢true h)
same_bytes_true (x ∷ xs) [] h = absurd (false≢true h)
same_bytes_true (x ∷ xs) (y ∷ ys) h =
    ap₂ (λ (a : ℕ) (l : List ℕ). a ∷ l) (eqb-true x y (and_left _ _ h)) (same_bytes_true xs ys (and_right (eqb x y) _ h))

pub same_bytes_refl : (xs : List ℕ) → same_bytes xs xs ≡ true
unfolding same_bytes
same_bytes_refl [] = refl
same_bytes_refl (x ∷ xs) = and_both _ _ (eq-eqb x x refl) (same_bytes_refl xs)

some_if_true : {A : Type 0} (b : Bool) (a : A) → b ≡ true → some_if b a ≡ some a
unfolding some_if
some_if_true true a h = refl
some_if_true false a h = absurd (false≢true h)

some_some_if : {A : Type 0} (b : Bool) (a c : A) → some_if b a ≡ some c → (b ≡ true) × (a ≡ c)
unfolding some_if
some_some_if true a c h = (refl, some-injective a c h)
some_some_if false a c h = absurd (none-ne-some c h)

pub number_positive : (ds : List ℕ) → is_natural ds ≡ true → number_of ds ≡ some (pos (digits_value 0 ds))
unfolding number_of same_bytes zero_digit minus
number_positive [] h = absurd (false≢true (unfold is_natural in h))
number_positive (x ∷ xs) h =
    let g = natural_four (x ∷ xs) ∙ h in
    let low = digit_low x (natural_digit 4 x xs g) in
    if_false (eqb x 48 and same_bytes xs []) _ _ (and_first_false (eqb x 48) _ (false_of_not _ (natural_head 4 x xs g)))
    ∙ if_false (eqb x 45) _ _ (ne_eqb x 45 (λ e. omega arith))
    ∙ some_if_true (is_natural (x ∷ xs)) _ h

pub number_negative : (ds : List ℕ) → is_natural ds ≡ true → number_of (45 ∷ ds) ≡ some (neg_ℤ (pos (digits_value 0 ds)))
unfolding number_of same_bytes zero_digit minus ◌and◌
number_negative ds h = some_if_true (is_natural ds) _ h

-- bytes that read as a number are `0`, or a minus and digits, or digits
pub number_cases : (P : List ℕ → ℤ → Type 0)
    → P (48 ∷ []) (pos 0)
    → ((ds : List ℕ) → is_natural ds ≡ true → P (45 ∷ ds) (neg_ℤ (pos (digits_value 0 ds))))
    → ((ds : List ℕ) → is_natural ds ≡ true → P ds (pos (digits_value 0 ds)))
    → (f : List ℕ) (z : ℤ) → number_of f ≡ some z → P f z
unfolding number_of zero_digit minus
number_cases P a b c [] z h = absurd (none-ne-some z h)
number_cases P a b c (x ∷ xs) z h = ⊎_elim nought other (decide (same_bytes (x ∷ xs) (48 ∷ [])))
  where
    nought : same_bytes (x ∷ xs) (48 ∷ []) ≡ true → P (x ∷ xs) z
    nought e =
        subst₂ P (sym (same_bytes_true _ _ e))
        (some-injective (pos 0) z (sym (if_true (same_bytes (x ∷ xs) (48 ∷ [])) _ _ e) ∙ h)) a

    negative : eqb x 45 ≡ true → (if eqb x 45 then some_if (is_natural xs) (neg_ℤ (pos (digits_value 0 xs))) else some_if (is_natural (x ∷ xs)) (pos (digits_value 0 (x ∷ xs)))) ≡ some z → P (x ∷ xs) z
    negative e g =
        let k = some_some_if (is_natural xs) _ z (sym (if_true (eqb x 45) _ _ e) ∙ g) in
        subst₂ P (ap (λ (y : ℕ). y ∷ xs) (sym (eqb-true x 45 e))) k.1 (b xs k.0)

    positive : eqb x 45 ≡ false → (if eqb x 45 then some_if (is_natural xs) (neg_ℤ (pos (digits_value 0 xs))) else some_if (is_natural (x ∷ xs)) (pos (digits_value 0 (x ∷ xs)))) ≡ some z → P (x ∷ xs) z
    positive e g =
        let k = some_some_if (is_natural (x ∷ xs)) _ z (sym (if_false (eqb x 45) _ _ e) ∙ g) in
        subst (P (x ∷ xs)) k.1 (c (x ∷ xs) k.0)

    other : same_bytes (x ∷ xs) (48 ∷ []) ≡ false → P (x ∷ xs) z
    other e =
        let g = sym (if_false (same_bytes (x ∷ xs) (48 ∷ [])) _ _ e) ∙ h in
        ⊎_elim (λ q. negative q g) (λ q. positive q g) (decide (eqb x 45))

-- a number of at most five digits, written, reads as itself
pub decimal_number : (z : ℤ) → five_digits z ≡ true → number_of (decimal z) ≡ some z
unfolding decimal five_digits minus
decimal_number (pos zero) h = unfold digits_n number_of same_bytes zero_digit ◌and◌ in refl
decimal_number (pos (suc v)) h =
    number_positive (digits_n 4 (suc v))
    (sym (natural_four (digits_n 4 (suc v))) ∙ digits_natural 4 (suc v) (omega arith) (omega (arith, leb-true (suc v) 99999 h)))
    ∙ ap (λ (w : ℕ). some (pos w)) (digits_value_lem 4 (suc v))
decimal_number (negsuc v) h =
    number_negative (digits_n 4 (suc v))
    (sym (natural_four (digits_n 4 (suc v))) ∙ digits_natural 4 (suc v) (omega arith) (omega (arith, leb-true (suc v) 99999 h)))
    ∙ ap (λ (w : ℕ). some (neg_ℤ (pos w))) (digits_value_lem 4 (suc v))

-- and bytes that read as a number are the bytes of that number, which has at most five digits
Own : List ℕ → ℤ → Type 0
Own f z = (decimal z ≡ f) × (five_digits z ≡ true)

own_zero : Own (48 ∷ []) (pos 0)
unfolding Own decimal five_digits digits_n zero_digit
own_zero = (refl, refl)

own_positive : (ds : List ℕ) → is_natural ds ≡ true → Own ds (pos (digits_value 0 ds))
unfolding Own decimal five_digits
own_positive ds h = (natural_digits ds h, le-leb (digits_value 0 ds) 99999 (natural_below ds h))

own_negative : (ds : List ℕ) → is_natural ds ≡ true → Own (45 ∷ ds) (neg_ℤ (pos (digits_value 0 ds)))
unfolding Own decimal five_digits minus
own_negative ds h = go (digits_value 0 ds) (natural_positive ds h) (natural_below ds h) (natural_digits ds h)
  where
    go : (w : ℕ) → 1 ≤ w → w ≤ 99999 → digits_n 4 w ≡ ds → (decimal (neg_ℤ (pos w)) ≡ 45 ∷ ds) × (five_digits (neg_ℤ (pos w)) ≡ true)
    go zero a b e = absurd (omega arith)
    go (suc w) a b e = (ap (λ (l : List ℕ). 45 ∷ l) e, le-leb (suc w) 99999 b)

pub number_decimal : (f : List ℕ) (z : ℤ) → number_of f ≡ some z → (decimal z ≡ f) × (five_digits z ≡ true)
unfolding Own
number_decimal f z h = number_cases Own own_zero own_negative own_positive f z h

-- ---- single bytes

-- every byte of a number is a minus or more
all_raise : (a b : ℕ) (xs : List ℕ) → b ≤ a → all_of (leb a) xs ≡ true → all_of (leb b) xs ≡ true
unfolding all_of
all_raise a b [] l h = refl
all_raise a b (x ∷ xs) l h =
    and_both _ _ (le-leb b x (omega (arith, leb-true a x (and_left _ _ h)))) (all_raise a b xs l (and_right (leb a x) _ h))

digits_high : (k v : ℕ) → all_of (leb 48) (digits_n k v) ≡ true
unfolding digits_n zero_digit all_of
digits_high zero v = and_both _ _ (le-leb 48 (48 + v) (omega arith)) refl
digits_high (suc k) v =
    ⊎_elim
    (λ e. ap (all_of (leb 48)) (if_true (ltb v 10) _ _ e) ∙ and_both _ _ (le-leb 48 (48 + v) (omega arith)) refl)
    (λ e. ap (all_of (leb 48)) (if_false (ltb v 10) _ _ e)
    ∙ all_snoc (leb 48) (digits_n k (v / 10)) (48 + v % 10) (digits_high k (v / 10)) (le-leb 48 (48 + v % 10) (omega arith)))
    (decide (ltb v 10))

pub decimal_high : (z : ℤ) → all_of (leb 45) (decimal z) ≡ true
unfolding decimal minus all_of ◌and◌
decimal_high (pos v) = all_raise 48 45 (digits_n 4 v) (omega arith) (digits_high 4 v)
decimal_high (negsuc v) = all_raise 48 45 (digits_n 4 (suc v)) (omega arith) (digits_high 4 (suc v))

-- a number starts with a digit or a minus, so not with a letter
pub number_start : (x : ℕ) (xs : List ℕ) (z : ℤ) → number_of (x ∷ xs) ≡ some z → x ≤ 57
number_start x xs z h = number_cases (λ f w. Low f) (omega arith) (λ ds e. omega arith) digit (x ∷ xs) z h
  where
    Low : List ℕ → Type 0
    Low [] = Unit {0}
    Low (y ∷ ys) = y ≤ 57

    digit : (ds : List ℕ) → is_natural ds ≡ true → Low ds
    digit [] e = tt
    digit (y ∷ ys) e = digit_high y (natural_digit 4 y ys (natural_four (y ∷ ys) ∙ e))
