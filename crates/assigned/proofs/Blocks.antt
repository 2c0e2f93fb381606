-- Several words, one after the other.
use Prim.Native.Nat.{ℕ, zero, suc, ◌+◌, ◌*◌, ◌/◌, ◌%◌, ◌<◌, ◌≤◌}
use native.Mathlib.Omega.{arith}
use native.Mathlib.Numerals.{add-one}
use mathlib.Core.Path.{◌≡◌, refl, sym, ◌∙◌, ap, ap₂}
use mathlib.Core.Bool.{Bool, true, false}
use mathlib.Core.List.{List, [], ◌∷◌, ◌++◌}
use lib.Dec.{eqb}
use lib.ListN.{length, get_or, take, drop, set, replicate, length-set}
use lib.Seq.{take-suc, take_all, take-suc-set, drop-set-lt, drop-drop, length-take-le, get_or-drop}
use borrow.Author.Tests.{eqb-true}
use Rattle.std.specs.List.{list_all}
use Rattle.std.specs.Prelude.{◌&&◌}
use Rattle.stab.specs.Basic.{all_of, ◌and◌}
use Rattle.stab.specs.Meaning.{op}
use Rattle.stab.proofs.Bools.{and_left, and_right}
use Rattle.pairs.specs.Reading.{op_of}
use Rattle.pairs.specs.Word.{word, combined_word}
use Rattle.pairs.proofs.Words.{word_same, combined_word_lem, settled_word}
use Rattle.assigned.specs.Words.{digit, words, digit_of, combined_words}
use Rattle.assigned.proofs.DigitLaws.{word_digit}

-- ---- one by one

pub words_same : (p q : ℕ → Bool) (k : ℕ) → ((j : ℕ) → p j ≡ q j) → words p k ≡ words q k
unfolding words
words_same p q zero h = refl
words_same p q (suc k) h =
    ap₂ (λ (w : ℕ) (ws : List ℕ). w ∷ ws) (word_same p q 64 (λ j l. h j)) (words_same (λ j. p (64 + j)) (λ j. q (64 + j)) k (λ j. h (64 + j)))

pub words_length : (p : ℕ → Bool) (k : ℕ) → length (words p k) ≡ k
unfolding words
words_length p zero = refl
words_length p (suc k) = ap suc (words_length (λ j. p (64 + j)) k)

-- one word more at the end
words_more : (p : ℕ → Bool) (k : ℕ) → words p (suc k) ≡ words p k ++ word (λ j. p (64 * k + j)) 64 ∷ []
unfolding words
words_more p zero = ap (λ (w : ℕ). w ∷ []) (word_same _ _ 64 (λ j l. ap p (omega arith)))
words_more p (suc k) =
    ap (λ (ws : List ℕ). word p 64 ∷ ws)
    (words_more (λ j. p (64 + j)) k
    ∙ ap (λ (w : ℕ). words (λ j. p (64 + j)) k ++ w ∷ []) (word_same _ _ 64 (λ j l. ap p (omega arith))))

word_at : (p : ℕ → Bool) (k i : ℕ) → i < k → get_or (words p k) i 0 ≡ word (λ j. p (64 * i + j)) 64
unfolding words
word_at p zero i h = absurd (omega arith)
word_at p (suc k) zero h = word_same _ _ 64 (λ j l. ap p (omega arith))
word_at p (suc k) (suc i) h = word_at (λ j. p (64 + j)) k i (omega arith) ∙ word_same _ _ 64 (λ j l. ap p (omega arith))

pub words_digit : (p : ℕ → Bool) (k j : ℕ) → j < 64 * k → digit_of (words p k) j ≡ p j
unfolding digit_of
words_digit p k j h =
    ap (λ (w : ℕ). digit w (j % 64)) (word_at p k (j / 64) (omega arith))
    ∙ word_digit _ 64 (j % 64) (omega arith)
    ∙ ap p (omega arith)

-- ---- the same value at each

pub same_words : (v : Bool) (w k : ℕ) → w ≡ word (λ j. v) 64 → replicate k w ≡ words (λ j. v) k
unfolding words
same_words v w zero h = refl
same_words v w (suc k) h = ap₂ (λ (x : ℕ) (xs : List ℕ). x ∷ xs) h (same_words v w k h)

-- ---- digit by digit

pub combined_words_lem : (any : Bool) (p q : ℕ → Bool) (k : ℕ) → combined_words any (words p k) (words q k) ≡ words (λ j. op (op_of any) (p j) (q j)) k
unfolding words combined_words
combined_words_lem any p q zero = refl
combined_words_lem any p q (suc k) =
    ap₂ (λ (x : ℕ) (xs : List ℕ). x ∷ xs) (combined_word_lem p q any 64) (combined_words_lem any (λ j. p (64 + j)) (λ j. q (64 + j)) k)

-- words that settle the whole
pub settled_words : (any : Bool) (p q : ℕ → Bool) (k : ℕ) → all_of (λ w. eqb w (word (λ j. any) 64)) (words p k) ≡ true → words p k ≡ words (λ j. op (op_of any) (p j) (q j)) k
unfolding words all_of
settled_words any p q zero h = refl
settled_words any p q (suc k) h =
    ap₂ (λ (x : ℕ) (xs : List ℕ). x ∷ xs)
    (settled_word any p q 64 (eqb-true _ _ (and_left _ _ h)))
    (settled_words any (λ j. p (64 + j)) (λ j. q (64 + j)) k (and_right _ _ h))

-- ---- word after word

-- the first k words of a table are in place
module _ (p : ℕ → Bool) (t : List ℕ) (k : ℕ) where
  pub words_put : (w : ℕ) → k < length t → take k t ≡ words p k → w ≡ word (λ j. p (64 * k + j)) 64 → take (k + 1) (set t k w) ≡ words p (k + 1)
  words_put w h e f =
      ap (λ (x : ℕ). take x (set t k w)) (add-one k)
      ∙ take-suc-set t k w h
      ∙ ap₂ (λ (l : List ℕ) (x : ℕ). l ++ x ∷ []) e f
      ∙ sym (words_more p k)
      ∙ ap (words p) (sym (add-one k))

  pub words_all : (n : ℕ) → length t ≡ n → n ≤ k → k ≤ n → take k t ≡ words p k → t ≡ words p n
  words_all n l g h e =
      let same : k ≡ n = omega arith in
      sym (take_all k t (omega arith)) ∙ e ∙ ap (words p) same

combine_more : (any : Bool) (xs ys : List ℕ) (x y : ℕ) → length xs ≡ length ys → combined_words any (xs ++ x ∷ []) (ys ++ y ∷ []) ≡ combined_words any xs ys ++ combined_word any x y ∷ []
unfolding combined_words
combine_more any [] [] x y h = refl
combine_more any [] (v ∷ ys) x y h = absurd (omega arith)
combine_more any (u ∷ xs) [] x y h = absurd (omega arith)
combine_more any (u ∷ xs) (v ∷ ys) x y h = ap (λ (l : List ℕ). combined_word any u v ∷ l) (combine_more any xs ys x y (omega arith))

-- the first k words of a table are combined, the others are as they were
pub record Combined (any : Bool) (before t ws : List ℕ) (k : ℕ) : Type 0 where
  pub long : length t ≡ length before
  pub front : take k t ≡ combined_words any (take k before) (take k ws)
  pub back : drop k t ≡ drop k before

pub combined_start : (any : Bool) (t ws : List ℕ) → Combined any t t ws 0
unfolding combined_words
combined_start any t ws = record { long = refl; front = refl; back = refl }

module _ (any : Bool) (before t ws : List ℕ) (k : ℕ) (j : Combined any before t ws k) (h : k < length before) where
  pub combined_same : get_or t k 0 ≡ get_or before k 0
  combined_same =
      let e : k ≡ k + 0 = omega arith in
      ap (λ (x : ℕ). get_or t x 0) e ∙ sym (get_or-drop k t 0 0) ∙ ap (λ (l : List ℕ). get_or l 0 0) j.back ∙ get_or-drop k before 0 0 ∙ ap (λ (x : ℕ). get_or before x 0) (sym e)

  pub combined_put : (w : ℕ) → k < length ws → w ≡ combined_word any (get_or t k 0) (get_or ws k 0) → Combined any before (set t k w) ws (k + 1)
  combined_put w l e =
      let same : length (take k before) ≡ length (take k ws) = length-take-le k before (omega arith) ∙ sym (length-take-le k ws (omega arith)) in
      record {
        long = length-set t k w ∙ j.long;
        front =
            ap (λ (x : ℕ). take x (set t k w)) (add-one k)
            ∙ take-suc-set t k w (omega (arith, j.long))
            ∙ ap₂ (λ (l : List ℕ) (x : ℕ). l ++ x ∷ []) j.front (e ∙ ap (λ (x : ℕ). combined_word any x (get_or ws k 0)) combined_same)
            ∙ sym (combine_more any (take k before) (take k ws) (get_or before k 0) (get_or ws k 0) same)
            ∙ ap₂ (combined_words any) (sym (take-suc before k 0 h)) (sym (take-suc ws k 0 l))
            ∙ ap (λ (x : ℕ). combined_words any (take x before) (take x ws)) (sym (add-one k));
        back =
            ap (λ (x : ℕ). drop x (set t k w)) (add-one k)
            ∙ drop-set-lt (suc k) t k w (omega arith)
            ∙ ap (λ (x : ℕ). drop x t) (sym (add-one k))
            ∙ sym (drop-drop 1 k t)
            ∙ ap (drop 1) j.back
            ∙ drop-drop 1 k before;
      }

pub combined_all : (any : Bool) (before t ws : List ℕ) (k : ℕ) → Combined any before t ws k → length before ≤ k → length ws ≤ k → t ≡ combined_words any before ws
combined_all any before t ws k j g h =
    sym (take_all k t (omega (arith, j.long)))
    ∙ j.front
    ∙ ap₂ (combined_words any) (take_all k before g) (take_all k ws h)

-- ---- each word passes

pub all_is : (p : ℕ → Bool) (l : List ℕ) → all_of p l ≡ list_all p l
unfolding all_of ◌and◌
all_is p [] = refl
all_is p (x ∷ l) = go (p x) (all_is p l)
  where
    go : (b : Bool) → all_of p l ≡ list_all p l → (b and all_of p l) ≡ (b && list_all p l)
    go true e = e
    go false e = refl
