-- The digits of numbers and of words.
use Rattle.std.specs.Prelude.{if◌then◌else◌}
use Prim.Native.Nat.{ℕ, zero, suc, ◌+◌, ◌-◌, ◌*◌, ◌/◌, ◌%◌, ◌^◌, ◌<◌, ◌≤◌}
use native.Mathlib.Omega.{arith}
use native.Mathlib.Nat.{mul_assoc, pow-succ', add-mul-div_left, add-div_right, div-eq_of_lt}
use mathlib.Core.Path.{◌≡◌, refl, sym, ◌∙◌, ap}
use mathlib.Core.Logic.{⊎_elim}
use mathlib.Core.Bool.{Bool, true, false}
use lib.Dec.{eqb}
use lib.Pow.{pow_pos, pow-add, shr-shr}
use Rattle.stab.specs.Meaning.{signed}
use Rattle.stab.proofs.Scans.{below_suc}
use Rattle.pairs.specs.Word.{word}
use Rattle.pairs.proofs.Words.{word_less, word_not}
use Rattle.assigned.specs.Words.{digit, turned_word}

-- ---- one digit of a number

pow_apart : (b w : ℕ) → b < w → 2 ^ w ≡ 2 ^ b * (2 * 2 ^ (w - suc b))
pow_apart b w h =
    let e : w ≡ b + suc (w - suc b) = omega arith in
    ap (λ (x : ℕ). 2 ^ x) e ∙ pow-add 2 b (suc (w - suc b)) ∙ ap (λ (x : ℕ). 2 ^ b * x) (pow-succ' 2 (w - suc b))

-- a multiple of a higher power of two changes no digit below
digit_more : (m b c : ℕ) → digit (m + 2 ^ b * (2 * c)) b ≡ digit m b
unfolding digit
digit_more m b c =
    let e : (m + 2 ^ b * (2 * c)) / 2 ^ b % 2 ≡ m / 2 ^ b % 2 = omega (arith, add-mul-div_left m (2 * c) (pow_pos b)) in
    ap (λ (x : ℕ). eqb x 1) e

-- numbers from one that starts a word: the low digits repeat, the high ones stay
module _ (m b : ℕ) (whole : m % 64 ≡ 0) where
  pub digit_low : (j : ℕ) → b < 6 → digit j b ≡ digit (m + j) b
  digit_low j h =
      let d = 2 ^ (6 - suc b) in
      let e : m ≡ 2 ^ b * (2 * (d * (m / 64))) =
      (let f : m ≡ 2 ^ 6 * (m / 64) = omega arith in f)
      ∙ ap (λ (x : ℕ). x * (m / 64)) (pow_apart b 6 h)
      ∙ mul_assoc (2 ^ b) (2 * d) (m / 64)
      ∙ ap (λ (x : ℕ). 2 ^ b * x) (mul_assoc 2 d (m / 64))
      in
      let sum : j + 2 ^ b * (2 * (d * (m / 64))) ≡ m + j = omega arith in
      sym (digit_more j b (d * (m / 64))) ∙ ap (λ (x : ℕ). digit x b) sum

  pub digit_high : (j : ℕ) → 6 ≤ b → j < 64 → digit m b ≡ digit (m + j) b
  unfolding digit
  digit_high j h l =
      let e : b ≡ 6 + (b - 6) = omega arith in
      let q : m / 2 ^ 6 ≡ (m + j) / 2 ^ 6 = omega arith in
      ap (λ (x : ℕ). eqb (x % 2) 1)
      (ap (λ (x : ℕ). m / 2 ^ x) e
      ∙ sym (shr-shr m 6 (b - 6))
      ∙ ap (λ (x : ℕ). x / 2 ^ (b - 6)) q
      ∙ shr-shr (m + j) 6 (b - 6)
      ∙ ap (λ (x : ℕ). (m + j) / 2 ^ x) (sym e))

-- ---- the digits of a word

top_set : (m w : ℕ) → m < 2 ^ w → digit (m + 2 ^ w) w ≡ true
unfolding digit
top_set m w h =
    let e : (m + 2 ^ w) / 2 ^ w % 2 ≡ 1 = omega (arith, add-div_right m (pow_pos w), div-eq_of_lt h) in
    ap (λ (x : ℕ). eqb x 1) e

top_clear : (m w : ℕ) → m < 2 ^ w → digit m w ≡ false
unfolding digit
top_clear m w h =
    let e : m / 2 ^ w % 2 ≡ 0 = omega (arith, div-eq_of_lt h) in
    ap (λ (x : ℕ). eqb x 1) e

pub word_digit : (p : ℕ → Bool) (w j : ℕ) → j < w → digit (word p w) j ≡ p j
unfolding word
word_digit p zero j h = absurd (omega arith)
word_digit p (suc w) j h = go (p w) refl (word_digit p w j)
  where
    go : (v : Bool) → p w ≡ v → (j < w → digit (word p w) j ≡ p j) → digit (if v then word p w + 2 ^ w else word p w) j ≡ p j
    go true e lower =
        ⊎_elim
        (λ (l : j < w). ap (λ (x : ℕ). digit (word p w + x) j) (pow_apart j w l) ∙ digit_more (word p w) j (2 ^ (w - suc j)) ∙ lower l)
        (λ (l : j ≡ w). ap (digit (word p w + 2 ^ w)) l ∙ top_set (word p w) w (word_less p w) ∙ sym e ∙ ap p (sym l))
        (below_suc j w h)
    go false e lower =
        ⊎_elim
        (λ (l : j < w). lower l)
        (λ (l : j ≡ w). ap (digit (word p w)) l ∙ top_clear (word p w) w (word_less p w) ∙ sym e ∙ ap p (sym l))
        (below_suc j w h)

pub turned_word_lem : (held : Bool) (p : ℕ → Bool) → turned_word held (word p 64) ≡ word (λ j. signed held (p j)) 64
unfolding turned_word signed
turned_word_lem true p = refl
turned_word_lem false p = omega (arith, word_not p 64)
