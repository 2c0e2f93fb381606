-- The laws of words.
use Rattle.std.specs.Prelude.{if◌then◌else◌}
use Prim.Native.Nat.{ℕ, zero, suc, ◌+◌, ◌*◌, ◌%◌, ◌^◌, ◌≤◌, ◌<◌}
use native.Mathlib.Omega.{arith}
use native.Mathlib.Nat.{add-zero, zero-lt-suc}
use mathlib.Core.Path.{◌≡◌, refl, sym, ◌∙◌, ap, ap₂}
use mathlib.Core.Logic.{⊎_elim}
use mathlib.Core.Bool.{Bool, true, false, not}
use lib.Bits.{bit_and, bit_or, and_block, or_block}
use lib.Dec.{eqb}
use lib.IntN.{ℤ}
use lib.Pow.{pow_pos, pow_mono, shl_exact}
use borrow.Author.Tests.{eqb-true, eq-eqb, ne_eqb}
use Rattle.stab.specs.Basic.{◌and◌, ◌or◌}
use Rattle.stab.specs.Meaning.{op, empty, over}
use Rattle.stab.proofs.Bools.{and_second_false, or_right, same_test}
use Rattle.stab.proofs.Scans.{below_suc}
use Rattle.pairs.specs.Index.{unbiased}
use Rattle.pairs.specs.Reading.{op_of}
use Rattle.pairs.specs.Word.{word, word_at, combined_word, whole_word}
use Rattle.pairs.proofs.Parts.{unbiased_more}

-- ---- what the machine shifts

pub one_shifted : (k : ℕ) → k ≤ 63 → (1 * 2 ^ k) % 2 ^ 64 ≡ 2 ^ k
one_shifted k h =
    let e : 1 * 2 ^ k ≡ 2 ^ k = omega arith in
    shl_exact 1 k 64 (omega arith) (omega arith) ∙ e

-- ---- one digit more

bit : Bool → ℕ
bit true = 1
bit false = 0

top : (v : Bool) (d m : ℕ) → (if v then m + d else m) ≡ bit v * d + m
unfolding bit
top true d m = omega arith
top false d m = omega arith

word_more : (p : ℕ → Bool) (w : ℕ) → word p (suc w) ≡ bit (p w) * 2 ^ w + word p w
unfolding word
word_more p w = top (p w) (2 ^ w) (word p w)

bit_small : (v : Bool) (d : ℕ) → bit v * d ≤ d
unfolding bit
bit_small true d = omega arith
bit_small false d = omega arith

pub word_less : (p : ℕ → Bool) (w : ℕ) → word p w < 2 ^ w
unfolding word
word_less p zero = zero-lt-suc 0
word_less p (suc w) = omega (arith, word_more p w, bit_small (p w) (2 ^ w), word_less p w)

-- a word fits a number of 64 bits
pub small : (p : ℤ → Bool) (x w : ℕ) → w ≤ 63 → word_at p x w < 2 ^ 63
unfolding word_at
small p x w h = omega (arith, word_less (λ j. p (unbiased (x + j))) w, pow_mono {i = w} {j = 63} h)

pub word_same : (p q : ℕ → Bool) (w : ℕ) → ((j : ℕ) → j < w → p j ≡ q j) → word p w ≡ word q w
unfolding word
word_same p q zero h = refl
word_same p q (suc w) h =
    ap₂ (λ (v : Bool) (m : ℕ). if v then m + 2 ^ w else m) (h w (omega arith)) (word_same p q w (λ j l. h j (omega arith)))

-- ---- no digit set, all set, each the other way

pub word_none : (w : ℕ) → word (λ j. false) w ≡ 0
unfolding word
word_none zero = refl
word_none (suc w) = word_none w

bit_not : (v : Bool) (d : ℕ) → bit v * d + bit (not v) * d ≡ d
unfolding bit
bit_not true d = omega arith
bit_not false d = omega arith

pub word_not : (p : ℕ → Bool) (w : ℕ) → word p w + word (λ j. not (p j)) w + 1 ≡ 2 ^ w
unfolding word
word_not p zero = refl
word_not p (suc w) =
    omega (arith, word_more p w, word_more (λ j. not (p j)) w, bit_not (p w) (2 ^ w), word_not p w)

pub word_all : (w : ℕ) → word (λ j. true) w + 1 ≡ 2 ^ w
word_all w = omega (arith, word_not (λ j. true) w, word_none w)

-- the same value at each digit
pub same_true : (v : Bool) (m w : ℕ) → v ≡ true → m + 1 ≡ 2 ^ w → m ≡ word (λ j. v) w
same_true v m w e h =
    let all : m ≡ word (λ j. true) w = omega (arith, word_all w) in
    all ∙ ap (λ (u : Bool). word (λ j. u) w) (sym e)

pub same_false : (v : Bool) (w : ℕ) → v ≡ false → 0 ≡ word (λ j. v) w
same_false v w e = sym (ap (λ (u : Bool). word (λ j. u) w) e ∙ word_none w)

-- ---- one digit set

-- digit k is set in q and not in p, the others are the same
pub word_set : (p q : ℕ → Bool) (w k : ℕ) → k < w → p k ≡ false → q k ≡ true → ((j : ℕ) → j < w → (j ≡ k → ⊥) → p j ≡ q j) → word q w ≡ word p w + 2 ^ k
unfolding word bit
word_set p q zero k l e f h = absurd (omega arith)
word_set p q (suc w) k l e f h =
    ⊎_elim
    (λ (m : k < w).
    let low = word_set p q w k m e f (λ j n. h j (omega arith)) in
    let high = ap (λ (v : Bool). bit v * 2 ^ w) (h w (omega arith) (λ n. omega arith)) in
    omega (arith, word_more p w, word_more q w))
    (λ (m : k ≡ w).
    let low = word_same p q w (λ j n. h j (omega arith) (λ g. omega arith)) in
    let clear = ap (λ (v : Bool). bit v * 2 ^ w) (sym (ap p m) ∙ e) in
    let set = ap (λ (v : Bool). bit v * 2 ^ w) (sym (ap q m) ∙ f) in
    let at = ap (λ (x : ℕ). 2 ^ x) m in
    omega (arith, word_more p w, word_more q w))
    (below_suc k w l)

-- ---- digit by digit

bit_and_lem : (v w : Bool) → bit_and (bit v) (bit w) ≡ bit (v and w)
unfolding bit ◌and◌
bit_and_lem true true = refl
bit_and_lem true false = refl
bit_and_lem false w = refl

bit_or_lem : (v w : Bool) → bit_or (bit v) (bit w) ≡ bit (v or w)
unfolding bit ◌or◌
bit_or_lem true true = refl
bit_or_lem true false = refl
bit_or_lem false w = refl

module _ (p q : ℕ → Bool) where
  and_word : (w : ℕ) → bit_and (word p w) (word q w) ≡ word (λ j. p j and q j) w
  unfolding word
  and_word zero = refl
  and_word (suc w) =
      ap₂ bit_and (word_more p w) (word_more q w)
      ∙ and_block w (bit (p w)) (bit (q w)) (word p w) (word q w) (word_less p w) (word_less q w)
      ∙ ap₂ (λ (x y : ℕ). x * 2 ^ w + y) (bit_and_lem (p w) (q w)) (and_word w)
      ∙ sym (word_more (λ j. p j and q j) w)

  or_word : (w : ℕ) → bit_or (word p w) (word q w) ≡ word (λ j. p j or q j) w
  unfolding word
  or_word zero = refl
  or_word (suc w) =
      ap₂ bit_or (word_more p w) (word_more q w)
      ∙ or_block w (bit (p w)) (bit (q w)) (word p w) (word q w) (word_less p w) (word_less q w)
      ∙ ap₂ (λ (x y : ℕ). x * 2 ^ w + y) (bit_or_lem (p w) (q w)) (or_word w)
      ∙ sym (word_more (λ j. p j or q j) w)

  pub combined_word_lem : (any : Bool) (w : ℕ) → combined_word any (word p w) (word q w) ≡ word (λ j. op (op_of any) (p j) (q j)) w
  unfolding combined_word op op_of
  combined_word_lem true w = or_word w
  combined_word_lem false w = and_word w

op_any : (any v : Bool) → op (op_of any) any v ≡ any
unfolding op op_of ◌and◌ ◌or◌
op_any true v = refl
op_any false v = refl

-- a first word that settles the whole
pub settled_word : (any : Bool) (p q : ℕ → Bool) (w : ℕ) → word p w ≡ word (λ j. any) w → word p w ≡ word (λ j. op (op_of any) (p j) (q j)) w
settled_word any p q w e =
    e
    ∙ word_same (λ j. any) (λ j. op (op_of any) any (q j)) w (λ j l. sym (op_any any (q j)))
    ∙ sym (combined_word_lem (λ j. any) q any w)
    ∙ ap (λ (m : ℕ). combined_word any m (word q w)) (sym e)
    ∙ combined_word_lem p q any w

-- ---- the digits of one word, joined

or_unit : (v : Bool) → (v or false) ≡ v
unfolding ◌or◌
or_unit true = refl
or_unit false = refl

and_unit : (v : Bool) → (v and true) ≡ v
unfolding ◌and◌
and_unit true = refl
and_unit false = refl

-- one digit more, for a word of w digits
some_more : (v : Bool) (m w : ℕ) → (not (eqb m 0) or v) ≡ not (eqb (bit v * 2 ^ w + m) 0)
unfolding bit
some_more true m w = or_right (not (eqb m 0)) true refl ∙ ap not (sym (ne_eqb (1 * 2 ^ w + m) 0 (λ e. omega (arith, pow_pos w))))
some_more false m w =
    let e : m ≡ 0 * 2 ^ w + m = omega arith in
    or_unit (not (eqb m 0)) ∙ ap (λ (x : ℕ). not (eqb x 0)) e

all_more : (v : Bool) (m w : ℕ) → m < 2 ^ w → (eqb (m + 1) (2 ^ w) and v) ≡ eqb (bit v * 2 ^ w + m + 1) (2 ^ suc w)
unfolding bit
all_more true m w h =
    and_unit (eqb (m + 1) (2 ^ w))
    ∙ same_test (eqb (m + 1) (2 ^ w)) (eqb (1 * 2 ^ w + m + 1) (2 ^ suc w))
    (λ e. eq-eqb (1 * 2 ^ w + m + 1) (2 ^ suc w) (omega (arith, eqb-true (m + 1) (2 ^ w) e)))
    (λ e. eq-eqb (m + 1) (2 ^ w) (omega (arith, eqb-true (1 * 2 ^ w + m + 1) (2 ^ suc w) e)))
all_more false m w h =
    and_second_false (eqb (m + 1) (2 ^ w)) false refl
    ∙ sym (ne_eqb (0 * 2 ^ w + m + 1) (2 ^ suc w) (λ e. omega (arith, pow_pos w)))

-- a word against the one with all digits set
pub all_is : (w m d : ℕ) → m + 1 ≡ d → eqb w m ≡ eqb (w + 1) d
all_is w m d h =
    same_test (eqb w m) (eqb (w + 1) d)
    (λ e. eq-eqb (w + 1) d (omega (arith, eqb-true w m e)))
    (λ e. eq-eqb w m (omega (arith, eqb-true (w + 1) d e)))

pub over_word : (any : Bool) (p : ℤ → Bool) (x w : ℕ) → over (op_of any) p (unbiased x) w ≡ whole_word any (word_at p x w) w
unfolding over op op_of empty word word_at whole_word
over_word true p x zero = refl
over_word true p x (suc w) =
    ap₂ ◌or◌ (over_word true p x w) (ap p (sym (unbiased_more x w)))
    ∙ some_more (p (unbiased (x + w))) (word_at p x w) w
    ∙ ap (λ (m : ℕ). not (eqb m 0)) (sym (word_more (λ j. p (unbiased (x + j))) w))
over_word false p x zero = refl
over_word false p x (suc w) =
    ap₂ ◌and◌ (over_word false p x w) (ap p (sym (unbiased_more x w)))
    ∙ all_more (p (unbiased (x + w))) (word_at p x w) w (word_less (λ j. p (unbiased (x + j))) w)
    ∙ ap (λ (m : ℕ). eqb (m + 1) (2 ^ suc w)) (sym (word_more (λ j. p (unbiased (x + j))) w))

-- ---- a word of one digit

one_is : (v : Bool) → eqb (if v then 1 else 0) 1 ≡ v
one_is true = refl
one_is false = refl

pub word_one : (p : ℤ → Bool) (x : ℕ) → eqb (word_at p x 1) 1 ≡ p (unbiased x)
unfolding word word_at
word_one p x = one_is (p (unbiased (x + 0))) ∙ ap (λ (y : ℕ). p (unbiased y)) (add-zero x)
