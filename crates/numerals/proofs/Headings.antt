-- A heading byte by byte, and what the definitions make of it.
use Prim.Native.Nat.{ℕ, suc, ◌+◌, ◌-◌, ◌≤◌}
use native.Mathlib.Omega.{arith}
use native.Mathlib.Nat.{add-zero}
use mathlib.Core.Path.{◌≡◌, refl, sym, ◌∙◌, ap, ap₂}
use mathlib.Core.Logic.{⊎_elim}
use mathlib.Core.Bool.{Bool, true, false, not, true≢false, false≢true}
use mathlib.Core.List.{List, [], ◌∷◌, ◌++◌}
use lib.Dec.{eqb}
use lib.ListN.{length, get_or, take, drop, length-drop}
use lib.Seq.{drop-drop}
use borrow.Author.Tests.{eqb-true, eq-eqb, ne_eqb}
use Rattle.std.specs.List.{starts_with}
use Rattle.std.specs.Cmp.Lexicographic.{pointwise}
use Rattle.std.proofs.lemmas.Slice.Eq.{starts_is}
use Rattle.std.proofs.lemmas.Bool.Decides.{Decides-eqb}
use Rattle.std.proofs.lemmas.List.{take_all, get_or-drop}
use Rattle.stab.specs.Basic.{◌and◌}
use Rattle.stab.specs.Text.{Line, lines, same_bytes, lacks}
use Rattle.stab.specs.Read.{read, stopped, require, heading_at}
use Rattle.stab.specs.declared.Refusal.TheVariants.{Heading}
use Rattle.stab.proofs.Bools.{and_left, and_right, and_first_false, and_second_false, decide, if_true, if_false, false_of_not}
use Rattle.numerals.specs.Here.{first_line, after_line}
use Rattle.numerals.specs.Headings.{is_heading, after_heading}
use Rattle.numerals.proofs.Lines.{line_end_lem, line_byte, after_end, after_byte, lines_first, lines_nil}

-- ---- byte by byte

heading_nil : (h : List ℕ) → is_heading h [] ≡ false
unfolding is_heading first_line ◌and◌
heading_nil h = refl

swap_and : (a b c : Bool) → (a and (b and c)) ≡ (b and (a and c))
unfolding ◌and◌
swap_and true b c = refl
swap_and false true c = refl
swap_and false false c = refl

heading_byte : (y : ℕ) (h : List ℕ) (x : ℕ) (xs : List ℕ) → (y ≡ 10 → ⊥) → is_heading (y ∷ h) (x ∷ xs) ≡ (eqb x y and is_heading h xs)
unfolding is_heading same_bytes
heading_byte y h x xs n =
    ⊎_elim
    (λ e. ap (λ (l : Line). l.ended and same_bytes l.content (y ∷ h)) (line_end_lem x xs e)
    ∙ and_second_false true _ refl
    ∙ sym (and_first_false _ _ (ne_eqb x y (λ p. n (sym p ∙ eqb-true x 10 e)))))
    (λ e. ap (λ (l : Line). l.ended and same_bytes l.content (y ∷ h)) (line_byte x xs e)
    ∙ swap_and (first_line xs).ended (eqb x y) (same_bytes (first_line xs).content h))
    (decide (eqb x 10))

heading_done : (x : ℕ) (xs : List ℕ) → is_heading [] (x ∷ xs) ≡ eqb x 10
unfolding is_heading same_bytes
heading_done x xs =
    ⊎_elim
    (λ e. ap (λ (l : Line). l.ended and same_bytes l.content []) (line_end_lem x xs e) ∙ both ∙ sym e)
    (λ e. ap (λ (l : Line). l.ended and same_bytes l.content []) (line_byte x xs e) ∙ and_second_false (first_line xs).ended _ refl ∙ sym e)
    (decide (eqb x 10))
  where
    both : (true and true) ≡ true
    both = unfold ◌and◌ in refl

-- what follows the heading's line
heading_after : (h xs : List ℕ) → lacks 10 h ≡ true → is_heading h xs ≡ true → after_line xs ≡ drop (suc (length h)) xs
unfolding lacks
heading_after h [] l e = absurd (false≢true (sym (heading_nil h) ∙ e))
heading_after [] (x ∷ xs) l e = after_end x xs (sym (heading_done x xs) ∙ e)
heading_after (y ∷ h) (x ∷ xs) l e =
    let n : y ≡ 10 → ⊥ = λ p. true≢false (sym (eq-eqb y 10 p) ∙ false_of_not _ (and_left _ _ l)) in
    let q = sym (heading_byte y h x xs n) ∙ e in
    let other = ne_eqb x 10 (λ p. n (sym (eqb-true x y (and_left _ _ q)) ∙ p)) in
    after_byte x xs other ∙ heading_after h xs (and_right (not (eqb y 10)) _ l) (and_right (eqb x y) _ q)

-- ---- a text that starts with the heading's bytes

not_end : (y : ℕ) (h : List ℕ) → lacks 10 (y ∷ h) ≡ true → y ≡ 10 → ⊥
unfolding lacks
not_end y h l p = true≢false (sym (eq-eqb y 10 p) ∙ false_of_not _ (and_left _ _ l))

lacks_rest : (y : ℕ) (h : List ℕ) → lacks 10 (y ∷ h) ≡ true → lacks 10 h ≡ true
unfolding lacks
lacks_rest y h l = and_right (not (eqb y 10)) _ l

with_first : (a b : Bool) → a ≡ true → (a and b) ≡ b
unfolding ◌and◌
with_first a b e = ap (λ (t : Bool). t and b) e

-- the byte after them decides
heading_front : (h rest : List ℕ) → lacks 10 h ≡ true → is_heading h (h ++ rest) ≡ eqb (get_or rest 0 256) 10
heading_front [] [] l = heading_nil []
heading_front [] (x ∷ xs) l = heading_done x xs
heading_front (y ∷ h) rest l =
    heading_byte y h y (h ++ rest) (not_end y h l) ∙ with_first (eqb y y) _ (eq-eqb y y refl) ∙ heading_front h rest (lacks_rest y h l)

heading_starts : (h xs : List ℕ) → lacks 10 h ≡ true → is_heading h xs ≡ true → xs ≡ h ++ drop (length h) xs
heading_starts [] xs l e = refl
heading_starts (y ∷ h) [] l e = absurd (false≢true (sym (heading_nil (y ∷ h)) ∙ e))
heading_starts (y ∷ h) (x ∷ xs) l e =
    let q = sym (heading_byte y h x xs (not_end y h l)) ∙ e in
    ap₂ ◌∷◌ (eqb-true x y (and_left _ _ q)) (heading_starts h xs (lacks_rest y h l) (and_right (eqb x y) _ q))

-- what is left of a text starts with them, or does not
module _ (text : List ℕ) (at : ℕ) (h : List ℕ) (none : lacks 10 h ≡ true) where
  abbrev rest : List ℕ
  rest = take (length text - at) (drop at text)

  abbrev after : List ℕ
  after = drop (length h) (drop at text)

  all : rest ≡ drop at text
  all = take_all (length text - at) (drop at text) (omega (arith, length-drop at text))

  same : starts_with eqb rest h ≡ pointwise eqb h (take (length h) (drop at text))
  same = ap (λ (xs : List ℕ). starts_with eqb xs h) all

  pub started : starts_with eqb rest h ≡ true → is_heading h (drop at text) ≡ eqb (get_or text (at + length h) 256) 10
  started e =
      ap (is_heading h) ((starts_is Decides-eqb (drop at text) h _ same).0 e)
      ∙ heading_front h after none
      ∙ ap (λ (x : ℕ). eqb x 10) (next ∙ get_or-drop at text (length h) 256)
    where
      next : get_or after 0 256 ≡ get_or (drop at text) (length h) 256
      next = get_or-drop (length h) (drop at text) 0 256 ∙ ap (λ (i : ℕ). get_or (drop at text) i 256) (add-zero (length h))

  pub not_started : starts_with eqb rest h ≡ false → is_heading h (drop at text) ≡ false
  not_started e =
      ⊎_elim
      (λ p. absurd (true≢false (sym ((starts_is Decides-eqb (drop at text) h _ same).1 after (heading_starts h (drop at text) none p)) ∙ e)))
      (λ p. p)
      (decide (is_heading h (drop at text)))

module _ (text : List ℕ) (at : ℕ) (h : List ℕ) where
  pub after_yes : is_heading h (drop at text) ≡ true → at + length h + 1 ≡ after_heading h text at
  unfolding after_heading
  after_yes e = omega (arith, if_true (is_heading h (drop at text)) (at + suc (length h)) 0 e)

  pub after_no : is_heading h (drop at text) ≡ false → 0 ≡ after_heading h text at
  unfolding after_heading
  after_no e = sym (if_false (is_heading h (drop at text)) _ _ e)

-- ---- as the definitions have it

heading_of : (h : List ℕ) (k : ℕ) (xs : List ℕ) → heading_at h k (lines xs) ≡ require (is_heading h xs) Heading k (read (lines (after_line xs)))
unfolding heading_at require
heading_of h k [] = ap (heading_at h k) lines_nil ∙ ap (λ (t : Bool). require t Heading k (read (lines (after_line [])))) (sym (heading_nil h))
heading_of h k (x ∷ xs) = ap (heading_at h k) (lines_first x xs) ∙ unfold is_heading in refl

heading_within : (h xs : List ℕ) → lacks 10 h ≡ true → is_heading h xs ≡ true → suc (length h) ≤ length xs
unfolding lacks
heading_within h [] l e = absurd (false≢true (sym (heading_nil h) ∙ e))
heading_within [] (x ∷ xs) l e = omega arith
heading_within (y ∷ h) (x ∷ xs) l e =
    let n : y ≡ 10 → ⊥ = λ p. true≢false (sym (eq-eqb y 10 p) ∙ false_of_not _ (and_left _ _ l)) in
    omega (arith, heading_within h xs (and_right (not (eqb y 10)) _ l) (and_right (eqb x y) _ (sym (heading_byte y h x xs n) ∙ e)))

module _ (text : List ℕ) (at : ℕ) (h : List ℕ) (k : ℕ) where
  pub heading_stops : is_heading h (drop at text) ≡ false → heading_at h k (lines (drop at text)) ≡ stopped Heading k
  unfolding require
  heading_stops e = heading_of h k (drop at text) ∙ ap (λ (t : Bool). require t Heading k (read (lines (after_line (drop at text))))) e

  module _ (none : lacks 10 h ≡ true) (e : is_heading h (drop at text) ≡ true) where
    heading_passed : after_line (drop at text) ≡ drop (at + suc (length h)) text
    heading_passed = heading_after h (drop at text) none e ∙ drop-drop (suc (length h)) at text

    pub heading_reads : heading_at h k (lines (drop at text)) ≡ read (lines (drop (at + suc (length h)) text))
    unfolding require
    heading_reads =
        heading_of h k (drop at text)
        ∙ ap (λ (t : Bool). require t Heading k (read (lines (after_line (drop at text))))) e
        ∙ ap (λ (xs : List ℕ). read (lines xs)) heading_passed

    pub heading_inside : at + suc (length h) ≤ length text
    heading_inside = omega (arith, heading_within h (drop at text) none e, length-drop at text)

-- ---- no heading has a byte 10
