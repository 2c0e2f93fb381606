-- The lines of a text, found by their bytes 10.
use Prim.Native.Nat.{ℕ, zero, suc, ◌+◌, ◌-◌, ◌<◌, ◌≤◌}
use native.Mathlib.Omega.{arith}
use native.Mathlib.Numerals.{add-one}
use mathlib.Core.Path.{◌≡◌, refl, sym, ◌∙◌, ap, ap₂, subst}
use mathlib.Core.Logic.{⊎_elim}
use mathlib.Core.Bool.{Bool, true, false}
use mathlib.Core.List.{List, [], ◌∷◌}
use lib.Dec.{eqb}
use lib.ListN.{length, take, drop, get_or, length-drop, drop_of_length-le}
use lib.Seq.{drop-cons, drop-drop, length-take-le}
use borrow.Author.Tests.{eq-eqb, ne_eqb, eqb-true, eqb-false}
use Rattle.stab.specs.Text.{Line, newline, in_front, lines}
use Rattle.stab.specs.LineNumber.{Span, empty_start, spanned, span_from, line_span, line_of}
use Rattle.stab.proofs.Bools.{if_true, if_false, decide}
use denote.Ref.{Bor}
use Rattle.line.specs.LineParts.{line_length, named, PartOf}

-- ---- how far the first byte 10 is

pub line_here : (x : ℕ) (xs : List ℕ) → x ≡ 10 → line_length (x ∷ xs) ≡ 0
unfolding line_length newline
line_here x xs e = if_true (eqb x 10) 0 (suc (line_length xs)) (eq-eqb x 10 e)

pub line_more : (x : ℕ) (xs : List ℕ) → (x ≡ 10 → ⊥) → line_length (x ∷ xs) ≡ suc (line_length xs)
unfolding line_length newline
line_more x xs e = if_false (eqb x 10) 0 (suc (line_length xs)) (ne_eqb x 10 e)

pub line_most : (l : List ℕ) → line_length l ≤ length l
line_most [] = unfold line_length in omega arith
line_most (x ∷ xs) =
    ⊎_elim
    (λ e. omega (arith, line_here x xs (eqb-true x 10 e)))
    (λ e. omega (arith, line_more x xs (eqb-false x 10 e), line_most xs))
    (decide (eqb x 10))

module _ (text : List ℕ) (i : ℕ) (h : i < length text) where
  pub here_at : get_or text i 0 ≡ 10 → line_length (drop i text) ≡ 0
  here_at e = ap line_length (drop-cons text i 0 h) ∙ line_here (get_or text i 0) (drop (suc i) text) e

  pub more_at : (get_or text i 0 ≡ 10 → ⊥) → line_length (drop i text) ≡ suc (line_length (drop (i + 1) text))
  more_at e =
      ap line_length (drop-cons text i 0 h)
      ∙ line_more (get_or text i 0) (drop (suc i) text) e
      ∙ ap (λ (n : ℕ). suc (line_length (drop n text))) (sym (add-one i))

pub none_at : (text : List ℕ) (i : ℕ) → length text ≤ i → line_length (drop i text) ≡ 0
none_at text i h = ap line_length (drop_of_length-le text h) ∙ (unfold line_length in refl)

-- ---- a first line that has its byte 10, and one that has none

ended : List ℕ → ℕ → List Line
ended l n = record { content = take n l; ended = true } ∷ lines (drop (suc n) l)

lines_ended : (l : List ℕ) → line_length l < length l → lines l ≡ ended l (line_length l)
unfolding lines newline in_front ended
lines_ended [] h = absurd (omega arith)
lines_ended (x ∷ xs) h =
    ⊎_elim
    (λ e.
    if_true (eqb x 10) _ _ e ∙ ap (ended (x ∷ xs)) (sym (line_here x xs (eqb-true x 10 e))))
    (λ e.
    let more = line_more x xs (eqb-false x 10 e) in
    if_false (eqb x 10) _ _ e
    ∙ ap (in_front x) (lines_ended xs (omega arith))
    ∙ ap (ended (x ∷ xs)) (sym more))
    (decide (eqb x 10))

-- the bytes before the end are not byte 10
not_here : (x : ℕ) (xs : List ℕ) → suc (length xs) ≤ line_length (x ∷ xs) → eqb x 10 ≡ false
not_here x xs h =
    ⊎_elim
    (λ e. absurd (omega (arith, line_here x xs (eqb-true x 10 e))))
    (λ e. e)
    (decide (eqb x 10))

lines_open : (x : ℕ) (xs : List ℕ) → suc (length xs) ≤ line_length (x ∷ xs) → lines (x ∷ xs) ≡ record { content = x ∷ xs; ended = false } ∷ []
unfolding lines newline in_front
lines_open x [] h = if_false (eqb x 10) _ _ (not_here x [] h)
lines_open x (y ∷ ys) h =
    if_false (eqb x 10) _ _ (not_here x (y ∷ ys) h)
    ∙ ap (in_front x) (lines_open y ys (omega (arith, line_more x (y ∷ ys) (eqb-false x 10 (not_here x (y ∷ ys) h)))))

open_span : (at k : ℕ) (l : List ℕ) → span_from at (suc k) (record { content = l; ended = false } ∷ []) ≡ empty_start
unfolding span_from
open_span at zero l = refl
open_span at (suc k) l = refl

-- ---- spans

module _ (l : List ℕ) (h : line_length l < length l) where
  pub span_first : (at : ℕ) → span_from at 1 (lines l) ≡ record { start = at; len = line_length l }
  unfolding ended span_from
  span_first at =
      ap (span_from at 1) (lines_ended l h)
      ∙ ap (λ (n : ℕ). record { start = at; len = n }) (length-take-le (line_length l) l (omega arith))

  pub span_next : (at k : ℕ) → span_from at (suc (suc k)) (lines l) ≡ span_from (at + line_length l + 1) (suc k) (lines (drop (suc (line_length l)) l))
  unfolding ended span_from
  span_next at k =
      ap (span_from at (suc (suc k))) (lines_ended l h)
      ∙ ap (λ (n : ℕ). span_from (at + n + 1) (suc k) (lines (drop (suc (line_length l)) l))) (length-take-le (line_length l) l (omega arith))

-- no line is finished
pub span_none : (at k : ℕ) (l : List ℕ) → length l ≤ line_length l → span_from at (suc k) (lines l) ≡ empty_start
span_none at k [] h = unfold lines span_from in refl
span_none at k (x ∷ xs) h = ap (span_from at (suc k)) (lines_open x xs h) ∙ open_span at k (x ∷ xs)

pub span_zero : (at : ℕ) (ls : List Line) → span_from at 0 ls ≡ empty_start
unfolding span_from
span_zero at [] = refl
span_zero at (l ∷ ls) = refl

-- ---- from line to line of a text

module _ (text : List ℕ) (at n : ℕ) (e : n ≡ at + line_length (drop at text)) where
  -- the first byte 10 from `at` on stands at n
  first_within : n < length text → line_length (drop at text) < length (drop at text)
  first_within h = omega (arith, length-drop at text)

  none_within : length text ≤ n → length (drop at text) ≤ line_length (drop at text)
  none_within h = omega (arith, length-drop at text)

  pub end_within : at ≤ length text → n ≤ length text
  end_within h = omega (arith, line_most (drop at text), length-drop at text)

  rest_is : drop (suc (line_length (drop at text))) (drop at text) ≡ drop (n + 1) text
  rest_is = drop-drop (suc (line_length (drop at text))) at text ∙ ap (λ (i : ℕ). drop i text) sum
    where
      sum : at + suc (line_length (drop at text)) ≡ n + 1
      sum = omega arith

  -- one line fewer is left from the line after it
  pub next_line_lem : (k m : ℕ) → n < length text → 1 ≤ m → k ≡ suc m → span_from (n + 1) m (lines (drop (n + 1) text)) ≡ span_from at k (lines (drop at text))
  next_line_lem k zero h l p = absurd (omega arith)
  next_line_lem k (suc m) h l p =
      sym
      (ap (λ (i : ℕ). span_from at i (lines (drop at text))) p
      ∙ span_next (drop at text) (first_within h) at m
      ∙ ap₂ (λ (i : ℕ) (r : List ℕ). span_from (i + 1) (suc m) (lines r)) (sym e) rest_is)

  pub no_line : (k : ℕ) → length text ≤ n → 1 ≤ k → span_from at k (lines (drop at text)) ≡ empty_start
  no_line zero h l = absurd (omega arith)
  no_line (suc k) h l = span_none at k (drop at text) (none_within h)

  pub this_line : n < length text → span_from at 1 (lines (drop at text)) ≡ record { start = at; len = n - at }
  this_line h =
      span_first (drop at text) (first_within h) at ∙ ap (λ (m : ℕ). record { start = at; len = m }) size
    where
      size : line_length (drop at text) ≡ n - at
      size = omega arith

pub past_end : (text : List ℕ) (n : ℕ) → length text ≤ n → span_from n 1 (lines (drop n text)) ≡ empty_start
past_end text n h = span_none n 0 (drop n text) (omega (arith, length-drop n text))

-- ---- parts

-- a span, told by its start and its length
pub is_span : (s : Span) (start len : ℕ) → s ≡ record { start = start; len = len } → (start ≡ s.start) × (len ≡ s.len)
is_span s start len e = (ap (λ (x : Span). x.start) (sym e), ap (λ (x : Span). x.len) (sym e))

-- the part from a place on that is as long as the span
pub part_is : (text part : Bor (List ℕ)) (s : Span) (at n : ℕ) → at ≡ s.start → n ≡ s.len
    → part.now ≡ take n (drop at text.now) → part.ref_ptr.0 ≡ text.ref_ptr.0 → part.ref_ptr.1 ≡ at + text.ref_ptr.1 → PartOf text part s
unfolding spanned
part_is text part s at n e f a b c =
    record {
      bytes = a ∙ ap₂ (λ (i j : ℕ). take i (drop j text.now)) f e;
      block = b;
      place = c ∙ ap (λ (i : ℕ). i + text.ref_ptr.1) e;
    }

pub line_zero : (text : List ℕ) (k : ℕ) → k ≡ 0 → line_span text k ≡ empty_start
unfolding line_span
line_zero text k e = ap (λ (n : ℕ). span_from 0 n (lines text)) e ∙ span_zero 0 (lines text)

-- a line of the named text, where it is known which is named
pub handed : (v b : Bool) (schema proof r : Bor (List ℕ)) (k : ℕ) → v ≡ b → PartOf (named b schema proof) r (line_span (named b schema proof).now k)
    → (r.now ≡ line_of (named v schema proof).now k) × PartOf (named v schema proof) r (line_span (named v schema proof).now k)
unfolding line_of
handed v b schema proof r k e p =
    subst (λ (u : Bool). (r.now ≡ line_of (named u schema proof).now k) × PartOf (named u schema proof) r (line_span (named u schema proof).now k)) (sym e)
    (p.bytes, p)
