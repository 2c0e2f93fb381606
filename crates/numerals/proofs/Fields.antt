-- The first field of a text, and the natural number that it is, by the run of digits that it starts with.
use Rattle.std.specs.Prelude.{if◌then◌else◌}
use Prim.Native.Nat.{ℕ, zero, suc, ◌+◌, ◌*◌, ◌-◌, ◌≤◌}
use native.Mathlib.Omega.{arith}
use native.Mathlib.Nat.{add-zero}
use mathlib.Core.Path.{◌≡◌, refl, sym, ◌∙◌, ap, ap₂, subst}
use mathlib.Core.Logic.{◌⊎◌, inl, inr, ⊎_elim}
use mathlib.Core.Bool.{Bool, true, false, not, true≢false, false≢true}
use mathlib.Core.List.{List, [], ◌∷◌}
use mathlib.Core.Option.{Option, none, some}
use lib.Dec.{leb, eqb, leb-suc-zero, leb-suc-suc}
use lib.IntN.{ℤ, pos, negsuc, neg_ℤ}
use lib.ListN.{length, get_or, drop}
use lib.Seq.{get_or-drop}
use borrow.Author.Tests.{leb-true, le-leb, eqb-true, eq-eqb, ne_eqb}
use Rattle.stab.specs.Basic.{◌and◌, ◌or◌, all_of}
use Rattle.stab.specs.Text.{newline, space, minus, zero_digit, same_bytes, is_digit, digits_value, is_natural, some_if, number_of}
use Rattle.stab.proofs.Bools.{and_left, and_right, and_both, and_first_false, and_second_false, or_cases, or_left, or_right, or_false, if_true, if_false, decide, not_of_false}
use Rattle.stab.proofs.Texts.Numbers.{digit_low, natural_positive, same_bytes_true}
use Rattle.numerals.specs.Here.{ends_field, field, field_end, past_field, number_here, natural_of, natural_here, run_length, run_value}
use Rattle.numerals.specs.Numerals.{no_numeral, closed_by, numeral_as, natural_at}
use Rattle.numerals.specs.declared.Numeral.{Numeral}
use Rattle.numerals.proofs.Runs.{value_digit, length_digit, value_other, length_other, is_digit_lem, drop_byte, at_place}

-- ---- the end of a field

pub ends_space : (b : ℕ) → b ≡ 32 → ends_field b ≡ true
unfolding ends_field space
ends_space b e = or_left _ _ (eq-eqb b 32 e)

pub ends_line : (b : ℕ) → b ≡ 10 → ends_field b ≡ true
unfolding ends_field newline
ends_line b e = or_right _ _ (eq-eqb b 10 e)

pub ends_neither : (b : ℕ) → (b ≡ 32 → ⊥) → (b ≡ 10 → ⊥) → ends_field b ≡ false
unfolding ends_field newline space
ends_neither b p q = or_false _ _ (ne_eqb b 32 p) (ne_eqb b 10 q)

pub ends_cases : (b : ℕ) → ends_field b ≡ true → (b ≡ 32) ⊎ (b ≡ 10)
unfolding ends_field newline space
ends_cases b h = ⊎_elim (λ e. inl (eqb-true b 32 e)) (λ e. inr (eqb-true b 10 e)) (or_cases _ _ h)

pub digit_stays : (x : ℕ) → is_digit x ≡ true → ends_field x ≡ false
digit_stays x h = ends_neither x (λ e. omega (arith, digit_low x h)) (λ e. omega (arith, digit_low x h))

module _ (x : ℕ) (xs : List ℕ) where
  pub field_none : ends_field x ≡ true → field (x ∷ xs) ≡ []
  unfolding field
  field_none h = if_true (ends_field x) _ _ h

  pub field_more : ends_field x ≡ false → field (x ∷ xs) ≡ x ∷ field xs
  unfolding field
  field_more h = if_false (ends_field x) _ _ h

  pub end_here : ends_field x ≡ true → field_end (x ∷ xs) ≡ x
  unfolding field_end
  end_here h = if_true (ends_field x) _ _ h

  pub end_later : ends_field x ≡ false → field_end (x ∷ xs) ≡ field_end xs
  unfolding field_end
  end_later h = if_false (ends_field x) _ _ h

-- ---- the digits of a field

-- a field of up to n digits
pub record Closed (n v : ℕ) (xs : List ℕ) : Type 0 where
  pub digits : all_of is_digit (field xs) ≡ true
  pub few : leb (length (field xs)) n ≡ true
  pub value : digits_value v (field xs) ≡ run_value n v xs
  pub long : length (field xs) ≡ run_length n xs
  pub last : field_end xs ≡ get_or (drop (run_length n xs) xs) 0 256

closed_none : (n v x : ℕ) (xs : List ℕ) → run_length n (x ∷ xs) ≡ 0 → run_value n v (x ∷ xs) ≡ v → ends_field x ≡ true → Closed n v (x ∷ xs)
unfolding all_of digits_value
closed_none n v x xs p q h =
    let f = field_none x xs h in
    record {
      digits = ap (all_of is_digit) f;
      few = ap (λ (g : List ℕ). leb (length g) n) f ∙ le-leb 0 n (omega arith);
      value = ap (digits_value v) f ∙ sym q;
      long = ap length f ∙ sym p;
      last = end_here x xs h ∙ ap (λ (k : ℕ). get_or (drop k (x ∷ xs)) 0 256) (sym p);
    }

closed_more : (n v x : ℕ) (xs : List ℕ) → is_digit x ≡ true → Closed n (10 * v + (x - 48)) xs → Closed (suc n) v (x ∷ xs)
unfolding all_of digits_value zero_digit
closed_more n v x xs h c =
    let s = digit_stays x h in
    let f = field_more x xs s in
    record {
      digits = ap (all_of is_digit) f ∙ and_both _ _ h c.digits;
      few = ap (λ (g : List ℕ). leb (length g) (suc n)) f ∙ le-leb _ (suc n) (omega (arith, leb-true _ n c.few));
      value = ap (digits_value v) f ∙ c.value ∙ sym (value_digit n v x xs h);
      long = ap length f ∙ ap suc c.long ∙ sym (length_digit n x xs h);
      last = end_later x xs s ∙ c.last ∙ ap (λ (k : ℕ). get_or (drop k (x ∷ xs)) 0 256) (sym (length_digit n x xs h));
    }

-- the run of digits ends where the field does
pub closes : (n v : ℕ) (xs : List ℕ) → ends_field (get_or (drop (run_length n xs) xs) 0 256) ≡ true → Closed n v xs
unfolding run_length run_value
closes zero v [] h = absurd (false≢true (unfold ends_field ◌or◌ space newline in h))
closes zero v (x ∷ xs) h = closed_none zero v x xs refl refl h
closes (suc n) v [] h = absurd (false≢true (unfold ends_field ◌or◌ space newline in h))
closes (suc n) v (x ∷ xs) h =
    ⊎_elim
    (λ d. closed_more n v x xs d (closes n (10 * v + (x - 48)) xs (subst (λ (k : ℕ). ends_field (get_or (drop k (x ∷ xs)) 0 256) ≡ true) (length_digit n x xs d) h)))
    (λ d. closed_none (suc n) v x xs (length_other (suc n) x xs d) (value_other (suc n) v x xs d)
    (subst (λ (k : ℕ). ends_field (get_or (drop k (x ∷ xs)) 0 256) ≡ true) (length_other (suc n) x xs d) h))
    (decide (is_digit x))

-- up to n digits and nothing else
unfoldable pub tidy : ℕ → List ℕ → Bool
tidy n f = leb (length f) n and all_of is_digit f

tidy_long : (x : ℕ) (f : List ℕ) → tidy 0 (x ∷ f) ≡ false
unfolding tidy
tidy_long x f = and_first_false _ _ (leb-suc-zero (length f))

tidy_other : (n x : ℕ) (f : List ℕ) → is_digit x ≡ false → tidy n (x ∷ f) ≡ false
unfolding tidy all_of
tidy_other n x f h = and_second_false (leb (suc (length f)) n) _ (and_first_false _ _ h)

tidy_more : (n x : ℕ) (f : List ℕ) → is_digit x ≡ true → tidy (suc n) (x ∷ f) ≡ tidy n f
unfolding tidy all_of ◌and◌
tidy_more n x f h = ap₂ (λ (a b : Bool). a and (b and all_of is_digit f)) (leb-suc-suc (length f) n) h

natural_tidy : (x : ℕ) (f : List ℕ) → is_natural (x ∷ f) ≡ true → tidy 4 f ≡ true
unfolding tidy is_natural
natural_tidy x f h =
    let p = and_right (not (eqb x zero_digit)) _ h in
    and_both _ _ (and_left _ _ p) (and_right (is_digit x) _ (and_right (leb (length f) 4) _ p))

-- or the field has no end, or is not tidy
pub runs_on : (n : ℕ) (xs : List ℕ) → ends_field (get_or (drop (run_length n xs) xs) 0 256) ≡ false → (field_end xs ≡ 0) ⊎ (tidy n (field xs) ≡ false)
unfolding run_length field_end
runs_on zero [] h = inl refl
runs_on zero (x ∷ xs) h = inr (ap (tidy 0) (field_more x xs h) ∙ tidy_long x (field xs))
runs_on (suc n) [] h = inl refl
runs_on (suc n) (x ∷ xs) h =
    ⊎_elim
    (λ d. more d (runs_on n xs (subst (λ (k : ℕ). ends_field (get_or (drop k (x ∷ xs)) 0 256) ≡ false) (length_digit n x xs d) h)))
    (λ d. let s = subst (λ (k : ℕ). ends_field (get_or (drop k (x ∷ xs)) 0 256) ≡ false) (length_other (suc n) x xs d) h in
    inr (ap (tidy (suc n)) (field_more x xs s) ∙ tidy_other (suc n) x (field xs) d))
    (decide (is_digit x))
  where
    more : is_digit x ≡ true → (field_end xs ≡ 0) ⊎ (tidy n (field xs) ≡ false) → (field_end (x ∷ xs) ≡ 0) ⊎ (tidy (suc n) (field (x ∷ xs)) ≡ false)
    more d (inl e) = inl (end_later x xs (digit_stays x d) ∙ e)
    more d (inr e) = inr (ap (tidy (suc n)) (field_more x xs (digit_stays x d)) ∙ tidy_more n x (field xs) d ∙ e)

-- ---- the natural number that a field is

natural_open : (xs : List ℕ) → field_end xs ≡ 0 → natural_here xs ≡ none
unfolding natural_here
natural_open xs h = if_true (eqb (field_end xs) 0) _ _ (eq-eqb _ 0 h)

natural_not : (xs : List ℕ) → natural_of (field xs) ≡ none → natural_here xs ≡ none
unfolding natural_here
natural_not xs h =
    ⊎_elim
    (λ e. if_true (eqb (field_end xs) 0) none (natural_of (field xs)) e)
    (λ e. if_false (eqb (field_end xs) 0) none (natural_of (field xs)) e ∙ h)
    (decide (eqb (field_end xs) 0))

pub ends_nonzero : (b : ℕ) → ends_field b ≡ true → b ≡ 0 → ⊥
ends_nonzero b h e = ⊎_elim (λ p. omega arith) (λ p. omega arith) (ends_cases b h)

natural_closed : (xs : List ℕ) → ends_field (field_end xs) ≡ true → natural_here xs ≡ natural_of (field xs)
unfolding natural_here
natural_closed xs h = if_false (eqb (field_end xs) 0) _ _ (ne_eqb _ 0 (ends_nonzero _ h))

not_zero : (x : ℕ) (f : List ℕ) → (x ≡ 48 → ⊥) → same_bytes (x ∷ f) (48 ∷ []) ≡ false
unfolding same_bytes
not_zero x f h = and_first_false _ _ (ne_eqb x 48 h)

natural_if : (f : List ℕ) → same_bytes f (48 ∷ []) ≡ false → is_natural f ≡ true → natural_of f ≡ some (digits_value 0 f)
unfolding natural_of some_if
natural_if f p h = if_false (same_bytes f (48 ∷ [])) _ _ p ∙ ap (λ (b : Bool). some_if b (digits_value 0 f)) h

natural_unless : (f : List ℕ) → same_bytes f (48 ∷ []) ≡ false → is_natural f ≡ false → natural_of f ≡ none
unfolding natural_of some_if
natural_unless f p h = if_false (same_bytes f (48 ∷ [])) _ _ p ∙ ap (λ (b : Bool). some_if b (digits_value 0 f)) h

-- no digit in front
pub natural_other : (x : ℕ) (xs : List ℕ) → is_digit x ≡ false → natural_here (x ∷ xs) ≡ none
natural_other x xs h =
    natural_not (x ∷ xs)
    (⊎_elim
    (λ e. ap natural_of (field_none x xs e) ∙ nothing)
    (λ e. ap natural_of (field_more x xs e) ∙ natural_unless (x ∷ field xs) (not_zero x (field xs) differs) (unnatural (field xs)))
    (decide (ends_field x)))
  where
    nothing : natural_of [] ≡ none
    nothing = natural_unless [] (unfold same_bytes in refl) (unfold is_natural in refl)

    differs : x ≡ 48 → ⊥
    differs e = true≢false (sym (is_digit_lem x (omega arith) (omega arith)) ∙ h)

    unnatural : (f : List ℕ) → is_natural (x ∷ f) ≡ false
    unnatural f =
        unfold is_natural in
        and_second_false (not (eqb x zero_digit)) _ (and_second_false (leb (length f) 4) _ (and_first_false _ _ h))

numeral_none : (xs : List ℕ) (e b : ℕ) → natural_here xs ≡ none → numeral_as (natural_here xs) e b ≡ no_numeral
unfolding numeral_as
numeral_none xs e b h = ap (λ (o : Option ℕ). numeral_as o e b) h

closed_not : (v e b : ℕ) → ends_field b ≡ false → closed_by v e b ≡ no_numeral
unfolding closed_by
closed_not v e b h = if_false (ends_field b) _ _ h

numeral_is : (o : Option ℕ) (v e e' b b' : ℕ) → o ≡ some v → e ≡ e' + 1 → b ≡ b' → ends_field b' ≡ true → numeral_as o e b ≡ closed_by v e' b'
unfolding numeral_as closed_by
numeral_is o v e e' b b' p q r h =
    ap (λ (u : Option ℕ). numeral_as u e b) p
    ∙ ap₂ (λ (m n : ℕ). numeral_as (some v) m n) q r
    ∙ sym (if_true (ends_field b') _ _ h)

past_field_lem : (xs f : List ℕ) → field xs ≡ f → past_field xs ≡ suc (length f)
unfolding past_field
past_field_lem xs f h = ap (λ (g : List ℕ). suc (length g)) h

zero_stays : ends_field 48 ≡ false
zero_stays = ends_neither 48 (λ e. omega arith) (λ e. omega arith)

-- 0 in front
pub natural_zero : (at : ℕ) (xs : List ℕ)
    → numeral_as (natural_here (48 ∷ xs)) (at + past_field (48 ∷ xs)) (field_end (48 ∷ xs)) ≡ closed_by 0 (at + 1) (get_or xs 0 256)
natural_zero at [] =
    numeral_none (48 ∷ []) _ _ (natural_open (48 ∷ []) (end_later 48 [] zero_stays ∙ unfold field_end in refl))
    ∙ sym (closed_not 0 (at + 1) 256 (ends_neither 256 (λ e. omega arith) (λ e. omega arith)))
natural_zero at (x ∷ xs) = ⊎_elim alone longer (decide (ends_field x))
  where
    f : field (48 ∷ (x ∷ xs)) ≡ 48 ∷ field (x ∷ xs)
    f = field_more 48 (x ∷ xs) zero_stays

    e : field_end (48 ∷ (x ∷ xs)) ≡ field_end (x ∷ xs)
    e = end_later 48 (x ∷ xs) zero_stays

    alone : ends_field x ≡ true → numeral_as (natural_here (48 ∷ (x ∷ xs))) (at + past_field (48 ∷ (x ∷ xs))) (field_end (48 ∷ (x ∷ xs))) ≡ closed_by 0 (at + 1) x
    alone h =
        let g = f ∙ ap (λ (l : List ℕ). 48 ∷ l) (field_none x xs h) in
        let l = e ∙ end_here x xs h in
        numeral_is _ 0 _ (at + 1) _ x
        (natural_closed (48 ∷ (x ∷ xs)) (ap ends_field l ∙ h) ∙ ap natural_of g ∙ unfold natural_of same_bytes ◌and◌ in refl)
        (omega (arith, past_field_lem (48 ∷ (x ∷ xs)) _ g))
        l
        h

    longer : ends_field x ≡ false → numeral_as (natural_here (48 ∷ (x ∷ xs))) (at + past_field (48 ∷ (x ∷ xs))) (field_end (48 ∷ (x ∷ xs))) ≡ closed_by 0 (at + 1) x
    longer h =
        numeral_none (48 ∷ (x ∷ xs)) _ _
        (natural_not (48 ∷ (x ∷ xs))
        (ap natural_of (f ∙ ap (λ (l : List ℕ). 48 ∷ l) (field_more x xs h))
        ∙ natural_unless (48 ∷ (x ∷ field xs)) (unfold same_bytes ◌and◌ in refl) (unfold is_natural zero_digit ◌and◌ in refl)))
        ∙ sym (closed_not 0 (at + 1) x h)

-- another digit in front
pub natural_digits : (at x : ℕ) (xs : List ℕ) → 49 ≤ x → x ≤ 57
    → numeral_as (natural_here (x ∷ xs)) (at + past_field (x ∷ xs)) (field_end (x ∷ xs))
    ≡ closed_by (run_value 4 (x - 48) xs) (at + 1 + run_length 4 xs) (get_or (drop (run_length 4 xs) xs) 0 256)
natural_digits at x xs low high = ⊎_elim whole broken (decide (ends_field b))
  where
    b : ℕ
    b = get_or (drop (run_length 4 xs) xs) 0 256

    d : is_digit x ≡ true
    d = is_digit_lem x (omega arith) high

    f : field (x ∷ xs) ≡ x ∷ field xs
    f = field_more x xs (digit_stays x d)

    e : field_end (x ∷ xs) ≡ field_end xs
    e = end_later x xs (digit_stays x d)

    other : x ≡ 48 → ⊥
    other q = omega arith

    whole : ends_field b ≡ true → numeral_as (natural_here (x ∷ xs)) (at + past_field (x ∷ xs)) (field_end (x ∷ xs)) ≡ closed_by (run_value 4 (x - 48) xs) (at + 1 + run_length 4 xs) b
    whole h =
        let c = closes 4 (x - 48) xs h in
        let l = e ∙ c.last in
        let n : is_natural (x ∷ field xs) ≡ true =
        unfold is_natural zero_digit in and_both _ _ (not_of_false _ (ne_eqb x 48 other)) (and_both _ _ c.few (and_both _ _ d c.digits)) in
        numeral_is _ (run_value 4 (x - 48) xs) _ (at + 1 + run_length 4 xs) _ b
        (natural_closed (x ∷ xs) (ap ends_field l ∙ h)
        ∙ ap natural_of f
        ∙ natural_if (x ∷ field xs) (not_zero x (field xs) other) n
        ∙ ap some (first ∙ c.value))
        (omega (arith, past_field_lem (x ∷ xs) _ f, c.long))
        l
        h
      where
        first : digits_value 0 (x ∷ field xs) ≡ digits_value (x - 48) (field xs)
        first = unfold digits_value zero_digit in ap (λ (v : ℕ). digits_value v (field xs)) (omega arith)

    broken : ends_field b ≡ false → numeral_as (natural_here (x ∷ xs)) (at + past_field (x ∷ xs)) (field_end (x ∷ xs)) ≡ closed_by (run_value 4 (x - 48) xs) (at + 1 + run_length 4 xs) b
    broken h =
        numeral_none (x ∷ xs) _ _
        (⊎_elim
        (λ q. natural_open (x ∷ xs) (e ∙ q))
        (λ q. natural_not (x ∷ xs) (ap natural_of f ∙ natural_unless (x ∷ field xs) (not_zero x (field xs) other) (unnatural q)))
        (runs_on 4 xs h))
        ∙ sym (closed_not _ _ b h)
      where
        unnatural : tidy 4 (field xs) ≡ false → is_natural (x ∷ field xs) ≡ false
        unnatural q =
            ⊎_elim
            (λ n. absurd (true≢false (sym (natural_tidy x (field xs) n) ∙ q)))
            (λ n. n)
            (decide (is_natural (x ∷ field xs)))

-- ---- the number that a field is

-- minus a natural number; 0 has no minus
unfoldable pub less_of : Option ℕ → Option ℤ
less_of none = none
less_of (some zero) = none
less_of (some (suc n)) = some (negsuc n)

unfoldable pub plain_of : Option ℕ → Option ℤ
plain_of none = none
plain_of (some n) = some (pos n)

less_positive : (n : ℕ) → 1 ≤ n → some (neg_ℤ (pos n)) ≡ less_of (some n)
unfolding less_of
less_positive zero h = absurd (omega arith)
less_positive (suc n) h = refl

less_digits : (f : List ℕ) (t : Bool) → is_natural f ≡ t → some_if t (neg_ℤ (pos (digits_value 0 f))) ≡ less_of (some_if t (digits_value 0 f))
unfolding some_if less_of
less_digits f true h = less_positive (digits_value 0 f) (natural_positive f h)
less_digits f false h = refl

number_less : (f : List ℕ) → number_of (45 ∷ f) ≡ less_of (natural_of f)
unfolding number_of minus same_bytes zero_digit ◌and◌ natural_of
number_less f = go (same_bytes f (48 ∷ [])) refl
  where
    go : (t : Bool) → same_bytes f (48 ∷ []) ≡ t
        → some_if (is_natural f) (neg_ℤ (pos (digits_value 0 f))) ≡ less_of (if t then some 0 else some_if (is_natural f) (digits_value 0 f))
    go true e = ap (λ (g : List ℕ). some_if (is_natural g) (neg_ℤ (pos (digits_value 0 g)))) (same_bytes_true f (48 ∷ []) e) ∙ unfold is_natural not zero_digit some_if less_of in refl
    go false e = less_digits f (is_natural f) refl

plain_if : (t : Bool) (n : ℕ) → some_if t (pos n) ≡ plain_of (some_if t n)
unfolding some_if plain_of
plain_if true n = refl
plain_if false n = refl

number_plain : (x : ℕ) (f : List ℕ) → (x ≡ 45 → ⊥) → number_of (x ∷ f) ≡ plain_of (natural_of (x ∷ f))
unfolding number_of minus natural_of zero_digit
number_plain x f h = go (same_bytes (x ∷ f) (48 ∷ []))
  where
    go : (t : Bool)
        → (if t then some (pos 0) else if eqb x 45 then some_if (is_natural f) (neg_ℤ (pos (digits_value 0 f))) else some_if (is_natural (x ∷ f)) (pos (digits_value 0 (x ∷ f))))
        ≡ plain_of (if t then some 0 else some_if (is_natural (x ∷ f)) (digits_value 0 (x ∷ f)))
    go true = unfold plain_of in refl
    go false = if_false (eqb x 45) _ _ (ne_eqb x 45 h) ∙ plain_if (is_natural (x ∷ f)) (digits_value 0 (x ∷ f))

number_empty : number_of [] ≡ plain_of (natural_of [])
unfolding number_of natural_of same_bytes is_natural some_if plain_of
number_empty = refl

-- a minus in front
pub here_less : (xs : List ℕ) → number_here (45 ∷ xs) ≡ less_of (natural_here xs)
unfolding number_here natural_here
here_less xs =
    ap₂ (λ (e : ℕ) (f : List ℕ). if eqb e 0 then none else number_of f) (end_later 45 xs stays) (field_more 45 xs stays)
    ∙ go (eqb (field_end xs) 0)
  where
    stays : ends_field 45 ≡ false
    stays = ends_neither 45 (λ e. omega arith) (λ e. omega arith)

    go : (t : Bool) → (if t then none else number_of (45 ∷ field xs)) ≡ less_of (if t then none else natural_of (field xs))
    go true = unfold less_of in refl
    go false = number_less (field xs)

field_plain : (xs : List ℕ) → (get_or xs 0 256 ≡ 45 → ⊥) → number_of (field xs) ≡ plain_of (natural_of (field xs))
field_plain [] h = unfold field in number_empty
field_plain (x ∷ xs) h =
    ⊎_elim
    (λ e. let f = field_none x xs e in ap number_of f ∙ number_empty ∙ ap (λ (g : List ℕ). plain_of (natural_of g)) (sym f))
    (λ e. let f = field_more x xs e in ap number_of f ∙ number_plain x (field xs) h ∙ ap (λ (g : List ℕ). plain_of (natural_of g)) (sym f))
    (decide (ends_field x))

-- anything else in front
pub here_plain : (xs : List ℕ) → (get_or xs 0 256 ≡ 45 → ⊥) → number_here xs ≡ plain_of (natural_here xs)
unfolding number_here natural_here
here_plain xs h = go (eqb (field_end xs) 0)
  where
    go : (t : Bool) → (if t then none else number_of (field xs)) ≡ plain_of (if t then none else natural_of (field xs))
    go true = unfold plain_of in refl
    go false = field_plain xs h

-- ---- at a place of a text

pub byte_of_drop : (text : List ℕ) (i : ℕ) → get_or (drop i text) 0 256 ≡ get_or text i 256
byte_of_drop text i = get_or-drop i text 0 256 ∙ ap (λ (j : ℕ). get_or text j 256) (add-zero i)

pub closed_is : (v e b b' : ℕ) → b ≡ b' → ends_field b ≡ true → ◌≡◌ {A = Numeral} (record { value = v; next = e + 1; end = b }) (closed_by v e b')
unfolding closed_by
closed_is v e b b' p h = sym (if_true (ends_field b) _ _ h) ∙ ap (closed_by v e) p

pub closed_is_none : (v e b b' : ℕ) → b ≡ b' → ends_field b ≡ false → ◌≡◌ {A = Numeral} (record { value = 0; next = 0; end = 0 }) (closed_by v e b')
unfolding no_numeral
closed_is_none v e b b' p h = sym (closed_not v e b h) ∙ ap (closed_by v e) p

module _ (text : List ℕ) (at : ℕ) where
  numeral_at : (xs : List ℕ) → drop at text ≡ xs → natural_at text at ≡ numeral_as (natural_here xs) (at + past_field xs) (field_end xs)
  unfolding natural_at
  numeral_at xs h = ap (λ (ys : List ℕ). numeral_as (natural_here ys) (at + past_field ys) (field_end ys)) h

  pub at_zero : get_or text at 256 ≡ 48 → natural_at text at ≡ closed_by 0 (at + 1) (get_or text (at + 1) 256)
  at_zero h =
      numeral_at (48 ∷ drop (at + 1) text) (drop_byte text at (omega arith) ∙ ap (λ (x : ℕ). x ∷ drop (at + 1) text) h)
      ∙ natural_zero at (drop (at + 1) text)
      ∙ ap (closed_by 0 (at + 1)) (byte_of_drop text (at + 1))

  pub at_other : is_digit (get_or text at 256) ≡ false → natural_at text at ≡ no_numeral
  at_other h =
      ⊎_elim
      (λ p. numeral_at [] p.0 ∙ numeral_none [] _ _ (natural_open [] (unfold field_end in refl)))
      (λ p. numeral_at _ p ∙ numeral_none _ _ _ (natural_other (get_or text at 256) (drop (at + 1) text) h))
      (at_place text at)

  at_digits : 49 ≤ get_or text at 256 → get_or text at 256 ≤ 57
      → natural_at text at
      ≡ closed_by (run_value 4 (get_or text at 256 - 48) (drop (at + 1) text)) (at + 1 + run_length 4 (drop (at + 1) text)) (get_or text (at + 1 + run_length 4 (drop (at + 1) text)) 256)
  at_digits low high =
      let ys = drop (at + 1) text in
      numeral_at _ (drop_byte text at (omega arith))
      ∙ natural_digits at (get_or text at 256) ys low high
      ∙ ap (closed_by (run_value 4 (get_or text at 256 - 48) ys) (at + 1 + run_length 4 ys))
      (byte_of_drop ys (run_length 4 ys) ∙ get_or-drop (at + 1) text (run_length 4 ys) 256)

  pub at_run : (b v n : ℕ) → b ≡ get_or text at 256 → 49 ≤ b → b ≤ 57
      → v ≡ run_value 4 (b - 48) (drop (at + 1) text) → n ≡ at + 1 + run_length 4 (drop (at + 1) text)
      → closed_by v n (get_or text n 256) ≡ natural_at text at
  at_run b v n h low high p q =
      ap₂ (λ (w m : ℕ). closed_by w m (get_or text m 256)) (p ∙ ap (λ (x : ℕ). run_value 4 (x - 48) (drop (at + 1) text)) h) q
      ∙ sym (at_digits (omega arith) (omega arith))

pub run_within : (n : ℕ) (xs : List ℕ) → run_length n xs ≤ length xs
unfolding run_length
run_within zero xs = omega arith
run_within (suc n) [] = omega arith
run_within (suc n) (x ∷ xs) =
    ⊎_elim
    (λ d. omega (arith, if_true (is_digit x) (suc (run_length n xs)) 0 d, run_within n xs))
    (λ d. omega (arith, if_false (is_digit x) (suc (run_length n xs)) 0 d))
    (decide (is_digit x))
