-- A number with its sign, by the natural number that stands for it.
use Rattle.std.specs.Prelude.{if◌then◌else◌}
use Prim.Native.Nat.{ℕ, zero, suc, ◌+◌, ◌≤◌}
use native.Mathlib.Omega.{arith}
use mathlib.Core.Path.{◌≡◌, refl, sym, ◌∙◌, ap, ap₂}
use mathlib.Core.Logic.{◌⊎◌, inl, inr, ⊎_elim}
use mathlib.Core.Bool.{Bool, true, false}
use mathlib.Core.List.{List, [], ◌∷◌}
use mathlib.Core.Option.{Option, none, some, none-ne-some, some-injective}
use lib.Dec.{eqb}
use lib.IntN.{ℤ}
use lib.ListN.{length, get_or, drop, set}
use borrow.Author.Tests.{eq-eqb, ne_eqb}
use Rattle.stab.specs.Text.{space, newline, same_bytes, is_natural, digits_value, some_if}
use Rattle.stab.proofs.Bools.{if_true, if_false, decide}
use Rattle.stab.proofs.Texts.Numbers.{natural_below}
use Rattle.numerals.specs.Here.{ends_field, field, field_end, past_field, natural_of, natural_here, number_here}
use Rattle.signed.specs.Numbers.{signed_of}
use Rattle.numerals.specs.Numerals.{no_numeral, numeral_as, natural_at, step_by, step_of, kept_of, kept_by, step_at}
use Rattle.numerals.specs.declared.Numeral.{Numeral}
use Rattle.numerals.specs.declared.Step.TheVariants.{Bad, More, Last}
use Rattle.numerals.proofs.Fields.{end_here, end_later, field_more, ends_neither, less_of, plain_of, here_less, here_plain, byte_of_drop}
use Rattle.numerals.proofs.Runs.{drop_byte}

-- ---- by the byte that ends the field

pub step_space : (e n : ℕ) → e ≡ 32 → step_by e n ≡ More n
unfolding step_by space
step_space e n h = if_true (eqb e 32) _ _ (eq-eqb e 32 h)

pub step_line : (e n : ℕ) → (e ≡ 32 → ⊥) → e ≡ 10 → step_by e n ≡ Last n
unfolding step_by space newline
step_line e n p h = if_false (eqb e 32) _ _ (ne_eqb e 32 p) ∙ if_true (eqb e 10) _ _ (eq-eqb e 10 h)

pub step_neither : (e n : ℕ) → (e ≡ 32 → ⊥) → (e ≡ 10 → ⊥) → step_by e n ≡ Bad
unfolding step_by space newline
step_neither e n p h = if_false (eqb e 32) _ _ (ne_eqb e 32 p) ∙ if_false (eqb e 10) _ _ (ne_eqb e 10 h)

pub kept_if : (e : ℕ) (t : List ℤ) (k : ℕ) (z : ℤ) → ends_field e ≡ true → kept_by e t k z ≡ set t k z
unfolding kept_by
kept_if e t k z h = if_true (ends_field e) _ _ h

pub kept_not : (e : ℕ) (t : List ℤ) (k : ℕ) (z : ℤ) → ends_field e ≡ false → kept_by e t k z ≡ t
unfolding kept_by
kept_not e t k z h = if_false (ends_field e) _ _ h

-- a field has an end, or none
pub end_or_none : (xs : List ℕ) → (field_end xs ≡ 0) ⊎ (ends_field (field_end xs) ≡ true)
end_or_none [] = inl (unfold field_end in refl)
end_or_none (x ∷ xs) =
    ⊎_elim
    (λ h. inr (ap ends_field (end_here x xs h) ∙ h))
    (λ h. ⊎_elim (λ p. inl (end_later x xs h ∙ p)) (λ p. inr (ap ends_field (end_later x xs h) ∙ p)) (end_or_none xs))
    (decide (ends_field x))

pub natural_ends : (xs : List ℕ) (v : ℕ) → natural_here xs ≡ some v → ends_field (field_end xs) ≡ true
natural_ends xs v h =
    ⊎_elim
    (λ e. absurd (none-ne-some v (sym (if_true (eqb (field_end xs) 0) none (natural_of (field xs)) (eq-eqb _ 0 e)) ∙ (unfold natural_here in h))))
    (λ e. e)
    (end_or_none xs)

-- ---- five digits

natural_small : (f : List ℕ) (v : ℕ) → natural_of f ≡ some v → v ≤ 99999
unfolding natural_of some_if
natural_small f v h = go (same_bytes f (48 ∷ [])) (is_natural f) refl h
  where
    go : (s t : Bool) → is_natural f ≡ t → (if s then some 0 else some_if t (digits_value 0 f)) ≡ some v → v ≤ 99999
    go true t n e = let q : 0 ≡ v = some-injective 0 v e in omega arith
    go false true n e = omega (arith, some-injective (digits_value 0 f) v e, natural_below f n)
    go false false n e = absurd (none-ne-some v e)

here_small : (xs : List ℕ) (v : ℕ) → natural_here xs ≡ some v → v ≤ 99999
unfolding natural_here
here_small xs v h = go (eqb (field_end xs) 0) h
  where
    go : (t : Bool) → (if t then none else natural_of (field xs)) ≡ some v → v ≤ 99999
    go true e = absurd (none-ne-some v e)
    go false e = natural_small (field xs) v e

numeral_small : (o : Option ℕ) (p e : ℕ) → ((v : ℕ) → o ≡ some v → v ≤ 99999) → (numeral_as o p e).value ≤ 99999
unfolding numeral_as no_numeral
numeral_small none p e h = omega arith
numeral_small (some v) p e h = h v refl

pub at_small : (text : List ℕ) (at : ℕ) → (natural_at text at).value ≤ 99999
unfolding natural_at
at_small text at = let xs = drop at text in numeral_small (natural_here xs) (at + past_field xs) (field_end xs) (here_small xs)

-- ---- the sign

less_none : (o : Option ℕ) (p e : ℕ) → (numeral_as o p e).value ≡ 0 → less_of o ≡ none
unfolding numeral_as less_of
less_none none p e h = refl
less_none (some zero) p e h = refl
less_none (some (suc v)) p e h = absurd (omega arith)

module _ (t : List ℤ) (k : ℕ) where
  less_some : (o : Option ℕ) (p e : ℕ) → ((v : ℕ) → o ≡ some v → ends_field e ≡ true) → ((numeral_as o p e).value ≡ 0 → ⊥)
      → (step_by (numeral_as o p e).end (numeral_as o p e).next ≡ step_of (less_of o) e p)
      × (kept_by (numeral_as o p e).end t k (signed_of (numeral_as o p e).value true) ≡ kept_of t k (less_of o))
  unfolding numeral_as no_numeral less_of step_of kept_of signed_of
  less_some none p e ends h = absurd (h refl)
  less_some (some zero) p e ends h = absurd (h refl)
  less_some (some (suc v)) p e ends h = (refl, kept_if e t k _ (ends (suc v) refl))

  plain_any : (o : Option ℕ) (p e : ℕ) → ((v : ℕ) → o ≡ some v → ends_field e ≡ true)
      → (step_by (numeral_as o p e).end (numeral_as o p e).next ≡ step_of (plain_of o) e p)
      × (kept_by (numeral_as o p e).end t k (signed_of (numeral_as o p e).value false) ≡ kept_of t k (plain_of o))
  unfolding numeral_as no_numeral plain_of step_of kept_of signed_of
  plain_any none p e ends =
      (step_neither 0 0 (λ q. omega arith) (λ q. omega arith), kept_not 0 t k _ (ends_neither 0 (λ q. omega arith) (λ q. omega arith)))
  plain_any (some v) p e ends = (refl, kept_if e t k _ (ends v refl))

-- ---- at a place of a text

module _ (text : List ℕ) (at : ℕ) where
  behind : get_or text at 256 ≡ 45 → drop at text ≡ 45 ∷ drop (at + 1) text
  behind h = drop_byte text at (omega arith) ∙ ap (λ (x : ℕ). x ∷ drop (at + 1) text) h

  less_here : get_or text at 256 ≡ 45 → number_here (drop at text) ≡ less_of (natural_here (drop (at + 1) text))
  less_here h = ap number_here (behind h) ∙ here_less (drop (at + 1) text)

  stays : ends_field 45 ≡ false
  stays = ends_neither 45 (λ q. omega arith) (λ q. omega arith)

  less_step : get_or text at 256 ≡ 45
      → step_at text at ≡ step_of (less_of (natural_here (drop (at + 1) text))) (field_end (drop (at + 1) text)) (at + 1 + past_field (drop (at + 1) text))
  unfolding step_at past_field
  less_step h =
      let ys = drop (at + 1) text in
      let p : at + suc (length (field (drop at text))) ≡ at + 1 + suc (length (field ys)) =
      omega (arith, ap length (ap field (behind h) ∙ field_more 45 ys stays)) in
      ap₂ (λ (o : Option ℤ) (e : ℕ). step_of o e (at + suc (length (field (drop at text))))) (less_here h) (ap field_end (behind h) ∙ end_later 45 ys stays)
      ∙ ap (step_of (less_of (natural_here ys)) (field_end ys)) p

  plain_here : (get_or text at 256 ≡ 45 → ⊥) → number_here (drop at text) ≡ plain_of (natural_here (drop at text))
  plain_here h = here_plain (drop at text) (λ e. h (sym (byte_of_drop text at) ∙ e))

  plain_step : (get_or text at 256 ≡ 45 → ⊥)
      → step_at text at ≡ step_of (plain_of (natural_here (drop at text))) (field_end (drop at text)) (at + past_field (drop at text))
  unfolding step_at
  plain_step h = ap (λ (o : Option ℤ). step_of o (field_end (drop at text)) (at + past_field (drop at text))) (plain_here h)

  module _ (t : List ℤ) (k : ℕ) (n : Numeral) where
    -- a minus and no number but 0 behind it
    pub less_bad : get_or text at 256 ≡ 45 → n ≡ natural_at text (at + 1) → n.value ≡ 0
        → (Bad ≡ step_at text at) × (t ≡ kept_of t k (number_here (drop at text)))
    unfolding natural_at step_of kept_of
    less_bad h q v =
        let ys = drop (at + 1) text in
        let z = less_none (natural_here ys) (at + 1 + past_field ys) (field_end ys) (ap (λ (m : Numeral). m.value) (sym q) ∙ v) in (
          sym (less_step h ∙ ap (λ (o : Option ℤ). step_of o (field_end ys) (at + 1 + past_field ys)) z),
          sym (ap (kept_of t k) (less_here h ∙ z)),
        )

    pub less_good : get_or text at 256 ≡ 45 → n ≡ natural_at text (at + 1) → (n.value ≡ 0 → ⊥)
        → (step_by n.end n.next ≡ step_at text at) × (kept_by n.end t k (signed_of n.value true) ≡ kept_of t k (number_here (drop at text)))
    unfolding natural_at
    less_good h q v =
        let ys = drop (at + 1) text in
        let g = less_some t k (natural_here ys) (at + 1 + past_field ys) (field_end ys) (natural_ends ys) (λ e. v (ap (λ (m : Numeral). m.value) q ∙ e)) in (
          ap (λ (m : Numeral). step_by m.end m.next) q ∙ g.0 ∙ sym (less_step h),
          ap (λ (m : Numeral). kept_by m.end t k (signed_of m.value true)) q ∙ g.1 ∙ sym (ap (kept_of t k) (less_here h)),
        )

    pub plain_good : (get_or text at 256 ≡ 45 → ⊥) → n ≡ natural_at text at
        → (step_by n.end n.next ≡ step_at text at) × (kept_by n.end t k (signed_of n.value false) ≡ kept_of t k (number_here (drop at text)))
    unfolding natural_at
    plain_good h q =
        let xs = drop at text in
        let g = plain_any t k (natural_here xs) (at + past_field xs) (field_end xs) (natural_ends xs) in (
          ap (λ (m : Numeral). step_by m.end m.next) q ∙ g.0 ∙ sym (plain_step h),
          ap (λ (m : Numeral). kept_by m.end t k (signed_of m.value false)) q ∙ g.1 ∙ sym (ap (kept_of t k) (plain_here h)),
        )
