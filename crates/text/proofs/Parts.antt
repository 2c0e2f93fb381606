-- A line's numbers go into a table one by one: what is left of the line, stored after those, comes to what the whole line comes to.
use Prim.Native.Nat.{ℕ, suc, ◌+◌, ◌<◌, ◌≤◌}
use native.Mathlib.Omega.{arith}
use native.Mathlib.Nat.{add-zero}
use mathlib.Core.Path.{◌≡◌, refl, sym, ◌∙◌, ap, ap₂, subst}
use mathlib.Core.Logic.{⊎_elim}
use mathlib.Core.Bool.{true}
use mathlib.Core.List.{List, [], ◌∷◌, ◌++◌, append_assoc, append-nil}
use mathlib.Core.Option.{Option, none, some, none-ne-some}
use lib.Dec.{eqb}
use lib.IntN.{ℤ}
use lib.ListN.{length, take, drop, set, length-drop, length-append}
use lib.Seq.{sets, drop-drop, take_all, take_at}
use borrow.Author.Tests.{eq-eqb}
use Rattle.stab.specs.Text.{in_front_of, number_of}
use Rattle.stab.proofs.Bools.{if_true}
use Rattle.numerals.specs.Here.{after_line, row, first_numbers, ends_field, field, field_end, past_field, number_here}
use Rattle.numerals.specs.Numerals.{step_of, kept_of, step_at}
use Rattle.text.specs.Rows.{row_front, RowEnded, RowOpen, row_into}
use Rattle.numerals.specs.declared.Step.{Step}
use Rattle.numerals.specs.declared.Step.TheVariants.{Bad, More, Last}
use Rattle.numerals.proofs.Fields.{ends_space, ends_line, ends_cases}
use Rattle.numerals.proofs.Steps.{step_space, step_line, end_or_none}
use Rattle.numerals.proofs.Lines.{row_none, row_more, row_last, row_numbers, first_none, first_more, after_more, after_last, past_within}

-- ---- numbers in front

front_one : (z : ℤ) (o : Option (List ℤ)) → in_front_of (some z) o ≡ row_front (z ∷ []) o
unfolding in_front_of row_front
front_one z none = refl
front_one z (some vs) = refl

front_front : (us vs : List ℤ) (o : Option (List ℤ)) → row_front us (row_front vs o) ≡ row_front (us ++ vs) o
unfolding row_front
front_front us vs none = refl
front_front us vs (some ws) = ap some (sym (append_assoc us vs ws))

front_none : (o : Option (List ℤ)) → o ≡ row_front [] o
unfolding row_front
front_none none = refl
front_none (some vs) = refl

pub sets_append : (us vs t : List ℤ) (i : ℕ) → sets t i (us ++ vs) ≡ sets (sets t i us) (i + length us) vs
sets_append [] vs t i = ap (λ (j : ℕ). sets t j vs) (sym (add-zero i))
sets_append (u ∷ us) vs t i =
    let e : suc i + length us ≡ i + suc (length us) = omega arith in
    sets_append us vs (set t i u) (suc i) ∙ ap (λ (j : ℕ). sets (sets (set t i u) (suc i) us) j vs) e

-- ---- what a step says of the number

-- a number whose field ends with the byte e, and n is the place after that
record Number (xs : List ℕ) (at e n : ℕ) : Type 0 where
  z : ℤ
  is : number_here xs ≡ some z
  end : field_end xs ≡ e
  next : n ≡ at + past_field xs

abbrev StepIs : List ℕ → ℕ → Step → Type 0
StepIs xs at Bad = number_here xs ≡ none
StepIs xs at (More n) = Number xs at 32 n
StepIs xs at (Last n) = Number xs at 10 n

here_ends : (xs : List ℕ) (z : ℤ) → number_here xs ≡ some z → ends_field (field_end xs) ≡ true
here_ends xs z h =
    ⊎_elim
    (λ e. absurd (none-ne-some z (sym (if_true (eqb (field_end xs) 0) none (number_of (field xs)) (eq-eqb _ 0 e)) ∙ (unfold number_here in h))))
    (λ e. e)
    (end_or_none xs)

step_by : (xs : List ℕ) (at : ℕ) (o : Option ℤ) → number_here xs ≡ o → StepIs xs at (step_of o (field_end xs) (at + past_field xs))
unfolding step_of
step_by xs at none q = q
step_by xs at (some z) q =
    ⊎_elim
    (λ e. subst (StepIs xs at) (sym (step_space _ _ e)) (record { z = z; is = q; end = e; next = refl }))
    (λ e. subst (StepIs xs at) (sym (step_line _ _ (λ p. omega arith) e)) (record { z = z; is = q; end = e; next = refl }))
    (ends_cases (field_end xs) (here_ends xs z q))

step_is : (text : List ℕ) (at : ℕ) → StepIs (drop at text) at (step_at text at)
unfolding step_at
step_is text at = step_by (drop at text) at (number_here (drop at text)) refl

-- ---- one step of the loop

module _ (text : List ℕ) (at : ℕ) (t : List ℤ) (k n : ℕ) (t' : List ℤ) where
  -- the place after a number lies within the text
  number_within : (e : ℕ) → ends_field e ≡ true → Number (drop at text) at e n → at ≤ length text → (at < n) × (n ≤ length text)
  unfolding past_field
  number_within e h m l =
      omega (arith, m.next, past_within (drop at text) (ap ends_field m.end ∙ h), length-drop at text)

  number_rest : (e : ℕ) → Number (drop at text) at e n → drop (past_field (drop at text)) (drop at text) ≡ drop n text
  number_rest e m = drop-drop (past_field (drop at text)) at text ∙ ap (λ (i : ℕ). drop i text) (sym m.next)

  -- none stands there
  pub step_bad : step_at text at ≡ Bad → number_here (drop at text) ≡ none
  step_bad h = subst (StepIs (drop at text) at) h (step_is text at)

  -- one stands there, and the line goes on
  pub step_more : step_at text at ≡ More n → t' ≡ kept_of t k (number_here (drop at text)) → at ≤ length text → RowOpen text at t k t' (k + 1) n
  unfolding kept_of
  step_more h q l =
      let m = subst (StepIs (drop at text) at) h (step_is text at) in
      let w = number_within 32 (ends_space 32 refl) m l in
      let r = number_rest 32 m in
      record {
        vs = m.z ∷ [];
        numbers = row_more (drop at text) m.z m.is m.end ∙ front_one m.z _ ∙ ap (λ (xs : List ℕ). row_front (m.z ∷ []) (row xs)) r;
        first = first_more (drop at text) m.z m.is m.end ∙ ap (λ (xs : List ℕ). m.z ∷ first_numbers xs) r;
        table = q ∙ ap (kept_of t k) m.is;
        count = refl;
        rest = after_more (drop at text) m.end ∙ ap after_line r;
        ahead = omega (arith, w.0);
        within = w.1;
      }

  -- one stands there, the line's last
  pub step_last : step_at text at ≡ Last n → t' ≡ kept_of t k (number_here (drop at text)) → at ≤ length text → RowEnded text at t k t' (k + 1) n
  unfolding kept_of
  step_last h q l =
      let m = subst (StepIs (drop at text) at) h (step_is text at) in
      let w = number_within 10 (ends_line 10 refl) m l in
      record {
        vs = m.z ∷ [];
        numbers = row_last (drop at text) m.z m.is m.end;
        table = q ∙ ap (kept_of t k) m.is;
        count = refl;
        rest = after_last (drop at text) m.end ∙ number_rest 10 m;
        ahead = w.0;
        within = w.1;
      }

-- ---- the steps together

module _ (text : List ℕ) (at : ℕ) (t : List ℤ) (to : ℕ) where
  pub open_start : at ≤ length text → RowOpen text at t to t to at
  open_start l =
      record { vs = []; numbers = front_none (row (drop at text)); first = refl; table = refl; count = sym (add-zero to); rest = refl; ahead = omega arith; within = l }

  module _ (t₁ : List ℤ) (k i : ℕ) (p : RowOpen text at t to t₁ k i) where
    -- the next is no number, so the line is no row, and starts with what was stored
    pub open_bad : number_here (drop i text) ≡ none → (t₂ : List ℤ) → t₂ ≡ kept_of t₁ k (number_here (drop i text)) → (w : ℕ) → k ≤ to + w
        → ((row (drop at text) ≡ none) × (length (first_numbers (drop at text)) ≤ w)) × (t₂ ≡ row_into text at w to t)
    unfolding row_front kept_of row_into
    open_bad h t₂ q w l =
        let e : first_numbers (drop at text) ≡ p.vs = p.first ∙ ap (λ (us : List ℤ). p.vs ++ us) (first_none (drop i text) h) ∙ append-nil p.vs in
        let n : length (first_numbers (drop at text)) ≤ w = omega (arith, ap length e, p.count) in (
          (p.numbers ∙ ap (row_front p.vs) (row_none (drop i text) h), n),
          q ∙ ap (kept_of t₁ k) h ∙ p.table ∙ ap (sets t to) (sym (take_all w (first_numbers (drop at text)) n ∙ e)),
        )

    -- what is stored after what was stored
    later : (us t₂ : List ℤ) → t₂ ≡ sets t₁ k us → t₂ ≡ sets t to (p.vs ++ us)
    later us t₂ h = h ∙ ap₂ (λ (u : List ℤ) (j : ℕ). sets u j us) p.table p.count ∙ sym (sets_append p.vs us t to)

    pub open_more : (t₂ : List ℤ) (k' n : ℕ) → RowOpen text i t₁ k t₂ k' n → RowOpen text at t to t₂ k' n
    open_more t₂ k' n q =
        let e = length-append p.vs q.vs in
        record {
          vs = p.vs ++ q.vs;
          numbers = p.numbers ∙ ap (row_front p.vs) q.numbers ∙ front_front p.vs q.vs _;
          first = p.first ∙ ap (λ (us : List ℤ). p.vs ++ us) q.first ∙ sym (append_assoc p.vs q.vs _);
          table = later q.vs t₂ q.table;
          count = omega (arith, p.count, q.count);
          rest = p.rest ∙ q.rest;
          ahead = omega (arith, p.ahead, q.ahead);
          within = q.within;
        }

    pub open_last : (t₂ : List ℤ) (k' n : ℕ) → RowEnded text i t₁ k t₂ k' n → RowEnded text at t to t₂ k' n
    unfolding row_front
    open_last t₂ k' n q =
        let e = length-append p.vs q.vs in
        record {
          vs = p.vs ++ q.vs;
          numbers = p.numbers ∙ ap (row_front p.vs) q.numbers;
          table = later q.vs t₂ q.table;
          count = omega (arith, p.count, q.count);
          rest = p.rest ∙ q.rest;
          ahead = omega (arith, p.ahead, q.ahead);
          within = q.within;
        }

-- ---- what is then in the table

module _ (text : List ℕ) (at : ℕ) (t : List ℤ) (to : ℕ) (t' : List ℤ) (w next : ℕ) where
  pub open_kept : RowOpen text at t to t' (to + w) next → t' ≡ row_into text at w to t
  unfolding row_into
  open_kept r = r.table ∙ ap (sets t to) (sym (ap (take w) r.first ∙ take_at r.vs _ w (omega (arith, r.count))))

  pub ended_kept : (to' : ℕ) → to' ≤ to + w → RowEnded text at t to t' to' next → t' ≡ row_into text at w to t
  unfolding row_into
  ended_kept to' l r = r.table ∙ ap (sets t to) (sym (ap (take w) (row_numbers (drop at text) r.vs r.numbers) ∙ take_all w r.vs (omega (arith, r.count))))
