-- Readings one after another, what is judged before the first line, and the line of a refusal.
use Prim.Native.Nat.{ℕ, ◌<◌, ◌≤◌}
use mathlib.Core.Path.{◌≡◌, refl, sym, ◌∙◌, ap, subst}
use mathlib.Core.Bool.{Bool, true, false}
use mathlib.Core.List.{List}
use lib.ListN.{length}
use borrow.Author.Tests.{le-leb, lt-leb}
use Rattle.stab.specs.Text.{Line, lines, text_limit}
use Rattle.stab.specs.Read.{Reading, read, stopped, ◌and_then◌, require, read_text}
use Rattle.stab.specs.Finding.{Place}
use Rattle.stab.specs.declared.Refusal.{Refusal}
use Rattle.stab.specs.declared.Refusal.TheVariants.{TextTooLong, TableTooShort}
use Rattle.stab.specs.declared.Refused.{Refused}
use Rattle.std.specs.Prelude.{None, Some}
use Rattle.text.specs.Texts.{StoppedAt}

-- ---- one reading after another

pub then_then : {A B C : Type 0} (r : Reading A) (f : A → Reading B) (g : B → Reading C) → ((r and_then f) and_then g) ≡ (r and_then λ a. f a and_then g)
unfolding ◌and_then◌
then_then (read a) f g = refl
then_then (stopped why k) f g = refl

pub then_same : {A B : Type 0} (r : Reading A) (f g : A → Reading B) → ((a : A) → f a ≡ g a) → (r and_then f) ≡ (r and_then g)
unfolding ◌and_then◌
then_same (read a) f g h = h a
then_same (stopped why k) f g h = refl

-- ---- what is judged before the first line

module _ {A : Type 0} (full : Bool) (f : List Line → Reading A) (text : List ℕ) where
  pub text_long : text_limit < length text → read_text full f text ≡ stopped TextTooLong 0
  unfolding read_text require
  text_long h = ap (λ (b : Bool). require b TextTooLong 0 (require full TableTooShort 0 (f (lines text)))) (lt-leb (length text) text_limit h)

  text_fits : length text ≤ text_limit → read_text full f text ≡ require full TableTooShort 0 (f (lines text))
  unfolding read_text require
  text_fits h = ap (λ (b : Bool). require b TextTooLong 0 (require full TableTooShort 0 (f (lines text)))) (le-leb (length text) text_limit h)

  pub text_short : length text ≤ text_limit → full ≡ false → read_text full f text ≡ stopped TableTooShort 0
  unfolding require
  text_short h e = text_fits h ∙ ap (λ (b : Bool). require b TableTooShort 0 (f (lines text))) e

  pub text_on : length text ≤ text_limit → full ≡ true → read_text full f text ≡ f (lines text)
  unfolding require
  text_on h e = text_fits h ∙ ap (λ (b : Bool). require b TableTooShort 0 (f (lines text))) e

-- ---- a refusal and its line

module _ {A : Type 0} {r : Reading A} where
  pub refused_at : {e : Refused} {why : Refusal} {k : ℕ} → e ≡ record { why = why; place = Some k } → r ≡ stopped why k → StoppedAt r e.why e.place
  refused_at p q = subst (λ (e : Refused). StoppedAt r e.why e.place) (sym p) q

pub record Stop {A : Type 0} (r : Reading A) (why : Refusal) (place : Place) : Type 0 where
  pub line : ℕ
  pub place_is : place ≡ Some line
  pub stops : r ≡ stopped why line

pub stop : {A : Type 0} (r : Reading A) (why : Refusal) (place : Place) → StoppedAt r why place → Stop r why place
stop r why None p = absurd p
stop r why (Some k) p = record { line = k; place_is = refl; stops = p }
