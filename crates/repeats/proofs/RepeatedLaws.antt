-- What is found of a row, by whether it is written twice.
use Prim.Native.Nat.{ℕ}
use mathlib.Core.Path.{◌≡◌, sym, ◌∙◌}
use mathlib.Core.Logic.{⊎_elim}
use mathlib.Core.Bool.{true, false}
use lib.Dec.{leb, ltb}
use borrow.Author.Tests.{leb-true, le-leb, ltb-false, le-ltb}
use Rattle.stab.specs.Formula.{Row}
use Rattle.stab.specs.Check.{at_unless, repeat_refusal}
use Rattle.std.specs.Prelude.{Some}
use Rattle.stab.specs.Finding.{no_refusal, refuse}
use Rattle.stab.specs.declared.Refusal.TheVariants.{Repeated}
use Rattle.stab.proofs.Bools.{decide, and_left, and_right, and_first_true, or_left, or_right, or_false, not_of_false, not_of_true, nothing_unless, found_unless}
use Rattle.repeats.specs.Repeated.{repeated}

module _ (rows : ℕ → Row) (from r : ℕ) where
  pub repeat_found : repeated rows from r ≡ true → repeat_refusal rows from r ≡ refuse Repeated (Some r)
  unfolding repeated repeat_refusal at_unless
  repeat_found h =
      found_unless _ _ _
      (or_false _ _ (le-ltb r from (leb-true from r (and_left _ _ h))) (not_of_true _ (and_right (leb from r) _ h)))

  pub repeat_none : repeated rows from r ≡ false → repeat_refusal rows from r ≡ no_refusal
  unfolding repeated repeat_refusal at_unless
  repeat_none h =
      nothing_unless _ _ _
      (⊎_elim
      (λ t. or_left _ _ t)
      (λ t. or_right (ltb r from) _ (not_of_false _ (sym (and_first_true _ _ (le-leb from r (ltb-false r from t))) ∙ h)))
      (decide (ltb r from)))
