-- What a rule gives to a child, answer by answer as the code finds it.
use Prim.Native.Nat.{ℕ, zero, suc}
use native.Mathlib.Omega.{arith}
use mathlib.Core.Path.{◌≡◌, refl, sym, ◌∙◌, ap}
use mathlib.Core.Bool.{Bool, true, false}
use mathlib.Core.List.{List, [], ◌∷◌}
use lib.IntN.{ℤ}
use Rattle.stab.specs.Basic.{◌or◌, eq_z, has}
use Rattle.stab.specs.Node.{Tableau, Node, row}
use Rattle.stab.specs.Rule.{of_rule, one_of, given, drawn_from}
use Rattle.stab.proofs.Bools.{or_left, if_true, if_false, or_first_false, same_test}
use Rattle.stab.proofs.Whole.{eq_z_of, eq_z_true}

or_false_last : (a : Bool) → a ≡ (a or false)
unfolding ◌or◌
or_false_last true = refl
or_false_last false = refl

-- what was compared the other way round, with a number that was read back as z
pub turned : (a : ℤ) {z z' : ℤ} → z' ≡ z → eq_z a z' ≡ eq_z z a
turned a {z} {z'} e =
    same_test (eq_z a z') (eq_z z a)
    (λ h. eq_z_of z a (sym e ∙ sym (eq_z_true a z' h)))
    (λ h. eq_z_of a z' (sym (eq_z_true z a h) ∙ sym e))

pub read_as : (xs : List ℤ) {z z' : ℤ} → z' ≡ z → has z' xs ≡ has z xs
read_as xs e = ap (λ (x : ℤ). has x xs) e

-- ---- one of two

module _ (z a b : ℤ) where
  pub first_is : eq_z z a ≡ true → true ≡ has z (a ∷ b ∷ [])
  unfolding has
  first_is h = sym (or_left _ _ h)

  pub second_is : eq_z z a ≡ false → eq_z z b ≡ has z (a ∷ b ∷ [])
  unfolding has
  second_is h = or_false_last (eq_z z b) ∙ sym (or_first_false _ _ h)

  pub only_first : (rank : ℕ) → rank ≡ 0 → eq_z z a ≡ has z (one_of a b rank)
  unfolding has one_of
  only_first zero e = or_false_last (eq_z z a)
  only_first (suc k) e = absurd (omega arith)

  pub only_second : (rank : ℕ) → (rank ≡ 0 → ⊥) → eq_z z b ≡ has z (one_of a b rank)
  unfolding has one_of
  only_second zero e = absurd (e refl)
  only_second (suc k) e = or_false_last (eq_z z b)

-- ---- what a rule gives

module _ (T : Tableau) (w : Node) (k : ℕ) where
  pub given_parts : of_rule 0 w ≡ true → (row T w.on).a ∷ (row T w.on).b ∷ [] ≡ given T w k
  unfolding given
  given_parts h = sym (if_true (of_rule 0 w) _ _ h)

  module _ (h0 : of_rule 0 w ≡ false) where
    pub given_side : of_rule 1 w ≡ true → one_of (row T w.on).a (row T w.on).b k ≡ given T w k
    unfolding given
    given_side h = sym (if_false (of_rule 0 w) _ _ h0 ∙ if_true (of_rule 1 w) _ _ h)

    module _ (h1 : of_rule 1 w ≡ false) where
      pub given_unfolded : of_rule 3 w ≡ true → w.with ∷ w.other ∷ [] ≡ given T w k
      unfolding given
      given_unfolded h = sym (if_false (of_rule 0 w) _ _ h0 ∙ if_false (of_rule 1 w) _ _ h1 ∙ if_true (of_rule 3 w) _ _ h)

      module _ (h3 : of_rule 3 w ≡ false) where
        pub given_half : of_rule 4 w ≡ true → one_of w.with w.other k ≡ given T w k
        unfolding given
        given_half h =
            sym
            (if_false (of_rule 0 w) _ _ h0
            ∙ if_false (of_rule 1 w) _ _ h1
            ∙ if_false (of_rule 3 w) _ _ h3
            ∙ if_true (of_rule 4 w) _ _ h)

        pub given_nothing : of_rule 4 w ≡ false → [] ≡ given T w k
        unfolding given
        given_nothing h =
            sym
            (if_false (of_rule 0 w) _ _ h0
            ∙ if_false (of_rule 1 w) _ _ h1
            ∙ if_false (of_rule 3 w) _ _ h3
            ∙ if_false (of_rule 4 w) _ _ h)

pub drawn_same : (T : Tableau) {p p' k k' : ℕ} {z z' : ℤ} → p ≡ p' → k ≡ k' → z ≡ z' → drawn_from T p k z ≡ drawn_from T p' k' z'
drawn_same T a b c = cc
