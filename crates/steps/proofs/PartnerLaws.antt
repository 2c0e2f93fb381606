-- The partners of an unfolding, answer by answer as the code finds them.
use Prim.Native.Nat.{ℕ, ◌+◌, ◌<◌, ◌≤◌}
use native.Mathlib.Omega.{arith}
use mathlib.Core.Path.{◌≡◌, ◌∙◌}
use mathlib.Core.Logic.{⊎_elim}
use mathlib.Core.Bool.{true, false}
use lib.Dec.{eqb}
use lib.IntN.{ℤ, pos, neg_ℤ, ◌+ℤ◌}
use Rattle.stab.specs.Basic.{◌or◌, eq_z, nat}
use Rattle.stab.specs.Node.{Tableau, Node, node, row}
use Rattle.stab.specs.Rule.{of_rule, shortened, is_instance, partners_fit}
use Rattle.stab.proofs.Bools.{or_cases}
use Rattle.stab.proofs.Whole.{atom, num, ◌⊕◌, eq_of, of_eq, eq_z_true, plus_nat, minus_nat}
use Rattle.formula.proofs.RowLaws.{test_same}
use Rattle.fields.proofs.Answers.{first_fails, second_decides, implies_made, implies_spared}

-- w = o + 1
pub next_test : (w o : ℤ) → eqb (nat w + nat (neg_ℤ o)) (nat o + nat (neg_ℤ w) + 1) ≡ eq_z w (o +ℤ pos 1)
next_test w o =
    test_same (nat w + nat (neg_ℤ o)) (nat o + nat (neg_ℤ w) + 1) w (o +ℤ pos 1)
    (λ h. eq_of (atom w) (atom o ⊕ num 1) (omega (arith, plus_nat w, minus_nat w, plus_nat o, minus_nat o)))
    (λ h. omega (arith, of_eq (atom w) (atom o ⊕ num 1) h, plus_nat w, minus_nat w, plus_nat o, minus_nat o))

-- rule 3 or 4
pub unfolding_number : (w : Node) → (of_rule 3 w or of_rule 4 w) ≡ true → (n : ℕ) × (w.rule ≡ pos n) × (3 ≤ n) × (n < 5)
unfolding of_rule
unfolding_number w h =
    ⊎_elim
    (λ e. (3, eq_z_true w.rule (pos 3) e, omega arith, omega arith))
    (λ e. (4, eq_z_true w.rule (pos 4) e, omega arith, omega arith))
    (or_cases (eq_z w.rule (pos 3)) (eq_z w.rule (pos 4)) h)

module _ (T : Tableau) (j : ℕ) where
  pub no_partners : (of_rule 3 (node T j) or of_rule 4 (node T j)) ≡ false → true ≡ partners_fit T j
  unfolding partners_fit
  no_partners h = implies_spared _ _ h

  module _ (h : (of_rule 3 (node T j) or of_rule 4 (node T j)) ≡ true) where
    pub not_shortened : shortened (row T (node T j).on) (row T (node T j).with) ≡ false → false ≡ partners_fit T j
    unfolding partners_fit
    not_shortened l = first_fails _ _ l ∙ implies_made _ _ h

    pub instance_decides : shortened (row T (node T j).on) (row T (node T j).with) ≡ true → is_instance T (row T (node T j).on) (node T j).other ≡ partners_fit T j
    unfolding partners_fit
    instance_decides l = second_decides _ _ l ∙ implies_made _ _ h
