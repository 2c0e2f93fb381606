-- That the target of a link is not exact need not be looked at, where links go to proper ancestors: the check with that test gives the
-- same verdict, whatever the tableau.
use Prim.Native.Nat.{ℕ, ◌<◌}
use native.Mathlib.Omega.{arith}
use mathlib.Core.Path.{◌≡◌, sym, ◌∙◌, ap, ap₂, subst}
use mathlib.Core.Logic.{⊎_elim}
use mathlib.Core.Bool.{Bool, true, false}
use mathlib.Core.Option.{Option, some}
use lib.IntN.{ℤ, pos, ◌-ℤ◌}
use lib.Signed.{le_z, ◌≤ℤ◌}
use Rattle.stab.specs.Basic.{nat}
use Rattle.stab.specs.Node.{Tableau, Bound, node, is_exact, bound}
use Rattle.stab.specs.Rule.{fields_fit}
use Rattle.stab.specs.Check.{at_unless, verdict_on}
use Rattle.stab.specs.Before.{step_by, node_by, check_by, Ancestor, target_above, loop_above, bound_above, tests_above, target_open, bound_open, tests_open}
use Rattle.stab.specs.Keeps.{KeepsParent, KeepsStep}
use Rattle.stab.specs.declared.Refusal.TheVariants.{Bound as BoundWrong, Fields, Target}
use Rattle.stab.specs.Finding.{Finding, no_refusal}
use Rattle.stab.proofs.Bools.{decide, and_first_true, and_first_false, otherwise_same, otherwise_first_same}
use Rattle.stab.proofs.Whole.{atom, num, ◌⊖◌, of_le, le_z_of, of_le_z}
use Rattle.stab.proofs.Tests.{◌⇒◌, not_tests, at_clears, itself}
use Rattle.stab.proofs.Ranges.{RightSplits, nonempty}
use Rattle.stab.proofs.AncestorLinks.{link_used_lem, ancestor_inside, target_above_tests, loop_above_lem, splits_above, above_clears}
use Rattle.stab.proofs.Exactness.Checked.{refusal_by_same}
use Rattle.stab.proofs.Exactness.Steps.{rule_tests, exact_tests, fields_tests}

-- L - k ≥ L' keeps the bounds of a leaf and its target apart, so an exact ancestor cannot be the target
apart : (B A : Bound) (k : ℤ) → B ≡ A → pos 1 ≤ℤ k → pos A.L ≤ℤ (pos B.L -ℤ k) → ⊥
apart B A k e h l =
    omega (arith, ap (λ (C : Bound). C.L) e, of_le (num 1) (atom k) (le_z_of h), of_le (num A.L) (num B.L ⊖ atom k) (le_z_of l))

module _ (T : Tableau) (parents : (k : ℕ) → k < T.node_rows → KeepsParent T k) where
  -- "An exact ancestor makes all below it exact with its own L"
  exact_ancestor : (j : ℕ) → j < T.node_rows → RightSplits T parents j → {i : ℕ} → Ancestor T.nodes i j → (bound T i).H ≡ some (bound T i).L → bound T j ≡ bound T i
  exact_ancestor j l splits {i} a x =
      let within = ancestor_inside T parents j l splits a in
      let g = within.upper (bound T i).L x in
      let some_is : g.0 ≡ (bound T i).L = omega (arith, within.lower, g.2, nonempty T parents j l splits g.0 g.1) in
      let least_is : (bound T j).L ≡ (bound T i).L = omega (arith, within.lower, g.2, nonempty T parents j l splits g.0 g.1) in
      ap₂ (λ (n : ℕ) (u : Option ℕ). record { L = n; H = u }) least_is (g.1 ∙ ap some some_is ∙ sym x)

  -- the same where the nodes before j keep their rules
  pub exact_below : (j i : ℕ) → j < T.node_rows → ((k : ℕ) → k < j → KeepsStep T k) → Ancestor T.nodes i j → (bound T i).H ≡ some (bound T i).L → bound T j ≡ bound T i
  exact_below j i l before a x = exact_ancestor j l (λ k p r. (before k p).split r) a x

  -- "so L - k is under its bound and 14 is given anyhow"
  pub given_anyhow : (j i : ℕ) → j < T.node_rows → ((k : ℕ) → k < j → KeepsStep T k) → Ancestor T.nodes i j → (bound T i).H ≡ some (bound T i).L → (k : ℤ) → pos 1 ≤ℤ k → loop_above (bound T j).L (bound T i).L k ≡ false
  unfolding loop_above
  given_anyhow j i l before a x k h =
      ⊎_elim
      (λ t. absurd (apart (bound T j) (bound T i) k (exact_below j i l before a x) h (of_le_z t)))
      (λ f. f)
      (decide (le_z (pos (bound T i).L) (pos (bound T j).L -ℤ k)))

  not_exact : (j i : ℕ) → j < T.node_rows → RightSplits T parents j → Ancestor T.nodes i j → pos 1 ≤ℤ (node T j).by → pos (bound T i).L ≤ℤ (pos (bound T j).L -ℤ (node T j).by) → is_exact (bound T i) ≡ false
  not_exact j i l splits a k above =
      ⊎_elim
      (λ x. absurd (apart (bound T j) (bound T i) (node T j).by (exact_ancestor j l splits a ((exact_tests (bound T i)).0 x)) k above))
      (λ x. x)
      (decide (is_exact (bound T i)))

  module _ (j : ℕ) (l : j < T.node_rows) (before : (k : ℕ) → k < j → node_by tests_above T k ≡ no_refusal) where
    splits : RightSplits T parents j
    splits = splits_above T parents j (λ k p. (above_clears T k (before k p)).bounds)

    is_open : fields_fit T j ≡ true → target_above T j ≡ true → bound_above T j ≡ true → (node T j).rule ≡ pos 8 → is_exact (bound T (nat (node T j).to)) ≡ false
    unfolding nat loop_above
    is_open f t b r =
        let w = (target_above_tests T parents j l).0 t r in
        let e : nat (node T j).to ≡ w.0 = ap nat w.1 in
        subst (λ (m : ℕ). is_exact (bound T m) ≡ false) (sym e)
        (not_exact j w.0 l splits w.2
        (((fields_tests T j).0 f).link.0 (link_used_lem T j r))
        (subst (λ (m : ℕ). pos (bound T m).L ≤ℤ (pos (bound T j).L -ℤ (node T j).by)) e (of_le_z (sym (loop_above_lem T j r) ∙ b))))

    -- with the tests before it passed, the test that went says nothing more
    nothing_more : fields_fit T j ≡ true → target_above T j ≡ true → bound_open T j ≡ bound_above T j
    unfolding bound_open target_open
    nothing_more f t =
        ⊎_elim
        (λ b.
        and_first_true (bound_above T j) _ b
        ∙ (rule_tests 8 (node T j) ⇒ not_tests (is_exact (bound T (nat (node T j).to)))).1 (is_open f t b)
        ∙ sym b)
        (λ b. and_first_false (bound_above T j) _ b ∙ sym b)
        (decide (bound_above T j))

    same_step : step_by tests_open T j ≡ step_by tests_above T j
    unfolding step_by tests_open tests_above
    same_step =
        otherwise_same _ _ _ (λ d.
        otherwise_same _ _ _ (λ f.
        otherwise_same _ _ _ (λ t.
        otherwise_first_same _
        (ap (λ (v : Bool). at_unless v BoundWrong j)
        (nothing_more ((at_clears Fields j (itself (fields_fit T j))).0 f) ((at_clears Target j (itself (target_above T j))).0 t))))))

    same_node : node_by tests_open T j ≡ node_by tests_above T j
    unfolding node_by
    same_node = otherwise_first_same _ same_step

-- ---- the theorems

-- 02, No. 3: "Every verdict and place is the same.", for every tableau, whatever its numbers
pub open_needless : (T : Tableau) → check_by tests_open T ≡ check_by tests_above T
unfolding check_by
open_needless T = ap (λ (x : Finding). verdict_on x T) (refusal_by_same tests_open tests_above T (same_node T))
