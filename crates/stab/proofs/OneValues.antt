-- Tableaux in which each split's by is 0 are read as before bounds had two sides, by the check with links to proper ancestors.
use Prim.Native.Nat.{ℕ, zero, suc, ◌<◌}
use native.Mathlib.Omega.{arith}
use mathlib.Core.Path.{◌≡◌, refl, sym, ◌∙◌, ap, ap₂, subst}
use mathlib.Core.Logic.{⊎_elim}
use mathlib.Core.Bool.{Bool, true, false, true≢false}
use mathlib.Core.Option.{Option, none, some}
use lib.Dec.{leb}
use lib.IntN.{ℤ, pos, ◌-ℤ◌}
use lib.Signed.{le_z}
use Rattle.stab.specs.Basic.{◌and◌, ◌or◌, ◌implies◌, eq_z, nat, below}
use Rattle.stab.specs.Formula.{Row}
use Rattle.stab.specs.Node.{Tableau, Node, Bound, row, node_at, node, rank, is_upper, is_exact, split_at, split_bound, child_bound, first_bound, bound_of, bound}
use Rattle.stab.specs.Rule.{of_rule, fields_fit, stays_below, split_fits, unfold_fits, clash_fits, void_fits, bound_fits}
use Rattle.stab.specs.Check.{at_unless, verdict_on}
use Rattle.stab.specs.Before.{step_by, node_by, check_by, target_above, loop_above, bound_above, tests_above, OpenOrExact, split_one, child_one, first_one, bound_one, fields_fit_one, split_fits_one, void_fits_one, bound_fits_one, tests_one}
use Rattle.stab.specs.Keeps.{KeepsParent, Splits}
use Rattle.stab.specs.declared.Refusal.TheVariants.{Bound as BoundWrong, Fields, Target}
use Rattle.stab.specs.Finding.{Finding, no_refusal}
use borrow.Author.Tests.{le-leb, eq-eqb}
use Rattle.stab.proofs.Bools.{decide, if_true, if_false, and_first_true, and_left, and_both, same_test, otherwise_same, otherwise_first_same}
use Rattle.stab.proofs.Whole.{num, ◌⊖◌, of_le, eq_z_true, eq_z_of}
use Rattle.stab.proofs.Trees.{below_nat}
use Rattle.stab.proofs.Tests.{◌⇒◌, eq_z_tests, at_clears, itself}
use Rattle.stab.proofs.Bounds.{inherit_first, inherit_child}
use Rattle.stab.proofs.Ancestors.{ancestor_below}
use Rattle.stab.proofs.Ranges.{RightSplits}
use Rattle.stab.proofs.Exactness.Checked.{refusal_by_same}
use Rattle.stab.proofs.AncestorLinks.{target_above_tests, loop_above_lem, other_above, splits_above, above_clears}
use Rattle.stab.proofs.Exactness.Steps.{rule_tests}

-- "n ≥ L (open) or n = L (exact)" as a bound with two sides
ends : Bool → ℕ → Option ℕ
ends true L = some L
ends false L = none

two_sided : OpenOrExact → Bound
two_sided B = record { L = B.L; H = ends B.exact B.L }

-- ---- the tests

ends_upper : (v : Bool) (L : ℕ) → is_upper (ends v L) L ≡ v
unfolding is_upper ends
ends_upper true L = eq-eqb L L refl
ends_upper false L = refl

ends_void : (v : Bool) (L : ℕ) (w : Row) → void_fits (ends v L) w ≡ void_fits_one (record { exact = v; L = L }) w
unfolding void_fits void_fits_one ends ◌and◌
ends_void true L w = refl
ends_void false L w = refl

never_below : (L : ℕ) → le_z (pos L) (pos L -ℤ pos 1) ≡ false
never_below L =
    ⊎_elim
    (λ h. absurd (omega (arith, of_le (num L) (num L ⊖ num 1) h)))
    (λ h. h)
    (decide (le_z (pos L) (pos L -ℤ pos 1)))

ends_split : (v : Bool) (L : ℕ) → stays_below (ends v L) L ≡ split_fits_one (record { exact = v; L = L })
unfolding stays_below split_fits_one ends ◌and◌
ends_split true L = never_below L
ends_split false L = refl

-- K of a split whose by is 0
at_least : (L : ℕ) (z : ℤ) → z ≡ pos 0 → split_at L z ≡ L
unfolding split_at
at_least L z e = if_true (eq_z z (pos 0)) L (nat z) (eq_z_of z (pos 0) e)

split_same : (B : OpenOrExact) (z : ℤ) → z ≡ pos 0 → split_fits (two_sided B) (split_at B.L z) ≡ split_fits_one B
unfolding split_fits two_sided
split_same B z e =
    ap (λ (K : ℕ). leb B.L K and stays_below (ends B.exact B.L) K) (at_least B.L z e)
    ∙ and_first_true _ _ (le-leb B.L B.L (omega arith))
    ∙ ends_split B.exact B.L

-- ---- bounds

split_ends : (B : OpenOrExact) (k : ℕ) → B.exact ≡ false → split_bound (two_sided B) B.L k ≡ two_sided (split_one B k)
unfolding split_bound two_sided split_one ends
split_ends B zero o = refl
split_ends B (suc k) o = ap (λ (v : Bool). record { L = suc B.L; H = ends v B.L }) o

-- a child's bound, where a split is at an open node and its by is 0
child_ends : (w : Node) (B : OpenOrExact) (k : ℕ) → (w.rule ≡ pos 2 → (w.by ≡ pos 0) × (B.exact ≡ false)) → child_bound w (two_sided B) k ≡ two_sided (child_one w B k)
unfolding child_bound child_one two_sided
child_ends w B k h =
    ⊎_elim
    (λ q.
    let p = h (eq_z_true w.rule (pos 2) q) in
    if_true (eq_z w.rule (pos 2)) _ _ q
    ∙ ap (λ (K : ℕ). split_bound (two_sided B) K k) (at_least B.L w.by p.0)
    ∙ split_ends B k p.1
    ∙ sym (ap two_sided (if_true (eq_z w.rule (pos 2)) _ _ q)))
    (λ q. if_false (eq_z w.rule (pos 2)) _ _ q ∙ sym (ap two_sided (if_false (eq_z w.rule (pos 2)) _ _ q)))
    (decide (eq_z w.rule (pos 2)))

-- a split that is right with K = L is at an open node
open_of : (B : OpenOrExact) (z : ℤ) → z ≡ pos 0 → Splits (two_sided B) (split_at B.L z) → B.exact ≡ false
unfolding two_sided ends
open_of B z e s =
    ⊎_elim
    (λ x. absurd (omega (arith, s.below_h B.L (ap (λ (v : Bool). ends v B.L) x), at_least B.L z e)))
    (λ x. x)
    (decide B.exact)

implies_same : (a b c : Bool) → (a ≡ true → b ≡ c) → (a implies b) ≡ (a implies c)
unfolding ◌implies◌
implies_same true b c h = h refl
implies_same false b c h = refl

module _ (T : Tableau) (parents : (k : ℕ) → k < T.node_rows → KeepsParent T k) (zeros : (j : ℕ) → j < T.node_rows → (node T j).rule ≡ pos 2 → (node T j).by ≡ pos 0) where
  same_below : (n j : ℕ) → j < n → j < T.node_rows → RightSplits T parents j → bound T j ≡ two_sided (bound_one T j)
  unfolding bound bound_of bound_one node first_bound first_one two_sided ends
  same_below zero j p l splits = absurd (omega arith)
  same_below (suc n) j p l splits =
      ⊎_elim
      (λ b.
      let k : ℕ = nat (node_at T.nodes j).up in
      let m : k < j = below_nat j (node_at T.nodes j).up b in
      let same : bound T k ≡ two_sided (bound_one T k) = same_below n k (omega arith) (omega arith) (λ h q. splits h (omega arith)) in
      inherit_child (first_bound T.least) child_bound T.nodes j b
      ∙ ap (λ (B : Bound). child_bound (node T k) B (rank T.nodes j)) same
      ∙ child_ends (node T k) (bound_one T k) (rank T.nodes j)
      (λ r.
      let z = zeros k (omega arith) r in
      (z, open_of (bound_one T k) (node T k).by z (subst (λ (B : Bound). Splits B (split_at B.L (node T k).by)) same (splits k m r))))
      ∙ sym (ap two_sided (inherit_child (first_one T.least) child_one T.nodes j b)))
      (λ b.
      inherit_first (first_bound T.least) child_bound T.nodes j b
      ∙ sym (ap two_sided (inherit_first (first_one T.least) child_one T.nodes j b)))
      (decide (below j (node_at T.nodes j).up))

  module _ (j : ℕ) (l : j < T.node_rows) (before : (k : ℕ) → k < j → node_by tests_above T k ≡ no_refusal) where
    splits : (i : ℕ) → i < suc j → RightSplits T parents i
    splits i q = splits_above T parents i (λ k p. (above_clears T k (before k (omega arith))).bounds)

    -- up to node j bounds are the same
    same : (i : ℕ) → i < suc j → bound T i ≡ two_sided (bound_one T i)
    same i q = same_below (suc i) i (omega arith) (omega arith) (splits i q)

    same_fields : fields_fit_one T j ≡ fields_fit T j
    unfolding fields_fit_one
    same_fields =
        let by_zero : (of_rule 2 (node T j) implies eq_z (node T j).by (pos 0)) ≡ true =
        (rule_tests 2 (node T j) ⇒ eq_z_tests (node T j).by (pos 0)).1 (zeros j l) in
        same_test _ _ (and_left (fields_fit T j) _) (λ h. and_both _ _ h by_zero)

    -- of a node that is no link
    same_others : of_rule 8 (node T j) ≡ false → bound_fits_one T j ≡ bound_fits T j
    unfolding bound_fits_one bound_fits two_sided is_exact
    same_others not-loop =
        let B : OpenOrExact = bound_one T j in
        let here : bound T j ≡ two_sided B = same j (omega arith) in
        ap₂ ◌and◌
        (implies_same _ _ _ (λ r.
        sym (split_same B (node T j).by (zeros j l ((rule_tests 2 (node T j)).0 r)))
        ∙ ap (λ (C : Bound). split_fits C (split_at C.L (node T j).by)) (sym here)))
        (ap₂ ◌and◌
        (implies_same _ _ _ (λ r. ap (λ (C : Bound). unfold_fits C.L (row T (node T j).on)) (sym here)))
        (ap₂ ◌and◌
        (implies_same _ _ _ (λ r.
        ap (λ (v : Bool). clash_fits v B.L (row T (node T j).on) (row T (node T j).with)) (sym (ends_upper B.exact B.L))
        ∙ ap (λ (C : Bound). clash_fits (is_upper C.H C.L) C.L (row T (node T j).on) (row T (node T j).with)) (sym here)))
        (ap₂ ◌and◌
        (implies_same _ _ _ (λ r.
        sym (ends_void B.exact B.L (row T (node T j).on)) ∙ ap (λ (C : Bound). void_fits C.H (row T (node T j).on)) (sym here)))
        (implies_same _ _ _ (λ r. absurd (true≢false (sym r ∙ not-loop)))))))

    -- of a link
    same_loop : target_above T j ≡ true → (node T j).rule ≡ pos 8 → bound_fits_one T j ≡ bound_above T j
    unfolding bound_fits_one of_rule eq_z ◌and◌ ◌or◌ ◌implies◌ nat two_sided
    same_loop t r =
        let w = (target_above_tests T parents j l).0 t r in
        let i<j : w.0 < j = ancestor_below T parents l w.2 in
        let here : bound T j ≡ two_sided (bound_one T j) = same j (omega arith) in
        let there : bound T (nat (node T j).to) ≡ two_sided (bound_one T (nat (node T j).to)) =
        same (nat (node T j).to) (omega (arith, ap nat w.1)) in
        rw r refl
        ∙ ap₂ (λ (C A : Bound). loop_above C.L A.L (node T j).by) (sym here) (sym there)
        ∙ sym (loop_above_lem T j r)

    same_bounds : target_above T j ≡ true → bound_fits_one T j ≡ bound_above T j
    same_bounds t =
        ⊎_elim
        (λ r. same_loop t ((rule_tests 8 (node T j)).0 r))
        (λ r. same_others r ∙ sym (other_above T j r))
        (decide (of_rule 8 (node T j)))

    same_step : step_by tests_one T j ≡ step_by tests_above T j
    unfolding step_by tests_one tests_above
    same_step =
        otherwise_same _ _ _ (λ d.
        otherwise_first_same _ (ap (λ (v : Bool). at_unless v Fields j) same_fields)
        ∙ otherwise_same _ _ _ (λ f.
        otherwise_same _ _ _ (λ t.
        otherwise_first_same _
        (ap (λ (v : Bool). at_unless v BoundWrong j) (same_bounds ((at_clears Target j (itself (target_above T j))).0 t))))))

    same_node : node_by tests_one T j ≡ node_by tests_above T j
    unfolding node_by
    same_node = otherwise_first_same _ same_step

-- ---- the theorem

-- 02, No. 5: "by 0 stands for K = L, so stored tableaux read as before", for every tableau, whatever its numbers
pub stored_as_before : (T : Tableau) → ((j : ℕ) → j < T.node_rows → (node T j).rule ≡ pos 2 → (node T j).by ≡ pos 0) → check_by tests_above T ≡ check_by tests_one T
unfolding check_by
stored_as_before T zeros =
    ap (λ (x : Finding). verdict_on x T)
    (sym (refusal_by_same tests_one tests_above T (λ parents j l before. same_node T parents zeros j l before)))
