-- What the check with links to proper ancestors accepts, the check with links to any node before accepts too, with the same counts.
use Prim.Native.Nat.{ℕ, ◌<◌}
use native.Mathlib.Omega.{arith}
use mathlib.Core.Path.{◌≡◌, refl, sym, ◌∙◌, ap, subst}
use mathlib.Core.Logic.{⊎_elim}
use mathlib.Core.Bool.{true, false, true≢false}
use lib.Dec.{eqb}
use lib.IntN.{ℤ, pos}
use lib.Signed.{◌≤ℤ◌}
use Rattle.stab.specs.Basic.{eq_z, nat}
use Rattle.stab.specs.Node.{Tableau, Bound, node, bound}
use Rattle.stab.specs.Rule.{entry, rule_table, rule_of, rule, of_rule, drawn, fields_fit, target_fits, loop_fits, bound_fits, partners_fit, lowered_fits, children_fit, children_as}
use Rattle.stab.specs.Check.{node_refusal, step_refusal, refusal, older_mode, verdict, verdict_on, check_older, link_count}
use Rattle.stab.specs.Before.{step_by, node_by, refusal_by, check_by, tests_now, Ancestor, parent, further, target_above, loop_above, bound_above, tests_above}
use Rattle.stab.specs.Keeps.{KeepsParent}
use Rattle.stab.specs.declared.Refusal.TheVariants.{Drawn, Fields, Target, Bound as BoundWrong, Partner, Lowered, Children}
use Rattle.stab.specs.Finding.{accept, no_refusal}
use Rattle.stab.proofs.Bools.{decide, if_true, if_false}
use Rattle.stab.proofs.Whole.{atom, num, ◌⊖◌, of_le, le_of, le_z_of, of_le_z, eq_z_true, eq_z_of}
use Rattle.stab.proofs.Tests.{◌tests◌, ◌⇒◌, itself, at_clears, ◌then◌}
use Rattle.stab.proofs.Bounds.{parent_below}
use Rattle.stab.proofs.Ranges.{Inside, RightSplits, parent_inside}
use Rattle.stab.proofs.Ancestors.{ancestor_below, ancestor_tests}
use Rattle.stab.proofs.Exactness.Checked.{refusal_by_kept}
use Rattle.stab.proofs.Exactness.Refusals.{accepted}
use Rattle.stab.proofs.Exactness.Steps.{rule_tests, fields_tests, target_tests, loop_tests, bound_tests}

-- with its own tests it is the older check
pub with_own_tests : (T : Tableau) → check_by tests_now T ≡ check_older T
unfolding check_by refusal_by node_by step_by tests_now check_older refusal older_mode node_refusal step_refusal children_as
with_own_tests T = refl

-- a loop uses to and by
pub link_used_lem : (T : Tableau) (j : ℕ) → (node T j).rule ≡ pos 8 → (rule T j).link ≡ true
unfolding rule rule_of rule_table entry nat
link_used_lem T j r = ap (λ (z : ℤ). (rule_of z).link) r

-- ---- ranges of ancestors

inside_trans : {C B A : Bound} → Inside C B → Inside B A → Inside C A
inside_trans {C} {B} {A} i k = record {
  lower = omega (arith, i.lower, k.lower);
  upper = λ H e.
      let g = k.upper H e in
      let f = i.upper g.0 g.1 in
      (f.0, f.1, omega (arith, f.2, g.2));
}

module _ (T : Tableau) (parents : (k : ℕ) → k < T.node_rows → KeepsParent T k) where
  -- a node's range lies within its ancestors'
  pub ancestor_inside : {i : ℕ} (j : ℕ) → j < T.node_rows → RightSplits T parents j → Ancestor T.nodes i j → Inside (bound T j) (bound T i)
  ancestor_inside {i = i} j l splits (parent e) = parent_inside T parents j i l splits e
  ancestor_inside {i = i} j l splits (further {k = k} e a) =
      let m : k < j = parent_below T j k (parents j l) e in
      inside_trans (parent_inside T parents j k l splits e) (ancestor_inside {i = i} k (omega arith) (λ h p. splits h (omega arith)) a)

  -- ---- what the tests of 13 and 14 say

  pub target_above_tests : (j : ℕ) → j < T.node_rows → target_above T j tests ((node T j).rule ≡ pos 8 → (i : ℕ) × ((node T j).to ≡ pos i) × Ancestor T.nodes i j)
  unfolding target_above
  target_above_tests j l = rule_tests 8 (node T j) ⇒ ancestor_tests T parents (node T j).to j l

-- what the tests of a node say, in their order
pub record Above (T : Tableau) (j : ℕ) : Type 0 where
  drawn : drawn T j ≡ true
  fields : fields_fit T j ≡ true
  target : target_above T j ≡ true
  pub bounds : bound_above T j ≡ true
  partners : partners_fit T j ≡ true
  lowered : lowered_fits T j ≡ true
  children : children_fit T j ≡ true

pub above_clears : (T : Tableau) (j : ℕ) → node_by tests_above T j ≡ no_refusal → Above T j
unfolding node_by step_by tests_above
above_clears T j h =
    let p =
    ((at_clears Drawn j (itself (drawn T j)) then
    at_clears Fields j (itself (fields_fit T j)) then
    at_clears Target j (itself (target_above T j)) then
    at_clears BoundWrong j (itself (bound_above T j)) then
    at_clears Partner j (itself (partners_fit T j)) then
    at_clears Lowered j (itself (lowered_fits T j))) then
    at_clears Children j (itself (children_fit T j))).0 h in
    record {
      drawn = p.0.0;
      fields = p.0.1.0;
      target = p.0.1.1.0;
      bounds = p.0.1.1.1.0;
      partners = p.0.1.1.1.1.0;
      lowered = p.0.1.1.1.1.1;
      children = p.1;
    }

pub loop_above_lem : (T : Tableau) (j : ℕ) → (node T j).rule ≡ pos 8 → bound_above T j ≡ loop_above (bound T j).L (bound T (nat (node T j).to)).L (node T j).by
unfolding bound_above of_rule
loop_above_lem T j r = if_true _ _ _ (eq_z_of (node T j).rule (pos 8) r)

pub other_above : (T : Tableau) (j : ℕ) → of_rule 8 (node T j) ≡ false → bound_above T j ≡ bound_fits T j
unfolding bound_above
other_above T j r = if_false _ _ _ r

-- a node has one rule
one_rule : (z : ℤ) (a b : ℕ) → eqb a b ≡ false → z ≡ pos a → z ≡ pos b → ⊥
unfolding eq_z
one_rule z a b f e d = true≢false (sym (eq_z_of (pos a) (pos b) (sym e ∙ d)) ∙ f)

loop_alone : (T : Tableau) (j : ℕ) → (node T j).rule ≡ pos 8 → loop_fits (bound T j) (bound T (nat (node T j).to)) (node T j).by ≡ true → bound_fits T j ≡ true
loop_alone T j r h =
    (bound_tests T j).1
    (record {
      split = λ e. absurd (one_rule (node T j).rule 8 2 refl r e);
      unfolds = λ e. absurd (⊎_elim (one_rule (node T j).rule 8 3 refl r) (one_rule (node T j).rule 8 4 refl r) e);
      clash = λ e. absurd (one_rule (node T j).rule 8 6 refl r e);
      void = λ e. absurd (one_rule (node T j).rule 8 7 refl r e);
      loop = λ e. (loop_tests (bound T j) (bound T (nat (node T j).to)) (node T j).by).0 h;
    })

-- the K of splits is right where nothing is found
pub splits_above : (T : Tableau) (parents : (k : ℕ) → k < T.node_rows → KeepsParent T k) (j : ℕ) → ((k : ℕ) → k < j → bound_above T k ≡ true) → RightSplits T parents j
unfolding of_rule eq_z
splits_above T parents j found k p r =
    let other : of_rule 8 (node T k) ≡ false = ap (λ (z : ℤ). eq_z z (pos 8)) r in
    ((bound_tests T k).0 (sym (other_above T k other) ∙ found k p)).split r

-- ---- nothing is found

module _ (T : Tableau) (parents : (k : ℕ) → k < T.node_rows → KeepsParent T k) (found : (k : ℕ) → k < T.node_rows → Above T k) (j : ℕ) (l : j < T.node_rows) where
  target_kept : target_fits T j ≡ true
  target_kept =
      (target_tests T j).1 (λ r.
      let w = (target_above_tests T parents j l).0 (found j l).target r in
      (w.0, w.1, ancestor_below T parents l w.2))

  -- a link's lowered upper bound is at or below its ancestor's
  loop_kept : (node T j).rule ≡ pos 8 → loop_fits (bound T j) (bound T (nat (node T j).to)) (node T j).by ≡ true
  unfolding loop_above nat
  loop_kept r =
      let w = (target_above_tests T parents j l).0 (found j l).target r in
      let e : nat (node T j).to ≡ w.0 = ap nat w.1 in
      let k≥1 : pos 1 ≤ℤ (node T j).by = ((fields_tests T j).0 (found j l).fields).link.0 (link_used_lem T j r) in
      let inside : Inside (bound T j) (bound T (nat (node T j).to)) =
      subst (λ (m : ℕ). Inside (bound T j) (bound T m)) (sym e)
      (ancestor_inside T parents j l (splits_above T parents j (λ k p. (found k (omega arith)).bounds)) w.2) in
      (loop_tests (bound T j) (bound T (nat (node T j).to)) (node T j).by).1 (
        of_le_z (sym (loop_above_lem T j r) ∙ (found j l).bounds),
        λ A q.
            let g = inside.upper A q in
            (g.0, g.1, of_le_z (le_of (num g.0 ⊖ atom (node T j).by) (num A) (omega (arith, g.2, of_le (num 1) (atom (node T j).by) (le_z_of k≥1))))),
      )

  bounds_kept : bound_fits T j ≡ true
  unfolding of_rule
  bounds_kept =
      ⊎_elim
      (λ r. loop_alone T j (eq_z_true (node T j).rule (pos 8) r) (loop_kept (eq_z_true (node T j).rule (pos 8) r)))
      (λ r. sym (other_above T j r) ∙ (found j l).bounds)
      (decide (of_rule 8 (node T j)))

  node_kept : node_refusal true T j ≡ no_refusal
  unfolding node_refusal step_refusal children_as
  node_kept =
      ((at_clears Drawn j (itself (drawn T j)) then
      at_clears Fields j (itself (fields_fit T j)) then
      at_clears Target j (itself (target_fits T j)) then
      at_clears BoundWrong j (itself (bound_fits T j)) then
      at_clears Partner j (itself (partners_fit T j)) then
      at_clears Lowered j (itself (lowered_fits T j))) then
      at_clears Children j (itself (children_fit T j))).1 (
        ((found j l).drawn, ((found j l).fields, (target_kept, (bounds_kept, ((found j l).partners, (found j l).lowered))))),
        (found j l).children,
      )

-- ---- the theorem

-- 02, No. 6: tableaux that were accepted are accepted, with the same counts, whatever their numbers
pub ancestor_links_accepted : (T : Tableau) (n l : ℕ) → check_by tests_above T ≡ accept n l → check_older T ≡ accept n l
unfolding check_by check_older verdict_on verdict
ancestor_links_accepted T n l h =
    let a =
    accepted (refusal_by tests_above T) T.node_rows (link_count T) n l h in
    rw (refusal_by_kept tests_above T (λ parents found j m. node_kept T parents (λ k p. above_clears T k (found k p)) j m) a.0, a.1, a.2)
