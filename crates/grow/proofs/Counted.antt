-- The children of each node, counted one node after another.
use Prim.Native.Nat.{ℕ, zero, suc, ◌<◌, ◌≤◌}
use native.Mathlib.Omega.{arith}
use Rattle.std.specs.Bool.{MatchBool}
use mathlib.Core.Path.{◌≡◌, refl, sym, ◌∙◌, ap, ap₂}
use mathlib.Core.Logic.{⊎_elim}
use mathlib.Core.Bool.{Bool, true, false}
use lib.Dec.{eqb, ltb}
use Rattle.stab.specs.Basic.{◌and◌, count}
use Rattle.stab.specs.Node.{Tableau, child_count, child_count_of, node}
use Rattle.stab.specs.Rule.{rule, of_rule, children_fit}
use Rattle.stab.specs.Check.{is_link, link_count}
use Rattle.stab.specs.declared.Rule.{Rule}
use Rattle.stab.proofs.Bools.{and_both, and_first_false, and_second_false}
use Rattle.stab.proofs.Scans.{below_suc}
use Rattle.tidied.proofs.Agreeing.{count_same}
use Rattle.growing.proofs.Held.{rule_same, counted_same}
use Rattle.growing.specs.Complete.{children_all, complete}
use Rattle.growing.specs.Growing.{held_rows}
use Rattle.grow.specs.State.{nodes_only, shown}
use Rattle.grow.proofs.Same.{Agree}

all_make : (T : Tableau) (k : ℕ) → ((j : ℕ) → j < k → children_fit T j ≡ true) → children_all T k ≡ true
unfolding children_all
all_make T zero h = refl
all_make T (suc k) h = and_both _ _ (all_make T k (λ j l. h j (omega arith))) (h k (omega arith))

pub all_stops : (T : Tableau) (k j : ℕ) → j < k → children_fit T j ≡ false → children_all T k ≡ false
unfolding children_all
all_stops T zero j h f = absurd (omega arith)
all_stops T (suc k) j h f =
    ⊎_elim
    (λ l. and_first_false (children_all T k) _ (all_stops T k j l f))
    (λ e. and_second_false (children_all T k) _ (ap (children_fit T) (sym e) ∙ f))
    (below_suc j k h)

-- each was asked and fits, or one was found that does not
pub all_asked : (T : Tableau) (k : ℕ) (fits : ℕ → Bool) → ((j : ℕ) → j < k → fits j ≡ children_fit T j) → (r : Bool) → MatchBool r ((j : ℕ) → j < k → fits j ≡ true) ((j : ℕ) × (j < k) × (fits j ≡ false)) → r ≡ children_all T k
all_asked T k fits same true h = sym (all_make T k (λ j l. sym (same j l) ∙ h j l))
all_asked T k fits same false h = sym (all_stops T k h.0 h.1 (sym (same h.0 h.1) ∙ h.2))

-- two states that agree in the rows held
module _ {S T : Tableau} (G : Agree S T) where
  fit_same : (j : ℕ) → j < S.node_rows → children_fit T j ≡ children_fit S j
  unfolding children_fit child_count
  fit_same j h =
      ap₂ eqb (ap (λ (n : ℕ). child_count_of T.nodes n j) G.node_rows ∙ counted_same G.alike j S.node_rows (omega arith)) (ap (λ (r : Rule). r.children) (rule_same G.alike j h))

  all_same : (j : ℕ) → j ≤ S.node_rows → children_all T j ≡ children_all S j
  unfolding children_all
  all_same zero h = refl
  all_same (suc j) h = ap₂ ◌and◌ (all_same j (omega arith)) (fit_same j h)

  pub complete_same : complete T ≡ complete S
  unfolding complete
  complete_same =
      ap₂ ◌and◌ (ap (ltb 0) G.node_rows) (ap (children_all T) G.node_rows ∙ all_same S.node_rows (omega arith))

  pub links_same : link_count T ≡ link_count S
  unfolding link_count is_link node
  links_same =
      ap (count (is_link T.nodes)) G.node_rows ∙ count_same _ _ S.node_rows (λ j l. ap (of_rule 8) (G.alike.node j l))

-- the nodes tell it alone
all_alone : (T : Tableau) (j : ℕ) → children_all (nodes_only T.nodes T.node_rows) j ≡ children_all T j
unfolding children_all children_fit child_count rule node
all_alone T zero = refl
all_alone T (suc j) = ap (λ (b : Bool). b and children_fit T j) (all_alone T j)

pub complete_alone : (T : Tableau) → complete (nodes_only T.nodes T.node_rows) ≡ complete T
unfolding complete
complete_alone T = ap (λ (b : Bool). ltb 0 T.node_rows and b) (all_alone T T.node_rows)

pub shown_alone : (T : Tableau) → shown T.nodes T.node_rows ≡ held_rows T.node_rows (link_count T) (complete T)
unfolding shown link_count
shown_alone T = ap (held_rows T.node_rows (link_count T)) (complete_alone T)
