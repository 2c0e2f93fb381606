-- What the earlier passes leave for the judgement of a single node.
use Prim.Native.Nat.{ℕ, zero, suc, ◌+◌, ◌<◌, ◌≤◌}
use native.Mathlib.Omega.{arith}
use native.Mathlib.Numerals.{add-one}
use mathlib.Core.Path.{◌≡◌, refl, sym, ◌∙◌, ap}
use mathlib.Core.Bool.{true, false}
use mathlib.Core.List.{List}
use lib.IntN.{ℤ, pos}
use lib.Signed.{le_z}
use lib.ListN.{get_or}
use Rattle.stab.specs.Basic.{◌and◌, nat, all_of, ascending}
use Rattle.stab.specs.Formula.{tree, loose, is_outer}
use Rattle.stab.specs.Node.{Tableau, node, node_at, set, set_of, set_start, set_end, set_follows, set_fits, parent_fits, rows, row_count, is_row, formula, is_outer_row}
use Rattle.stab.specs.Rule.{of_rule, target_fits}
use Rattle.stab.proofs.Bools.{and_left, and_right, and_both, false_of_not, implies_use}
use Rattle.stab.proofs.Trees.{below_nat}
use Rattle.stab.proofs.Whole.{nat_of}
use Rattle.branch.specs.Lent.{SetHeld, SetOfRows, ChildKnown}
use Rattle.branch.specs.Parents.{up_fits, AllUpFit}
use Rattle.steps.specs.Ready.{Ready}
use Rattle.branch.specs.Sets.{place_fits}
use Rattle.branch.proofs.HeldLaws.{set_length}
use Rattle.branch.proofs.ParentLaws.{parent_less}
use Rattle.sets.proofs.SetLaws.{at_all, place_start, place_next, place_within}
use Rattle.sets.proofs.SetRefusals.{outer_below}

-- ---- sets

-- in an outer row no literal on i stands outside an iteration
outer_loose : (T : Tableau) (z : ℤ) → is_outer_row T z ≡ true → loose (tree (rows T) (nat z)) ≡ false
unfolding is_outer_row is_outer formula
outer_loose T z h = false_of_not _ (and_right (is_row T z) _ h)

module _ (T : Tableau) (facts forms work : List ℕ) (ready : Ready T facts forms work) where
  placed : (j : ℕ) → j < T.node_rows → place_fits T.nodes T.member_count j ≡ true
  unfolding place_fits set_fits
  placed j p =
      and_both _ _ (and_left _ _ (ready.sets j p)) (and_left _ _ (and_right (set_follows T.nodes j) _ (ready.sets j p)))

  -- each set starts at a natural number
  starts : (j : ℕ) → j ≤ T.node_rows → (from : ℕ) × (set_start T.nodes j ≡ pos from)
  unfolding set_start
  starts zero p = (0, refl)
  starts (suc j) p =
      let r = starts j (omega arith) in
      (r.0 + nat (node_at T.nodes j).size, ap (set_start T.nodes) (sym (add-one j)) ∙ place_next T.nodes T.member_count j r.0 r.1 (placed j (omega arith)))

  listed : (j : ℕ) → j < T.node_rows → (ascending (set T j) and all_of (is_outer_row T) (set T j)) ≡ true
  unfolding set_fits
  listed j p =
      and_right (le_z (set_end T.nodes j) (pos T.member_count)) _ (and_right (set_follows T.nodes j) _ (ready.sets j p))

  pub set_held_lem : (j : ℕ) → j < T.node_rows → SetHeld T.nodes T.members j
  unfolding set node
  set_held_lem j p =
      let r = starts j (omega arith) in
      record {
        within =
            omega (
              arith,
              nat_of (node_at T.nodes j).start r.0 (place_start T.nodes T.member_count j r.0 r.1 (placed j p)),
              place_within T.nodes T.member_count j r.0 r.1 (placed j p),
              ready.members_held,
            );
        up = and_left _ _ (listed j p);
      }

  outer_at : (j : ℕ) → j < T.node_rows → (i : ℕ) → i < nat (node_at T.nodes j).size → is_outer_row T (get_or (set_of T.members (node_at T.nodes j)) i (pos 0)) ≡ true
  unfolding set node
  outer_at j p i q =
      at_all (is_outer_row T) (pos 0) (set T j) (and_right (ascending (set T j)) _ (listed j p)) i (omega (arith, set_length T.nodes T.members j (set_held_lem j p)))

  pub set_of_rows_lem : (j : ℕ) → j < T.node_rows → SetOfRows (rows T) T.nodes T.members (row_count T) j
  set_of_rows_lem j p =
      record {
        held = set_held_lem j p;
        named = λ i q. outer_below T _ (outer_at j p i q);
        outer = λ i q. outer_loose T _ (outer_at j p i q);
      }

  -- ---- parents

  ups : AllUpFit T.nodes T.node_rows
  unfolding parent_fits up_fits node
  ups zero p = and_left _ _ (ready.parents zero p)
  ups (suc j) p = ready.parents (suc j) p

  pub child_known_lem : (j : ℕ) → 0 < j → j < T.node_rows → ChildKnown T.nodes T.members work j
  child_known_lem j q p =
      record {
        own = set_held_lem j p;
        above = set_held_lem _ (omega (arith, parent_less T.nodes j (ups j p) q));
        rank = (ready.worked j p).rank;
      }

-- ---- targets

-- the target of a link that fits has a smaller number
pub target_less : (T : Tableau) (j : ℕ) → target_fits T j ≡ true → of_rule 8 (node T j) ≡ true → nat (node T j).to < j
unfolding target_fits
target_less T j h e = below_nat j (node T j).to (implies_use _ _ h e)
