-- The nodes of the joined record: node 0, the first's, the second's.
use Prim.Native.Nat.{ℕ, zero, suc, ◌+◌, ◌*◌, ◌-◌, ◌<◌, ◌≤◌}
use native.Mathlib.Omega.{arith}
use mathlib.Core.Path.{◌≡◌, refl, sym, ◌∙◌, ap}
use mathlib.Core.Logic.{◌⊎◌, inl, inr, ⊎_elim}
use mathlib.Core.Bool.{false}
use mathlib.Core.List.{List, ◌++◌}
use lib.IntN.{ℤ, pos, ◌+ℤ◌, pos-ne-negsuc}
use lib.Signed.{le_z}
use lib.ListN.{length, take, drop, length-append}
use Rattle.stab.specs.Basic.{eq_z, nat}
use Rattle.stab.specs.Node.{Tableau, Node, rows, node_at, node, set_of, set, names, child_count, bound_of, bound}
use Rattle.stab.specs.Rule.{unused}
use Rattle.stab.specs.Keeps.{KeepsSet, KeepsParent}
use Rattle.stab.proofs.Bools.{if_true}
use Rattle.stab.proofs.Whole.{num, le_of, eq_z_not, pos_injective}
use Rattle.stab.proofs.Formed.{formed_tests}
use Rattle.tidied.proofs.Tidying.{KeepsRules}
use Rattle.tidied.proofs.Tables.{node_at_front, start_pos, set_within}
use Rattle.tidied.proofs.Carried.{Carries, AllCarried}
use Rattle.joint.specs.Joint.{or_row, of_first, of_second, parent_of, further, moved_nodes, first_node, joint_nodes, moved_members, joint_members, untidied}
use Rattle.joint.proofs.Lists.{node_at_after, moved_of, moved_nodes_length, moved_node_lem, moved_member, moved_source}
use Rattle.joint.proofs.Rows.{first_moves, second_moves, first_fits, second_fits}
use Rattle.joint.proofs.Blocks.{parent_pos, parent_none, up_cases, Block, children_moved, bound_moved}
use Rattle.joint.proofs.Sets.{first_slice, second_slice}

-- a node's number, d further on
pub further_pos : (d q : ℕ) → further d (pos q) ≡ pos (d + q)
unfolding further
further_pos d q =
    let e : q + d ≡ d + q = omega arith in
    if_true (le_z (pos 0) (pos q)) _ _ (le_of (num 0) (num q) (omega arith)) ∙ ap pos e

further_none : (d : ℕ) → further d unused ≡ unused
unfolding further unused
further_none d = refl

module _ (A B : Tableau) where
  MA : List ℤ
  MA = moved_nodes (of_first A B) 1 1 A A.node_rows

  MB : List ℤ
  MB = moved_nodes (of_second A B) (suc A.node_rows) (suc A.member_count) B B.node_rows

  front_length : length (first_node A B ++ MA) ≡ 9 * suc A.node_rows
  unfolding MA first_node
  front_length = length-append (first_node A B) MA ∙ omega (arith, moved_nodes_length (of_first A B) 1 1 A A.node_rows)

  -- rule 1 on the or
  pub node_zero : node (untidied A B) 0 ≡ record { up = unused; rule = pos 1; on = pos (or_row A B); with = unused; other = unused; to = unused; by = pos 0; start = pos 0; size = pos 1 }
  unfolding node untidied joint_nodes MA MB first_node node_at unused
  node_zero =
      node_at_front (first_node A B ++ MA) MB 0 (omega (arith, front_length))
      ∙ node_at_front (first_node A B) MA 0 (omega arith)

  pub node_first : (j : ℕ) → j < A.node_rows → node (untidied A B) (1 + j) ≡ moved_of (of_first A B) 1 1 A j
  unfolding node untidied joint_nodes MA MB first_node
  node_first j h =
      node_at_front (first_node A B ++ MA) MB (1 + j) (omega (arith, front_length))
      ∙ node_at_after (first_node A B) MA 1 j refl
      ∙ moved_node_lem (of_first A B) 1 1 A A.node_rows j h

  pub node_second : (j : ℕ) → j < B.node_rows → node (untidied A B) (suc A.node_rows + j) ≡ moved_of (of_second A B) (suc A.node_rows) (suc A.member_count) B j
  unfolding node untidied joint_nodes MA MB
  node_second j h =
      node_at_after (first_node A B ++ MA) MB (suc A.node_rows) j front_length
      ∙ moved_node_lem (of_second A B) (suc A.node_rows) (suc A.member_count) B B.node_rows j h

  module _ (KA : KeepsRules A) (KB : KeepsRules B) where
    parents_a : (j : ℕ) → j < A.node_rows → KeepsParent A j
    parents_a j h = (KA.nodes j h).parent

    parents_b : (j : ℕ) → j < B.node_rows → KeepsParent B j
    parents_b j h = (KB.nodes j h).parent

    sets_a : (j : ℕ) → j < A.node_rows → KeepsSet A j
    sets_a j h = (KA.nodes j h).set

    sets_b : (j : ℕ) → j < B.node_rows → KeepsSet B j
    sets_b j h = (KB.nodes j h).set

    -- ---- which nodes name which

    -- the first's nodes have parents up to its number of nodes, the second's have node 0 or later ones
    first_up : (j : ℕ) → j < A.node_rows → (q : ℕ) × (q ≤ A.node_rows) × ((node (untidied A B) (1 + j)).up ≡ pos q)
    unfolding moved_of node
    first_up j h =
        let u = ap (λ (w : Node). w.up) (node_first j h) in
        ⊎_elim
        (λ e. (0, omega arith, u ∙ ap (parent_of 1) e ∙ parent_none 1))
        (λ (q, l, e). (1 + q, omega arith, u ∙ ap (parent_of 1) e ∙ parent_pos 1 q))
        (up_cases A j (parents_a j h))

    second_up : (j : ℕ) → j < B.node_rows → ((node (untidied A B) (suc A.node_rows + j)).up ≡ pos 0) ⊎ ((q : ℕ) × ((node (untidied A B) (suc A.node_rows + j)).up ≡ pos (suc A.node_rows + q)))
    unfolding moved_of node
    second_up j h =
        let d = suc A.node_rows in
        let u = ap (λ (w : Node). w.up) (node_second j h) in
        ⊎_elim
        (λ e. inl (u ∙ ap (parent_of d) e ∙ parent_none d))
        (λ (q, l, e). inr (q, u ∙ ap (parent_of d) e ∙ parent_pos d q))
        (up_cases B j (parents_b j h))

    zero_named : (p : ℕ) → names (untidied A B).nodes (pos p) 0 ≡ false
    unfolding names node untidied unused
    zero_named p = ap (λ (w : Node). eq_z w.up (pos p)) node_zero ∙ eq_z_not _ _ (λ e. pos-ne-negsuc p 0 (sym e))

    named_not : (i p q : ℕ) → (node (untidied A B) i).up ≡ pos q → (q ≡ p → ⊥) → names (untidied A B).nodes (pos p) i ≡ false
    unfolding names node
    named_not i p q e n = ap (λ (z : ℤ). eq_z z (pos p)) e ∙ eq_z_not _ _ (λ x. n (pos_injective q p x))

    pub block_a : Block (untidied A B).nodes A 1 (suc (A.node_rows + B.node_rows))
    unfolding node moved_of
    block_a = record {
      further = omega arith;
      inside = omega arith;
      parents = parents_a;
      up = λ j h. ap (λ (w : Node). w.up) (node_first j h);
      rule = λ j h. ap (λ (w : Node). w.rule) (node_first j h);
      by = λ j h. ap (λ (w : Node). w.by) (node_first j h);
      zero_rule = ap (λ (w : Node). w.rule) node_zero;
      zero_up = ap (λ (w : Node). w.up) node_zero;
      before = λ i p h. let e : i ≡ 0 = omega arith in rw e (zero_named (1 + p));
      after = λ i p l h g.
          let j : ℕ = i - suc A.node_rows in
          let e : i ≡ suc A.node_rows + j = omega arith in
          let m : j < B.node_rows = omega arith in
          rw e (⊎_elim (λ u. named_not (suc A.node_rows + j) (1 + p) 0 u (λ x. omega arith)) (λ u. named_not (suc A.node_rows + j) (1 + p) (suc A.node_rows + u.0) u.1 (λ x. omega arith)) (second_up j m));
    }

    pub block_b : Block (untidied A B).nodes B (suc A.node_rows) (suc (A.node_rows + B.node_rows))
    unfolding node moved_of
    block_b = record {
      further = omega arith;
      inside = omega arith;
      parents = parents_b;
      up = λ j h. ap (λ (w : Node). w.up) (node_second j h);
      rule = λ j h. ap (λ (w : Node). w.rule) (node_second j h);
      by = λ j h. ap (λ (w : Node). w.by) (node_second j h);
      zero_rule = ap (λ (w : Node). w.rule) node_zero;
      zero_up = ap (λ (w : Node). w.up) node_zero;
      before = λ i p h. below_it i p h;
      after = λ i p l h g. absurd (omega arith);
    }
      where
        below_it : (i p : ℕ) → i < suc A.node_rows → names (untidied A B).nodes (pos (suc A.node_rows + p)) i ≡ false
        below_it zero p h = zero_named (suc A.node_rows + p)
        below_it (suc j) p h =
            let u = first_up j (omega arith) in
            let e : suc j ≡ 1 + j = omega arith in
            rw e (named_not (1 + j) (suc A.node_rows + p) u.0 u.2 (λ x. omega (arith, u.1)))

    module _ (held_a : A.member_count ≤ length A.members) (held_b : B.member_count ≤ length B.members) where
      pub set_first : (j : ℕ) → j < A.node_rows → set (untidied A B) (1 + j) ≡ moved_members (of_first A B) (set A j)
      unfolding set set_of moved_of untidied nat
      set_first j h =
          let a = nat (node A j).start in
          let c = nat (node A j).size in
          let e : a + 1 ≡ suc a = omega arith in
          ap (λ (w : Node). take (nat w.size) (drop (nat w.start) (joint_members A B))) (node_first j h)
          ∙ ap (λ (z : ℤ). take c (drop (nat (z +ℤ pos 1)) (joint_members A B))) (start_pos A sets_a j h)
          ∙ ap (λ (k : ℕ). take c (drop k (joint_members A B))) e
          ∙ first_slice A B held_a held_b a c (set_within A sets_a j h)

      pub set_second : (j : ℕ) → j < B.node_rows → set (untidied A B) (suc A.node_rows + j) ≡ moved_members (of_second A B) (set B j)
      unfolding set set_of moved_of untidied nat
      set_second j h =
          let a = nat (node B j).start in
          let c = nat (node B j).size in
          let m = suc A.member_count in
          let e : a + m ≡ m + a = omega arith in
          ap (λ (w : Node). take (nat w.size) (drop (nat w.start) (joint_members A B))) (node_second j h)
          ∙ ap (λ (z : ℤ). take c (drop (nat (z +ℤ pos m)) (joint_members A B))) (start_pos B sets_b j h)
          ∙ ap (λ (k : ℕ). take c (drop k (joint_members A B))) e
          ∙ second_slice A B held_a held_b a c (set_within B sets_b j h)

      first_carries : (j : ℕ) → j < A.node_rows → Carries A (untidied A B) (of_first A B) j (1 + j)
      unfolding moved_of bound child_count untidied node
      first_carries j h =
          let e = node_first j h in
          record {
            rule = ap (λ (w : Node). w.rule) e;
            on = ap (λ (w : Node). w.on) e;
            with = ap (λ (w : Node). w.with) e;
            other = ap (λ (w : Node). w.other) e;
            by = ap (λ (w : Node). w.by) e;
            unused_to = λ u. ap (λ (w : Node). w.to) e ∙ ap (further 1) u ∙ further_none 1;
            members = λ z m. rw (set_first j h) (moved_member (of_first A B) (set A j) z m);
            sources = λ z m. moved_source (of_first A B) (set A j) z (rw (set_first j h) at m);
            bound = bound_moved block_a A.least j h;
            children = children_moved block_a j h;
          }

      second_carries : A.least ≡ B.least → (j : ℕ) → j < B.node_rows → Carries B (untidied A B) (of_second A B) j (suc A.node_rows + j)
      unfolding moved_of bound child_count untidied node
      second_carries s j h =
          let e = node_second j h in
          record {
            rule = ap (λ (w : Node). w.rule) e;
            on = ap (λ (w : Node). w.on) e;
            with = ap (λ (w : Node). w.with) e;
            other = ap (λ (w : Node). w.other) e;
            by = ap (λ (w : Node). w.by) e;
            unused_to = λ u. ap (λ (w : Node). w.to) e ∙ ap (further (suc A.node_rows)) u ∙ further_none (suc A.node_rows);
            members = λ z m. rw (set_second j h) (moved_member (of_second A B) (set B j) z m);
            sources = λ z m. moved_source (of_second A B) (set B j) z (rw (set_second j h) at m);
            bound = bound_moved block_b A.least j h ∙ ap (λ (l : ℤ). bound_of B.nodes l j) s;
            children = children_moved block_b j h;
          }

      pub first_carried : AllCarried A (untidied A B) (of_first A B) (λ j. 1 + j)
      unfolding moved_of
      first_carried = record {
        moves = first_moves A B;
        fits = first_fits A B;
        formed = λ r h. (formed_tests (rows A) r).1 (KA.formulas.each r h).formed;
        each = first_carries;
        later = λ i j h. omega arith;
        to = λ i j h l e. ap (λ (w : Node). w.to) (node_first j h) ∙ ap (further 1) e ∙ further_pos 1 i;
      }

      pub second_carried : A.least ≡ B.least → AllCarried B (untidied A B) (of_second A B) (λ j. suc A.node_rows + j)
      unfolding moved_of
      second_carried s = record {
        moves = second_moves A B;
        fits = second_fits A B;
        formed = λ r h. (formed_tests (rows B) r).1 (KB.formulas.each r h).formed;
        each = second_carries s;
        later = λ i j h. omega arith;
        to = λ i j h l e. ap (λ (w : Node). w.to) (node_second j h) ∙ ap (further (suc A.node_rows)) e ∙ further_pos (suc A.node_rows) i;
      }
