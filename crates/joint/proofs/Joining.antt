-- 02, No. 11: what the check accepts of either record, it accepts of the join, with the links of both.
use Prim.Native.Nat.{ℕ, zero, suc, ◌+◌, ◌-◌, ◌<◌, ◌≤◌}
use native.Mathlib.Omega.{arith}
use mathlib.Core.Path.{◌≡◌, refl, sym, ◌∙◌, ap, ap₂, subst}
use mathlib.Core.Logic.{◌⊎◌, inl, inr, ⊎_elim}
use mathlib.Core.Bool.{true, false, false≢true}
use mathlib.Core.List.Memᴰ
use mathlib.Core.List.{List, [], ◌∷◌, Memᴰ}
use lib.IntN.{ℤ, pos, ◌+ℤ◌, pos-ne-negsuc}
use lib.ListN.{length, take, drop}
use Rattle.stab.specs.Basic.{eq_z, nat, below, count}
use Rattle.stab.specs.Formula.{Row, disj, kind_of, join, tree, well_formed, size, depth}
use Rattle.stab.specs.Node.{Tableau, Node, rows, row_count, row, formula, node_at, node, set_of, set, set_start, set_end, names, child_count_of, child_count, rank}
use Rattle.stab.specs.Rule.{unused, entry, rule_table, rule_of, rule, of_rule, one_of, given}
use Rattle.stab.specs.Keeps.{Below, Outer, Ascending, FormedAs, KeepsRow, OuterRow, KeepsSet, KeepsParent, KeepsDrawn, DrawnFrom, KeepsStep, KeepsNode}
use Rattle.stab.specs.declared.Rule.{Rule}
use Rattle.stab.proofs.Whole.{atom, num, ◌⊕◌, of_le, le_of, lt_of, of_lt, eq_of, le_z_of, of_le_z, lt_z_of, of_lt_z, eq_z_not, pos_injective, plus_nat, nonneg_minus}
use Rattle.stab.proofs.Trees.{below_nat, below_pos, below_of, below_more}
use Rattle.stab.proofs.Tests.{below_tests}
use Rattle.stab.proofs.Scans.{count_false}
use Rattle.stab.proofs.Formed.{formed_tests}
use Rattle.stab.proofs.Decoded.{kind_5, junction_tree}
use Rattle.tidied.specs.Tidied.{through}
use Rattle.tidied.proofs.Moves.{through_below, tree_moved, formed_moved}
use Rattle.tidied.proofs.Foldings.{schema_or_proof}
use Rattle.tidied.proofs.Tidying.{KeepsRules}
use Rattle.tidied.proofs.Carried.{AllCarried, formula_same, outer_carried, step_carried, drawn_carried}
use Rattle.joint.specs.Joint.{schema_count, or_row, of_first, of_second, the_or, parent_of, moved_members, joint_members, untidied}
use Rattle.joint.proofs.Lists.{moved_of, count_add, count_one}
use Rattle.joint.proofs.Rows.{first_schema_lem, second_schema_lem, first_order, second_order, or_is, Whose, first, second, theirs, whose, first_moves, second_moves}
use Rattle.joint.proofs.Blocks.{parent_pos, parent_none, up_cases, rank_moved}
use Rattle.joint.proofs.Nodes.{node_zero, node_first, node_second, block_a, block_b, set_first, set_second, first_carried, second_carried}

-- ---- ascending sets stay ascending where new numbers keep the order

moved_ascends : (new : ℕ → ℕ) (n : ℕ) → ((q r : ℕ) → q < r → new q < new r) → (xs : List ℤ) → ((z : ℤ) → Memᴰ z xs → Below n z) → Ascending xs → Ascending (moved_members new xs)
unfolding moved_members
moved_ascends new n order [] numbers a = tt
moved_ascends new n order (x ∷ []) numbers a = tt
moved_ascends new n order (x ∷ (y ∷ ys)) numbers a = (
  of_lt_z
      (rw (step x (numbers x (Memᴰ.head refl)), step y (numbers y (Memᴰ.tail (Memᴰ.head refl))))
      (lt_of (num (new (nat x))) (num (new (nat y))) (omega (arith, order (nat x) (nat y) smaller)))),
  moved_ascends new n order (y ∷ ys) (λ z m. numbers z (Memᴰ.tail m)) a.1,
)
  where
    step : (z : ℤ) → Below n z → through new z ≡ pos (new (nat z))
    step z b = through_below new n z ((below_tests n z).1 b)

    smaller : nat x < nat y
    smaller =
        omega (
          arith,
          of_lt (atom x) (atom y) (lt_z_of a.0),
          plus_nat x,
          plus_nat y,
          nonneg_minus x (le_z_of (numbers x (Memᴰ.head refl)).0),
          nonneg_minus y (le_z_of (numbers y (Memᴰ.tail (Memᴰ.head refl))).0),
        )

-- the number of a node is not unused
not_unused : {n : ℕ} (z : ℤ) → Below n z → z ≡ unused → ⊥
unfolding unused
not_unused {n} z b e =
    let p = (below_tests n z).1 b in pos-ne-negsuc (nat z) 0 (below_pos n z p ∙ e)

-- a node that is not the first, by its parent
later_parent : (T : Tableau) (k m q : ℕ) → k ≡ suc m → (node T k).up ≡ pos q → q < k → KeepsParent T k
later_parent T zero m q e u l = absurd (omega arith)
later_parent T (suc i) m q e u l = rw u ((below_tests (suc i) (pos q)).0 (below_of (suc i) q l))

later_drawn : (T : Tableau) (k m q ρ : ℕ) → k ≡ suc m → (node T k).up ≡ pos q → rank T.nodes k ≡ ρ → ((z : ℤ) → Memᴰ z (set T k) → DrawnFrom T q ρ z) → KeepsDrawn T k
unfolding nat
later_drawn T zero m q ρ e u r d = absurd (omega arith)
later_drawn T (suc i) m q ρ e u r d = λ z s. rw (u, r) (d z s)

-- a root is outer
sides_outer : (T : Tableau) → KeepsRules T → Outer (formula T T.root)
unfolding formula
sides_outer T K = K.formulas.root_outer

module _ (A B : Tableau) (KA : KeepsRules A) (KB : KeepsRules B) (some_a : 0 < A.node_rows) (some_b : 0 < B.node_rows)
    (held_a : A.member_count ≤ length A.members) (held_b : B.member_count ≤ length B.members) (same_least_lem : A.least ≡ B.least) where
  CA : AllCarried A (untidied A B) (of_first A B) (λ j. 1 + j)
  CA = first_carried A B KA KB held_a held_b

  CB : AllCarried B (untidied A B) (of_second A B) (λ j. suc A.node_rows + j)
  CB = second_carried A B KA KB held_a held_b same_least_lem

  member_a : (j : ℕ) → j < A.node_rows → (z : ℤ) → Memᴰ z (set A j) → Below (row_count A) z
  member_a j h z m = ((KA.nodes j h).set.outer_rows z m).is_row

  member_b : (j : ℕ) → j < B.node_rows → (z : ℤ) → Memᴰ z (set B j) → Below (row_count B) z
  member_b j h z m = ((KB.nodes j h).set.outer_rows z m).is_row

  sets_a : (j : ℕ) → j < A.node_rows → KeepsSet A j
  sets_a j h = (KA.nodes j h).set

  sets_b : (j : ℕ) → j < B.node_rows → KeepsSet B j
  sets_b j h = (KB.nodes j h).set

  -- ---- sets

  zero_end : set_end (untidied A B).nodes 0 ≡ pos 1
  unfolding set_end node
  zero_end = ap (λ (w : Node). w.start +ℤ w.size) (node_zero A B)

  first_end : (j : ℕ) → j < A.node_rows → set_end (untidied A B).nodes (1 + j) ≡ (set_end A.nodes j +ℤ pos 1)
  unfolding set_end node moved_of
  first_end j h =
      ap (λ (w : Node). w.start +ℤ w.size) (node_first A B j h)
      ∙ eq_of ((atom (node A j).start ⊕ num 1) ⊕ atom (node A j).size) ((atom (node A j).start ⊕ atom (node A j).size) ⊕ num 1) (omega arith)

  second_end : (j : ℕ) → j < B.node_rows → set_end (untidied A B).nodes (suc A.node_rows + j) ≡ (set_end B.nodes j +ℤ pos (suc A.member_count))
  unfolding set_end node moved_of
  second_end j h =
      ap (λ (w : Node). w.start +ℤ w.size) (node_second A B j h)
      ∙ eq_of ((atom (node B j).start ⊕ num (suc A.member_count)) ⊕ atom (node B j).size) ((atom (node B j).start ⊕ atom (node B j).size) ⊕ num (suc A.member_count)) (omega arith)

  first_start : (j : ℕ) → j < A.node_rows → (node (untidied A B) (1 + j)).start ≡ ((node A j).start +ℤ pos 1)
  unfolding moved_of
  first_start j h = ap (λ (w : Node). w.start) (node_first A B j h)

  second_start : (j : ℕ) → j < B.node_rows → (node (untidied A B) (suc A.node_rows + j)).start ≡ ((node B j).start +ℤ pos (suc A.member_count))
  unfolding moved_of
  second_start j h = ap (λ (w : Node). w.start) (node_second A B j h)

  start_after : (N : List ℤ) (i k : ℕ) → k ≡ suc i → set_start N k ≡ set_end N i
  unfolding set_start set_end
  start_after N i k e = rw e refl

  first_follows : (j : ℕ) → j < A.node_rows → (node (untidied A B) (1 + j)).start ≡ set_start (untidied A B).nodes (1 + j)
  unfolding set_start set_end
  first_follows zero h =
      first_start zero h ∙ ap (λ (z : ℤ). z +ℤ pos 1) (sets_a zero h).follows ∙ sym (start_after (untidied A B).nodes 0 (1 + 0) refl ∙ zero_end)
  first_follows (suc i) h =
      first_start (suc i) h
      ∙ ap (λ (z : ℤ). z +ℤ pos 1) (sets_a (suc i) h).follows
      ∙ sym (start_after (untidied A B).nodes (1 + i) (1 + suc i) (omega arith) ∙ first_end i (omega arith))

  -- the first's last set ends where its members do
  first_all : set_end (untidied A B).nodes A.node_rows ≡ pos (suc A.member_count)
  first_all =
      let j : ℕ = A.node_rows - 1 in
      let l : j < A.node_rows = omega arith in
      let e : suc j ≡ A.node_rows = omega arith in
      let d : A.node_rows ≡ 1 + j = omega arith in
      let f : A.member_count + 1 ≡ suc A.member_count = omega arith in
      ap (set_end (untidied A B).nodes) d ∙ first_end j l ∙ ap (λ (z : ℤ). z +ℤ pos 1) ((sets_a j l).last e) ∙ ap pos f

  second_follows : (j : ℕ) → j < B.node_rows → (node (untidied A B) (suc A.node_rows + j)).start ≡ set_start (untidied A B).nodes (suc A.node_rows + j)
  unfolding set_start set_end
  second_follows zero h =
      second_start zero h
      ∙ ap (λ (z : ℤ). z +ℤ pos (suc A.member_count)) (sets_b zero h).follows
      ∙ eq_of (num 0 ⊕ num (suc A.member_count)) (num (suc A.member_count)) (omega arith)
      ∙ sym (start_after (untidied A B).nodes A.node_rows (suc A.node_rows + 0) (omega arith) ∙ first_all)
  second_follows (suc i) h =
      second_start (suc i) h
      ∙ ap (λ (z : ℤ). z +ℤ pos (suc A.member_count)) (sets_b (suc i) h).follows
      ∙ sym (start_after (untidied A B).nodes (suc A.node_rows + i) (suc A.node_rows + suc i) (omega arith) ∙ second_end i (omega arith))

  first_size : (j : ℕ) → j < A.node_rows → (node (untidied A B) (1 + j)).size ≡ (node A j).size
  unfolding moved_of
  first_size j h = ap (λ (w : Node). w.size) (node_first A B j h)

  second_size : (j : ℕ) → j < B.node_rows → (node (untidied A B) (suc A.node_rows + j)).size ≡ (node B j).size
  unfolding moved_of
  second_size j h = ap (λ (w : Node). w.size) (node_second A B j h)

  first_set : (j : ℕ) → j < A.node_rows → KeepsSet (untidied A B) (1 + j)
  unfolding untidied
  first_set j h = record {
    follows = first_follows j h;
    not_negative = rw (first_size j h) (sets_a j h).not_negative;
    counted = of_le_z (rw (first_end j h) (le_of (atom (set_end A.nodes j) ⊕ num 1) (num (suc (A.member_count + B.member_count))) (omega (arith, of_le (atom (set_end A.nodes j)) (num A.member_count) (le_z_of (sets_a j h).counted)))));
    order = rw (set_first A B KA KB held_a held_b j h) (moved_ascends (of_first A B) (row_count A) (first_order A B) (set A j) (member_a j h) (sets_a j h).order);
    outer_rows = λ z m. outer z ((CA.each j h).sources z m);
    last = λ e. absurd (omega arith);
  }
    where
      outer : (z : ℤ) → (x : ℤ) × Memᴰ x (set A j) × (z ≡ through (of_first A B) x) → OuterRow (untidied A B) z
      outer z (x, m, e) = rw e (outer_carried CA x ((sets_a j h).outer_rows x m))

  second_set : (j : ℕ) → j < B.node_rows → KeepsSet (untidied A B) (suc A.node_rows + j)
  unfolding untidied
  second_set j h = record {
    follows = second_follows j h;
    not_negative = rw (second_size j h) (sets_b j h).not_negative;
    counted = of_le_z (rw (second_end j h) (le_of (atom (set_end B.nodes j) ⊕ num (suc A.member_count)) (num (suc (A.member_count + B.member_count))) (omega (arith, of_le (atom (set_end B.nodes j)) (num B.member_count) (le_z_of (sets_b j h).counted)))));
    order = rw (set_second A B KA KB held_a held_b j h) (moved_ascends (of_second A B) (row_count B) (second_order A B) (set B j) (member_b j h) (sets_b j h).order);
    outer_rows = λ z m. outer z ((CB.each j h).sources z m);
    last = λ e.
        let f : B.member_count + suc A.member_count ≡ suc (A.member_count + B.member_count) = omega arith in
        second_end j h ∙ ap (λ (z : ℤ). z +ℤ pos (suc A.member_count)) ((sets_b j h).last (omega arith)) ∙ ap pos f;
  }
    where
      outer : (z : ℤ) → (x : ℤ) × Memᴰ x (set B j) × (z ≡ through (of_second A B) x) → OuterRow (untidied A B) z
      outer z (x, m, e) = rw e (outer_carried CB x ((sets_b j h).outer_rows x m))

  -- ---- node 0

  set_zero : set (untidied A B) 0 ≡ pos (or_row A B) ∷ []
  unfolding set set_of untidied joint_members nat
  set_zero = ap (λ (w : Node). take (nat w.size) (drop (nat w.start) (joint_members A B))) (node_zero A B)

  -- the roots, under their new numbers
  root_a_below : nat A.root < A.schema_rows
  root_a_below = below_nat A.schema_rows A.root ((below_tests A.schema_rows A.root).1 KA.formulas.root_row)

  root_b_below : nat B.root < B.schema_rows
  root_b_below = below_nat B.schema_rows B.root ((below_tests B.schema_rows B.root).1 KB.formulas.root_row)

  root_a_row : Below (row_count A) A.root
  unfolding row_count
  root_a_row = (below_tests (A.schema_rows + A.proof_rows) A.root).0 (below_more A.schema_rows _ A.root (omega arith) ((below_tests A.schema_rows A.root).1 KA.formulas.root_row))

  root_b_row : Below (row_count B) B.root
  unfolding row_count
  root_b_row = (below_tests (B.schema_rows + B.proof_rows) B.root).0 (below_more B.schema_rows _ B.root (omega arith) ((below_tests B.schema_rows B.root).1 KB.formulas.root_row))

  new_a : through (of_first A B) A.root ≡ pos (nat A.root)
  new_a =
      through_below (of_first A B) A.schema_rows A.root ((below_tests A.schema_rows A.root).1 KA.formulas.root_row)
      ∙ ap pos (first_schema_lem A B (nat A.root) root_a_below)

  new_b : through (of_second A B) B.root ≡ pos (A.schema_rows + nat B.root)
  new_b =
      through_below (of_second A B) B.schema_rows B.root ((below_tests B.schema_rows B.root).1 KB.formulas.root_row)
      ∙ ap pos (second_schema_lem A B (nat B.root) root_b_below)

  -- the or's columns
  or_a : (rows (untidied A B) (or_row A B)).a ≡ through (of_first A B) A.root
  unfolding the_or
  or_a = ap (λ (w : Row). w.a) (or_is A B)

  or_b : (rows (untidied A B) (or_row A B)).b ≡ through (of_second A B) B.root
  unfolding the_or
  or_b = ap (λ (w : Row). w.b) (or_is A B)

  or_kind : (rows (untidied A B) (or_row A B)).kind ≡ pos 5
  unfolding the_or
  or_kind = ap (λ (w : Row). w.kind) (or_is A B)

  or_c : (rows (untidied A B) (or_row A B)).c ≡ pos 0
  unfolding the_or
  or_c = ap (λ (w : Row). w.c) (or_is A B)

  left_below : below (or_row A B) (rows (untidied A B) (or_row A B)).a ≡ true
  unfolding or_row
  left_below = ap (below (A.schema_rows + B.schema_rows)) (or_a ∙ new_a) ∙ below_of _ (nat A.root) (omega (arith, root_a_below))

  right_below : below (or_row A B) (rows (untidied A B) (or_row A B)).b ≡ true
  unfolding or_row
  right_below = ap (below (A.schema_rows + B.schema_rows)) (or_b ∙ new_b) ∙ below_of _ (A.schema_rows + nat B.root) (omega (arith, root_b_below))

  -- "the first or the second"
  pub or_tree : tree (rows (untidied A B)) (or_row A B) ≡ join disj (formula A A.root) (formula B B.root)
  unfolding formula nat
  or_tree =
      junction_tree (rows (untidied A B)) (or_row A B) disj (kind_5 or_kind) left_below right_below
      ∙ ap₂ (join disj)
      (ap (λ (z : ℤ). tree (rows (untidied A B)) (nat z)) or_a ∙ formula_same CA A.root root_a_row)
      (ap (λ (z : ℤ). tree (rows (untidied A B)) (nat z)) or_b ∙ formula_same CB B.root root_b_row)

  -- ---- the two children of node 0

  zero_up_lem : (i q : ℕ) → (node (untidied A B) i).up ≡ pos q → names (untidied A B).nodes (pos 0) i ≡ eq_z (pos q) (pos 0)
  unfolding names node
  zero_up_lem i q e = ap (λ (z : ℤ). eq_z z (pos 0)) e

  none_zero : names (untidied A B).nodes (pos 0) 0 ≡ false
  unfolding names node unused
  none_zero = ap (λ (w : Node). eq_z w.up (pos 0)) (node_zero A B) ∙ eq_z_not _ _ (λ e. pos-ne-negsuc 0 0 (sym e))

  root_a_up : (node (untidied A B) (1 + 0)).up ≡ pos 0
  unfolding moved_of unused
  root_a_up = ap (λ (w : Node). w.up) (node_first A B 0 some_a) ∙ ap (parent_of 1) (KA.nodes 0 some_a).parent.0 ∙ parent_none 1

  root_b_up : (node (untidied A B) (suc A.node_rows + 0)).up ≡ pos 0
  unfolding moved_of unused
  root_b_up =
      ap (λ (w : Node). w.up) (node_second A B 0 some_b) ∙ ap (parent_of (suc A.node_rows)) (KB.nodes 0 some_b).parent.0 ∙ parent_none (suc A.node_rows)

  -- any other node names another
  inner_a_up : (i : ℕ) → suc i < A.node_rows → (q : ℕ) × (q < suc i) × ((node A (suc i)).up ≡ pos q) × ((node (untidied A B) (1 + suc i)).up ≡ pos (1 + q))
  unfolding moved_of node
  inner_a_up i h = from (up_cases A (suc i) (KA.nodes (suc i) h).parent)
    where
      from : ((node_at A.nodes (suc i)).up ≡ unused) ⊎ ((q : ℕ) × (q < suc i) × ((node_at A.nodes (suc i)).up ≡ pos q)) → (q : ℕ) × (q < suc i) × ((node A (suc i)).up ≡ pos q) × ((node (untidied A B) (1 + suc i)).up ≡ pos (1 + q))
      from (inl e) = absurd (not_unused (node_at A.nodes (suc i)).up (KA.nodes (suc i) h).parent e)
      from (inr (q, l, e)) = (q, l, e, ap (λ (w : Node). w.up) (node_first A B (suc i) h) ∙ ap (parent_of 1) e ∙ parent_pos 1 q)

  inner_b_up : (i : ℕ) → suc i < B.node_rows → (q : ℕ) × (q < suc i) × ((node B (suc i)).up ≡ pos q) × ((node (untidied A B) (suc A.node_rows + suc i)).up ≡ pos (suc A.node_rows + q))
  unfolding moved_of node
  inner_b_up i h = from (up_cases B (suc i) (KB.nodes (suc i) h).parent)
    where
      from : ((node_at B.nodes (suc i)).up ≡ unused) ⊎ ((q : ℕ) × (q < suc i) × ((node_at B.nodes (suc i)).up ≡ pos q)) → (q : ℕ) × (q < suc i) × ((node B (suc i)).up ≡ pos q) × ((node (untidied A B) (suc A.node_rows + suc i)).up ≡ pos (suc A.node_rows + q))
      from (inl e) = absurd (not_unused (node_at B.nodes (suc i)).up (KB.nodes (suc i) h).parent e)
      from (inr (q, l, e)) =
          (q, l, e, ap (λ (w : Node). w.up) (node_second A B (suc i) h) ∙ ap (parent_of (suc A.node_rows)) e ∙ parent_pos (suc A.node_rows) q)

  roots_a : count (names (untidied A B).nodes (pos 0)) (suc A.node_rows) ≡ 1
  unfolding eq_z count
  roots_a =
      let e : suc A.node_rows ≡ 1 + A.node_rows = omega arith in
      ap (count (names (untidied A B).nodes (pos 0))) e
      ∙ count_add (names (untidied A B).nodes (pos 0)) 1 A.node_rows
      ∙ ap₂ ◌+◌
      (count_false (names (untidied A B).nodes (pos 0)) 0 none_zero)
      (count_one (λ i. names (untidied A B).nodes (pos 0) (1 + i)) A.node_rows some_a (zero_up_lem (1 + 0) 0 root_a_up) (λ i l. let u = inner_a_up i l in zero_up_lem (1 + suc i) (1 + u.0) u.3 ∙ eq_z_not _ _ (λ x. let y = pos_injective (1 + u.0) 0 x in omega arith)))

  roots_b : count (λ i. names (untidied A B).nodes (pos 0) (suc A.node_rows + i)) B.node_rows ≡ 1
  unfolding eq_z
  roots_b =
      count_one _ B.node_rows some_b (zero_up_lem (suc A.node_rows + 0) 0 root_b_up)
      (λ i l. let u = inner_b_up i l in zero_up_lem (suc A.node_rows + suc i) (suc A.node_rows + u.0) u.3 ∙ eq_z_not _ _ (λ x. let y = pos_injective (suc A.node_rows + u.0) 0 x in omega arith))

  two_children : child_count (untidied A B) 0 ≡ 2
  unfolding child_count child_count_of untidied
  two_children =
      let e : suc (A.node_rows + B.node_rows) ≡ suc A.node_rows + B.node_rows = omega arith in
      ap (count (names (untidied A B).nodes (pos 0))) e
      ∙ count_add (names (untidied A B).nodes (pos 0)) (suc A.node_rows) B.node_rows
      ∙ ap₂ ◌+◌ roots_a roots_b

  rank_a : rank (untidied A B).nodes (1 + 0) ≡ 0
  unfolding rank node count
  rank_a = ap (λ (z : ℤ). count (names (untidied A B).nodes z) 1) root_a_up ∙ count_false (names (untidied A B).nodes (pos 0)) 0 none_zero

  rank_b : rank (untidied A B).nodes (suc A.node_rows + 0) ≡ 1
  unfolding rank node
  rank_b =
      let e : suc A.node_rows + 0 ≡ suc A.node_rows = omega arith in
      ap (λ (z : ℤ). count (names (untidied A B).nodes z) (suc A.node_rows + 0)) root_b_up
      ∙ ap (count (names (untidied A B).nodes (pos 0))) e ∙ roots_a

  -- ---- node 0 keeps its rule

  zero_rule_lem : rule (untidied A B) 0 ≡ entry (pos 5) unused false false false 2
  unfolding rule rule_of rule_table nat
  zero_rule_lem = ap (λ (w : Node). rule_of w.rule) (node_zero A B)

  or_row_below : Below (row_count (untidied A B)) (pos (or_row A B))
  unfolding row_count untidied schema_count or_row
  or_row_below = (below_tests _ (pos (A.schema_rows + B.schema_rows))).0 (below_of _ (A.schema_rows + B.schema_rows) (omega arith))

  zero_field : (f : Node → ℤ) (z : ℤ) → f (record { up = unused; rule = pos 1; on = pos (or_row A B); with = unused; other = unused; to = unused; by = pos 0; start = pos 0; size = pos 1 }) ≡ z → f (node (untidied A B) 0) ≡ z
  zero_field f z e = ap f (node_zero A B) ∙ e

  zero_number : (k : ℕ) → (k ≡ 1 → ⊥) → (node (untidied A B) 0).rule ≡ pos k → ⊥
  zero_number k n e = n (sym (pos_injective 1 k (sym (zero_field (λ w. w.rule) (pos 1) refl) ∙ e)))

  zero_step : KeepsStep (untidied A B) 0
  unfolding entry unused row nat
  zero_step = record {
    known = rw (zero_field (λ w. w.rule) (pos 1) refl) ((below_tests 9 (pos 1)).0 (below_of 9 1 (omega arith)));
    on = rw (zero_rule_lem, zero_field (λ w. w.on) (pos (or_row A B)) refl) (record {
      unused_field = λ e. absurd (pos-ne-negsuc 5 0 e);
      is_row = λ e. or_row_below;
      of_kind = λ e. or_kind_row;
    });
    on_stands = rw (zero_field (λ w. w.on) (pos (or_row A B)) refl, set_zero) (λ e. Memᴰ.head refl);
    with = rw (zero_rule_lem, zero_field (λ w. w.with) unused refl) (record { unused_field = λ e. refl; is_row = λ e. absurd (e refl); of_kind = λ e. absurd (e refl) });
    other_used = rw zero_rule_lem (λ e. absurd (false≢true e));
    other_unused = λ e. zero_field (λ w. w.other) unused refl;
    link_used = rw zero_rule_lem (λ e. absurd (false≢true e));
    link_unused = λ e. zero_field (λ w. w.to) unused refl;
    split_used = rw zero_rule_lem (λ e. absurd (false≢true e));
    by_unused = λ e f. zero_field (λ w. w.by) (pos 0) refl;
    split = λ e. absurd (zero_number 2 (λ x. omega arith) e);
    unfolds = λ e. absurd (⊎_elim (λ x. zero_number 3 (λ y. omega arith) x) (λ x. zero_number 4 (λ y. omega arith) x) e);
    clash = λ e. absurd (zero_number 6 (λ x. omega arith) e);
    void = λ e. absurd (zero_number 7 (λ x. omega arith) e);
    loop = λ e. absurd (zero_number 8 (λ x. omega arith) e);
    children = two_children ∙ ap (λ (x : Rule). x.children) (sym zero_rule_lem);
  }
    where
      or_kind_row : (row (untidied A B) (pos (or_row A B))).kind ≡ pos 5
      or_kind_row = or_kind

  zero_set : Outer (tree (rows (untidied A B)) (or_row A B)) → KeepsSet (untidied A B) 0
  unfolding set_start untidied formula nat
  zero_set outer = record {
    follows = zero_field (λ w. w.start) (pos 0) refl;
    not_negative = rw (zero_field (λ w. w.size) (pos 1) refl) (of_le_z (le_of (num 0) (num 1) (omega arith)));
    counted = rw zero_end (of_le_z (le_of (num 1) (num (suc (A.member_count + B.member_count))) (omega arith)));
    order = rw set_zero tt;
    outer_rows = λ z m. let e = Memᴰ.eq_of_singleton (rw set_zero at m) in rw e (record { is_row = or_row_below; outer = outer });
    last = λ e. absurd (omega arith);
  }

  -- ---- parents, and what sets are drawn from

  J-given : (k : ℕ) → given (untidied A B) (node (untidied A B) 0) k ≡ one_of (through (of_first A B) A.root) (through (of_second A B) B.root) k
  unfolding given of_rule eq_z row nat
  J-given k = rw (zero_field (λ w. w.rule) (pos 1) refl, zero_field (λ w. w.on) (pos (or_row A B)) refl) (ap₂ (λ (a b : ℤ). one_of a b k) or_a or_b)

  first_a_parent : (j : ℕ) → j < A.node_rows → KeepsParent (untidied A B) (1 + j)
  first_a_parent zero h = later_parent (untidied A B) (1 + 0) 0 0 refl root_a_up (omega arith)
  first_a_parent (suc i) h = let u = inner_a_up i h in later_parent (untidied A B) (1 + suc i) (suc i) (1 + u.0) (omega arith) u.3 (omega (arith, u.1))

  second_b_parent : (j : ℕ) → j < B.node_rows → KeepsParent (untidied A B) (suc A.node_rows + j)
  second_b_parent zero h = later_parent (untidied A B) (suc A.node_rows + 0) A.node_rows 0 (omega arith) root_b_up (omega arith)
  second_b_parent (suc i) h =
      let u = inner_b_up i h in
      later_parent (untidied A B) (suc A.node_rows + suc i) (suc A.node_rows + i) (suc A.node_rows + u.0) (omega arith) u.3 (omega (arith, u.1))

  -- the set of a root, moved, is what node 0 gives
  root_a_drawn : (z : ℤ) → Memᴰ z (set (untidied A B) (1 + 0)) → DrawnFrom (untidied A B) 0 0 z
  unfolding one_of moved_members
  root_a_drawn z m =
      let e = set_first A B KA KB held_a held_b 0 some_a ∙ ap (moved_members (of_first A B)) (KA.nodes 0 some_a).parent.1 in
      inr (rw (J-given 0) (rw e at m))

  root_b_drawn : (z : ℤ) → Memᴰ z (set (untidied A B) (suc A.node_rows + 0)) → DrawnFrom (untidied A B) 0 1 z
  unfolding one_of moved_members
  root_b_drawn z m =
      let e = set_second A B KA KB held_a held_b 0 some_b ∙ ap (moved_members (of_second A B)) (KB.nodes 0 some_b).parent.1 in
      inr (rw (J-given 1) (rw e at m))

  first_a_drawn : (j : ℕ) → j < A.node_rows → KeepsDrawn (untidied A B) (1 + j)
  unfolding nat node
  first_a_drawn zero h = later_drawn (untidied A B) (1 + 0) 0 0 0 refl root_a_up rank_a root_a_drawn
  first_a_drawn (suc i) h =
      let u = inner_a_up i h in
      later_drawn (untidied A B) (1 + suc i) (suc i) (1 + u.0) (rank A.nodes (suc i)) (omega arith) u.3 (rank_moved (block_a A B KA KB) (suc i) u.0 h u.2)
      (λ z m. from u.0 (omega (arith, u.1)) u.2 z ((CA.each (suc i) h).sources z m))
    where
      from : (q : ℕ) → q < A.node_rows → (node A (suc i)).up ≡ pos q → (z : ℤ) → (x : ℤ) × Memᴰ x (set A (suc i)) × (z ≡ through (of_first A B) x) → DrawnFrom (untidied A B) (1 + q) (rank A.nodes (suc i)) z
      from q l e z (x, m, s) =
          rw s
          (drawn_carried CA q l (KA.nodes q l).step (rank A.nodes (suc i)) x
          (subst (λ (y : ℤ). DrawnFrom A (nat y) (rank A.nodes (suc i)) x) e ((KA.nodes (suc i) h).drawn x m)))

  second_b_drawn : (j : ℕ) → j < B.node_rows → KeepsDrawn (untidied A B) (suc A.node_rows + j)
  unfolding nat node
  second_b_drawn zero h = later_drawn (untidied A B) (suc A.node_rows + 0) A.node_rows 0 1 (omega arith) root_b_up rank_b root_b_drawn
  second_b_drawn (suc i) h =
      let u = inner_b_up i h in
      later_drawn (untidied A B) (suc A.node_rows + suc i) (suc A.node_rows + i) (suc A.node_rows + u.0) (rank B.nodes (suc i)) (omega arith) u.3 (rank_moved (block_b A B KA KB) (suc i) u.0 h u.2)
      (λ z m. from u.0 (omega (arith, u.1)) u.2 z ((CB.each (suc i) h).sources z m))
    where
      from : (q : ℕ) → q < B.node_rows → (node B (suc i)).up ≡ pos q → (z : ℤ) → (x : ℤ) × Memᴰ x (set B (suc i)) × (z ≡ through (of_second A B) x) → DrawnFrom (untidied A B) (suc A.node_rows + q) (rank B.nodes (suc i)) z
      from q l e z (x, m, s) =
          rw s
          (drawn_carried CB q l (KB.nodes q l).step (rank B.nodes (suc i)) x
          (subst (λ (y : ℤ). DrawnFrom B (nat y) (rank B.nodes (suc i)) x) e ((KB.nodes (suc i) h).drawn x m)))

  -- ---- every node

  first_a_kept : (j : ℕ) → j < A.node_rows → KeepsNode (untidied A B) (1 + j)
  first_a_kept j h = record {
    set = first_set j h;
    parent = first_a_parent j h;
    drawn = first_a_drawn j h;
    step = step_carried CA j h (KA.nodes j h).step member_a;
  }

  second_b_kept : (j : ℕ) → j < B.node_rows → KeepsNode (untidied A B) (suc A.node_rows + j)
  second_b_kept j h = record {
    set = second_set j h;
    parent = second_b_parent j h;
    drawn = second_b_drawn j h;
    step = step_carried CB j h (KB.nodes j h).step member_b;
  }

  or_outer : Outer (tree (rows (untidied A B)) (or_row A B))
  unfolding formula
  or_outer = rw or_tree (⊎_elim (sides_outer A KA) (sides_outer B KB))

  zero_kept : KeepsNode (untidied A B) 0
  unfolding unused untidied
  zero_kept = record {
    set = zero_set or_outer;
    parent = (zero_field (λ w. w.up) unused refl, set_zero);
    drawn = tt;
    step = zero_step;
  }

  node_kept : (i : ℕ) → i < suc (A.node_rows + B.node_rows) → KeepsNode (untidied A B) i
  node_kept zero h = zero_kept
  node_kept (suc i) h = from (schema_or_proof A.node_rows i)
    where
      from : (i < A.node_rows) ⊎ ((k : ℕ) × (i ≡ A.node_rows + k)) → KeepsNode (untidied A B) (suc i)
      from (inl l) = let e : suc i ≡ 1 + i = omega arith in rw e (first_a_kept i l)
      from (inr (k, d)) = let e : suc i ≡ suc A.node_rows + k = omega arith in rw e (second_b_kept k (omega arith))

  -- ---- every row

  formed_a : (r : ℕ) → r < row_count A → well_formed (rows A) r ≡ true
  formed_a r h = (formed_tests (rows A) r).1 (KA.formulas.each r h).formed

  formed_b : (r : ℕ) → r < row_count B → well_formed (rows B) r ≡ true
  formed_b r h = (formed_tests (rows B) r).1 (KB.formulas.each r h).formed

  or_formed : FormedAs (rows (untidied A B)) (or_row A B) (rows (untidied A B) (or_row A B)) (kind_of (rows (untidied A B) (or_row A B)).kind)
  or_formed =
      subst (FormedAs (rows (untidied A B)) (or_row A B) (rows (untidied A B) (or_row A B))) (sym (kind_5 or_kind))
      ((below_tests _ _).0 left_below, ((below_tests _ _).0 right_below, (or_c, λ m. or_outer m.0)))

  module _ (small : size (tree (rows (untidied A B)) (or_row A B)) ≤ 4096) (flat : depth (tree (rows (untidied A B)) (or_row A B)) ≤ 64) where
    row_kept : (r : ℕ) → r < row_count (untidied A B) → KeepsRow (rows (untidied A B)) r
    row_kept r h = by (whose A B r h)
      where
        by : Whose A B r → KeepsRow (rows (untidied A B)) r
        by (first q l e) =
            let k = KA.formulas.each q l in
            let t = tree_moved (first_moves A B) formed_a q l in
            subst (KeepsRow (rows (untidied A B))) e
            (record { formed = formed_moved (first_moves A B) formed_a q l k.formed; small = rw t k.small; flat = rw t k.flat })
        by (second q l e) =
            let k = KB.formulas.each q l in
            let t = tree_moved (second_moves A B) formed_b q l in
            subst (KeepsRow (rows (untidied A B))) e
            (record { formed = formed_moved (second_moves A B) formed_b q l k.formed; small = rw t k.small; flat = rw t k.flat })
        by (theirs e) = rw e (record { formed = or_formed; small = small; flat = flat })

    pub joined_rules : KeepsRules (untidied A B)
    unfolding untidied schema_count or_row nat
    joined_rules = record {
      formulas = record {
        root_row = (below_tests _ (pos (A.schema_rows + B.schema_rows))).0 (below_of _ (A.schema_rows + B.schema_rows) (omega arith));
        least_range = KA.formulas.least_range;
        each = row_kept;
        root_outer = or_outer;
      };
      nodes = node_kept;
    }
