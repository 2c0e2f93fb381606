-- The nodes and sets that are put are those of the joined record, tidied.
use Rattle.std.specs.Prelude.{if◌then◌else◌}
use Prim.Native.Nat.{ℕ, zero, suc, ◌+◌, ◌<◌, ◌≤◌}
use native.Mathlib.Omega.{arith}
use native.Mathlib.Nat.{add-zero}
use mathlib.Core.Path.{◌≡◌, refl, sym, ◌∙◌, ap, ap₂}
use mathlib.Core.Logic.{⊎_elim}
use mathlib.Core.Bool.{true, false, false≢true}
use mathlib.Core.List.{List, [], ◌∷◌, ◌++◌, append_assoc, append-nil, Memᴰ}
use lib.Dec.{leb}
use lib.IntN.{ℤ, pos, neg_ℤ}
use lib.ListN.{length, get_or, take, drop, length-append}
use Rattle.stab.specs.Basic.{nat, below, eq_z}
use Rattle.stab.specs.Node.{Tableau, Node, row_count, node_at, node, set, set_of}
use Rattle.stab.specs.Rule.{unused, entry, rule_table, rule_of, rule}
use Rattle.stab.specs.Keeps.{KeepsKind, KeepsStep, KeepsSet, KeepsOlder, Keeps}
use Rattle.stab.specs.Text.{padded}
use Rattle.stab.proofs.Bools.{decide}
use Rattle.stab.proofs.Whole.{eq_z_true, not_eq_z}
use Rattle.stab.proofs.Trees.{below_nat, below_pos}
use Rattle.stab.proofs.Tests.{below_tests}
use Rattle.branch.proofs.Ascending.{part_length}
use Rattle.tidied.specs.Tidied.{through, new_number, Folding, folding_of, new_of, insert_member, tidy_set, tidy_members, tidy_node, tidy_nodes, tidied}
use Rattle.tidied.proofs.Moves.{through_pos, through_below}
use Rattle.tidied.proofs.Foldings.{new_schema}
use Rattle.tidied.proofs.Carried.{through_unused}
use Rattle.tidied.proofs.Sets.{few}
use Rattle.tidied.proofs.Tables.{set_within}
use Rattle.tidied.proofs.Tidying.{rules_of}
use Rattle.joint.specs.Joint.{schema_count, or_row, of_first, of_second, the_or, parent_of, further, moved_members, joint_schema, joint_proof, joint_members, untidied, joint}
use Rattle.joint.proofs.Lists.{moved_of}
use Rattle.joint.proofs.Blocks.{up_cases}
use Rattle.joint.proofs.Nodes.{node_zero, node_first, node_second, set_first, set_second}
use Rattle.jointrows.specs.Kept.{Gives, RowsFilled}
use Rattle.jointrows.proofs.Numbers.{numbered_same, gives_at}
use Rattle.jointrows.proofs.Moves.{table_number}
use Rattle.jointnodes.specs.Kept.{set_at, or_node, placed_node, placed_sets, placed_nodes, both_nodes, both_sets, AllReadable}

-- ---- nodes can be read

-- rule 8 alone has a link
link_is : (k : ℕ) → (get_or rule_table k (entry unused unused false false false 0)).link ≡ true → k ≡ 8
unfolding rule_table entry
link_is zero h = absurd (false≢true h)
link_is (suc zero) h = absurd (false≢true h)
link_is (suc (suc zero)) h = absurd (false≢true h)
link_is (suc (suc (suc zero))) h = absurd (false≢true h)
link_is (suc (suc (suc (suc zero)))) h = absurd (false≢true h)
link_is (suc (suc (suc (suc (suc zero))))) h = absurd (false≢true h)
link_is (suc (suc (suc (suc (suc (suc zero)))))) h = absurd (false≢true h)
link_is (suc (suc (suc (suc (suc (suc (suc zero))))))) h = absurd (false≢true h)
link_is (suc (suc (suc (suc (suc (suc (suc (suc zero)))))))) h = refl
link_is (suc (suc (suc (suc (suc (suc (suc (suc (suc k))))))))) h = absurd (false≢true h)

module _ (T : Tableau) (K : KeepsOlder T) where
  few_rows : row_count T ≤ 1024
  few_rows = K.tables.row_limit

  sets : (j : ℕ) → j < T.node_rows → KeepsSet T j
  sets j h = (K.nodes j h).set

  within : (j : ℕ) → j < T.node_rows → nat (node_at T.nodes j).start + nat (node_at T.nodes j).size ≤ length T.members
  unfolding node
  within j h = omega (arith, set_within T sets j h, K.tables.members_held)

  set_few : (j : ℕ) → j < T.node_rows → nat (node_at T.nodes j).size ≤ 1024
  unfolding node set set_of
  set_few j h =
      omega (
        arith,
        part_length T.members (nat (node_at T.nodes j).start) (nat (node_at T.nodes j).size) (within j h),
        few (row_count T) (set T j) (sets j h).order (λ z m. ((sets j h).outer_rows z m).is_row),
        few_rows,
      )

  link_rule : (j : ℕ) → KeepsStep T j → (rule T j).link ≡ true → (node T j).rule ≡ pos 8
  unfolding rule rule_of
  link_rule j S e =
      let b = (below_tests 9 (node T j).rule).1 S.known in
      sym (below_pos 9 (node T j).rule b) ∙ ap pos (link_is (nat (node T j).rule) e)

  up_few : (j : ℕ) → j < T.node_rows → nat (node_at T.nodes j).up ≤ 1024
  unfolding nat unused
  up_few j h =
      ⊎_elim
      (λ e. omega (arith, ap nat e))
      (λ (q, l, e). omega (arith, ap nat e, K.tables.node_limit))
      (up_cases T j (K.nodes j h).parent)

  to_few : (j : ℕ) → j < T.node_rows → nat (node_at T.nodes j).to ≤ 1024
  unfolding nat unused node
  to_few j h =
      let S = (K.nodes j h).step in
      ⊎_elim
      (λ t. let l = S.loop (link_rule j S t) in omega (arith, ap nat l.1.target, l.1.before, K.tables.node_limit))
      (λ t. omega (arith, ap nat (S.link_unused t)))
      (decide (rule T j).link)

  pub readable : AllReadable T.nodes T.members T.node_rows
  readable j h = record { held = within j h; few = set_few j h; up = up_few j h; to = to_few j h }

-- ---- numbers put through twice

module _ (new_t new_x : ℕ → ℕ) (n : ℕ) (small : n ≤ 1024) (N : List ℕ) (g : Gives N (λ r. new_t (new_x r))) where
  row_through : (z : ℤ) → below n z ≡ true → through new_t (through new_x z) ≡ through (new_number 0 N) z
  row_through z h =
      ap (through new_t) (through_below new_x n z h)
      ∙ through_pos new_t (new_x (nat z))
      ∙ ap pos (sym (table_number N (nat z) ∙ gives_at N _ g (nat z) (omega (arith, below_nat n z h))))
      ∙ sym (through_below (new_number 0 N) n z h)

  unused_through : (z : ℤ) → z ≡ unused → through new_t (through new_x z) ≡ through (new_number 0 N) z
  unused_through z e =
      ap (λ (y : ℤ). through new_t (through new_x y)) e
      ∙ ap (through new_t) (through_unused new_x)
      ∙ through_unused new_t
      ∙ sym (ap (through (new_number 0 N)) e ∙ through_unused (new_number 0 N))

  set_through : (xs : List ℤ) → ((z : ℤ) → Memᴰ z xs → below n z ≡ true) → tidy_set new_t (moved_members new_x xs) ≡ tidy_set (new_number 0 N) xs
  unfolding tidy_set moved_members
  set_through [] h = refl
  set_through (z ∷ xs) h = ap₂ insert_member (row_through z (h z (Memᴰ.head refl))) (set_through xs (λ y m. h y (Memᴰ.tail m)))

-- ---- the nodes of one record, after d nodes

module _ (T X : Tableau) (new_t new_x : ℕ → ℕ) (d m : ℕ) (K : KeepsOlder X) (N : List ℕ) (g : Gives N (λ r. new_t (new_x r)))
    (node_x : (j : ℕ) → j < X.node_rows → node T (d + j) ≡ moved_of new_x d m X j)
    (setX : (j : ℕ) → j < X.node_rows → set T (d + j) ≡ moved_members new_x (set X j)) where
  abbrev new : ℕ → ℕ
  new = new_number 0 N

  small : row_count X ≤ 1024
  small = K.tables.row_limit

  set_same : (j : ℕ) → j < X.node_rows → tidy_set new_t (set T (d + j)) ≡ tidy_set new (set X j)
  set_same j h =
      ap (tidy_set new_t) (setX j h)
      ∙ set_through new_t new_x (row_count X) small N g (set X j) (λ z k. (below_tests (row_count X) z).1 ((K.nodes j h).set.outer_rows z k).is_row)

  set_is : (j : ℕ) → j < X.node_rows → tidy_set new_t (set T (d + j)) ≡ tidy_set new (set_at X.nodes X.members j)
  unfolding set_at set set_of node
  set_is j h = set_same j h

  kind_through : (need z : ℤ) → KeepsKind X need z → through new_t (through new_x z) ≡ through new z
  kind_through need z k =
      ⊎_elim
      (λ t. unused_through new_t new_x (row_count X) small N g z (k.unused_field (eq_z_true need unused t)))
      (λ t. row_through new_t new_x (row_count X) small N g z ((below_tests (row_count X) z).1 (k.is_row (not_eq_z need unused t))))
      (decide (eq_z need unused))

  other_through : (j : ℕ) → KeepsStep X j → through new_t (through new_x (node X j).other) ≡ through new (node X j).other
  other_through j S =
      ⊎_elim
      (λ t. row_through new_t new_x (row_count X) small N g (node X j).other ((below_tests (row_count X) (node X j).other).1 (S.other_used t)))
      (λ t. unused_through new_t new_x (row_count X) small N g (node X j).other (S.other_unused t))
      (decide (rule X j).other)

  node_is : (j : ℕ) → j < X.node_rows → (a b : ℕ) → tidy_node new_t (node T (d + j)) a b ≡ placed_node new d (node_at X.nodes j) a b
  unfolding tidy_node placed_node moved_of node
  node_is j h a b =
      let w = node_at X.nodes j in
      let S = (K.nodes j h).step in
      ap (λ (v : Node). tidy_node new_t v a b) (node_x j h)
      ∙ (λ i. parent_of d w.up ∷ w.rule ∷ kind_through _ w.on S.on i ∷ kind_through _ w.with S.with i ∷ other_through j S i ∷ further d w.to ∷ w.by ∷ pos a ∷ pos b ∷ [])

  sets_block : (j : ℕ) → j ≤ X.node_rows → tidy_members T new_t (d + j) ≡ tidy_members T new_t d ++ placed_sets X.nodes X.members new j
  unfolding tidy_members placed_sets
  sets_block zero h = ap (tidy_members T new_t) (add-zero d) ∙ sym (append-nil (tidy_members T new_t d))
  sets_block (suc j) h =
      let e : d + suc j ≡ suc (d + j) = omega arith in
      ap (tidy_members T new_t) e
      ∙ ap₂ (λ (x y : List ℤ). x ++ y) (sets_block j (omega arith)) (set_is j h)
      ∙ append_assoc (tidy_members T new_t d) (placed_sets X.nodes X.members new j) _

  nodes_block : (j : ℕ) → j ≤ X.node_rows → tidy_nodes T new_t (d + j) ≡ tidy_nodes T new_t d ++ placed_nodes X.nodes X.members new d (length (tidy_members T new_t d)) j
  unfolding tidy_nodes placed_nodes
  nodes_block zero h = ap (tidy_nodes T new_t) (add-zero d) ∙ sym (append-nil (tidy_nodes T new_t d))
  nodes_block (suc j) h =
      let e : d + suc j ≡ suc (d + j) = omega arith in
      let start = ap length (sets_block j (omega arith)) ∙ length-append (tidy_members T new_t d) (placed_sets X.nodes X.members new j) in
      ap (tidy_nodes T new_t) e
      ∙ ap₂ (λ (x y : List ℤ). x ++ y) (nodes_block j (omega arith)) (node_is j h _ _ ∙ ap₂ (placed_node new d (node_at X.nodes j)) start (ap length (set_is j h)))
      ∙ append_assoc (tidy_nodes T new_t d) (placed_nodes X.nodes X.members new d (length (tidy_members T new_t d)) j) _

-- ---- the formula rows are enough

-- a record's formula rows alone
abbrev pub plain : Tableau → Tableau
plain T = record {
  schema = T.schema;
  schema_rows = T.schema_rows;
  proof = T.proof;
  proof_rows = T.proof_rows;
  root = T.root;
  least = T.least;
  nodes = [];
  node_rows = T.node_rows;
  members = [];
  member_count = T.member_count;
}

module _ (A B : Tableau) where
  abbrev PA : Tableau
  PA = plain A

  abbrev PB : Tableau
  PB = plain B

  plain_schema_lem : joint_schema PA PB ≡ joint_schema A B
  unfolding joint_schema of_first of_second schema_count the_or
  plain_schema_lem = refl

  plain_folding : folding_of (untidied PA PB) ≡ folding_of (untidied A B)
  unfolding folding_of untidied joint_schema joint_proof of_first of_second schema_count the_or
  plain_folding = refl

  plain_first : (r : ℕ) → new_of (untidied PA PB) (of_first PA PB r) ≡ new_of (untidied A B) (of_first A B r)
  unfolding new_of folding_of untidied joint_schema joint_proof of_first of_second schema_count the_or
  plain_first r = refl

  plain_second : (r : ℕ) → new_of (untidied PA PB) (of_second PA PB r) ≡ new_of (untidied A B) (of_second A B r)
  unfolding new_of folding_of untidied joint_schema joint_proof of_first of_second schema_count the_or
  plain_second r = refl

  pub of_plain : {schema₀ proof₀ : List ℤ} {count : ℕ} {first second : List ℕ} {schema proof : List ℤ} → RowsFilled PA PB schema₀ proof₀ count first second schema proof → RowsFilled A B schema₀ proof₀ count first second schema proof
  of_plain {schema₀} {proof₀} {count} P = record {
    counted = P.counted ∙ ap (λ (F : Folding). F.count) plain_folding;
    first_numbers = P.first_numbers ∙ numbered_same _ _ 1024 (λ r h. plain_first r);
    first_small = P.first_small;
    second_numbers = P.second_numbers ∙ numbered_same _ _ 1024 (λ r h. plain_second r);
    second_small = P.second_small;
    schema_table = P.schema_table ∙ ap (padded (pos 0) (length schema₀)) plain_schema_lem;
    proof_table = P.proof_table ∙ ap (λ (F : Folding). padded (pos 0) (length proof₀) (if leb (A.schema_rows + B.schema_rows + 1 + count) 1024 then F.table else [])) plain_folding;
  }

-- ---- node 0, the first's nodes, the second's

module _ (A B : Tableau) (KA : Keeps A) (KB : Keeps B) (N M : List ℕ) (gN : Gives N (λ r. new_of (untidied A B) (of_first A B r))) (gM : Gives M (λ r. new_of (untidied A B) (of_second A B r))) where
  abbrev U : Tableau
  U = untidied A B

  abbrev new_u : ℕ → ℕ
  new_u = new_of (untidied A B)

  sets_a : (j : ℕ) → j ≤ A.node_rows → tidy_members U new_u (1 + j) ≡ tidy_members U new_u 1 ++ placed_sets A.nodes A.members (new_number 0 N) j
  sets_a =
      sets_block U A new_u (of_first A B) 1 1 KA.older N gN (node_first A B) (set_first A B (rules_of A KA.older) (rules_of B KB.older) KA.older.tables.members_held KB.older.tables.members_held)

  nodes_a : (j : ℕ) → j ≤ A.node_rows → tidy_nodes U new_u (1 + j) ≡ tidy_nodes U new_u 1 ++ placed_nodes A.nodes A.members (new_number 0 N) 1 (length (tidy_members U new_u 1)) j
  nodes_a =
      nodes_block U A new_u (of_first A B) 1 1 KA.older N gN (node_first A B) (set_first A B (rules_of A KA.older) (rules_of B KB.older) KA.older.tables.members_held KB.older.tables.members_held)

  sets_b : (j : ℕ) → j ≤ B.node_rows → tidy_members U new_u (suc A.node_rows + j) ≡ tidy_members U new_u (suc A.node_rows) ++ placed_sets B.nodes B.members (new_number 0 M) j
  sets_b =
      sets_block U B new_u (of_second A B) (suc A.node_rows) (suc A.member_count) KB.older M gM (node_second A B) (set_second A B (rules_of A KA.older) (rules_of B KB.older) KA.older.tables.members_held KB.older.tables.members_held)

  nodes_b : (j : ℕ) → j ≤ B.node_rows → tidy_nodes U new_u (suc A.node_rows + j) ≡ tidy_nodes U new_u (suc A.node_rows) ++ placed_nodes B.nodes B.members (new_number 0 M) (suc A.node_rows) (length (tidy_members U new_u (suc A.node_rows))) j
  nodes_b =
      nodes_block U B new_u (of_second A B) (suc A.node_rows) (suc A.member_count) KB.older M gM (node_second A B) (set_second A B (rules_of A KA.older) (rules_of B KB.older) KA.older.tables.members_held KB.older.tables.members_held)

  or_stays : new_u (or_row A B) ≡ or_row A B
  unfolding new_of untidied or_row schema_count
  or_stays = new_schema (suc (A.schema_rows + B.schema_rows)) _ (A.schema_rows + B.schema_rows) (omega arith)

  set_zero : set U 0 ≡ pos (or_row A B) ∷ []
  unfolding set set_of untidied joint_members nat
  set_zero = ap (λ (w : Node). take (nat w.size) (drop (nat w.start) (joint_members A B))) (node_zero A B)

  set_one : tidy_set new_u (set U 0) ≡ pos (or_row A B) ∷ []
  unfolding tidy_set insert_member
  set_one = ap (tidy_set new_u) set_zero ∙ ap (λ (z : ℤ). z ∷ []) (through_pos new_u (or_row A B) ∙ ap pos or_stays)

  sets_one : tidy_members U new_u 1 ≡ pos (or_row A B) ∷ []
  unfolding tidy_members
  sets_one = set_one

  nodes_one : tidy_nodes U new_u 1 ≡ or_node (or_row A B)
  unfolding tidy_nodes tidy_members tidy_node or_node unused
  nodes_one =
      ap₂ (λ (w : Node) (n : ℕ). tidy_node new_u w 0 n) (node_zero A B) (ap length set_one)
      ∙ (λ i. neg_ℤ (pos 1) ∷ pos 1 ∷ (through_pos new_u (or_row A B) ∙ ap pos or_stays) i ∷ through_unused new_u i ∷ through_unused new_u i ∷ neg_ℤ (pos 1) ∷ pos 0 ∷ pos 0 ∷ pos 1 ∷ [])

  first_sets : tidy_members U new_u (suc A.node_rows) ≡ (pos (or_row A B) ∷ []) ++ placed_sets A.nodes A.members (new_number 0 N) A.node_rows
  first_sets =
      let e : suc A.node_rows ≡ 1 + A.node_rows = omega arith in
      ap (tidy_members U new_u) e
      ∙ sets_a A.node_rows (omega arith)
      ∙ ap (λ (l : List ℤ). l ++ placed_sets A.nodes A.members (new_number 0 N) A.node_rows) sets_one

  first_length : length (tidy_members U new_u (suc A.node_rows)) ≡ 1 + length (placed_sets A.nodes A.members (new_number 0 N) A.node_rows)
  first_length = ap length first_sets ∙ omega (arith, length-append (pos (or_row A B) ∷ []) (placed_sets A.nodes A.members (new_number 0 N) A.node_rows))

  first_nodes_lem : tidy_nodes U new_u (suc A.node_rows) ≡ or_node (or_row A B) ++ placed_nodes A.nodes A.members (new_number 0 N) 1 1 A.node_rows
  first_nodes_lem =
      let e : suc A.node_rows ≡ 1 + A.node_rows = omega arith in
      ap (tidy_nodes U new_u) e
      ∙ nodes_a A.node_rows (omega arith)
      ∙ ap₂ (λ (l : List ℤ) (m : ℕ). l ++ placed_nodes A.nodes A.members (new_number 0 N) 1 m A.node_rows) nodes_one (ap length sets_one)

  pub members_are : both_sets (or_row A B) A.nodes A.members (new_number 0 N) A.node_rows B.nodes B.members (new_number 0 M) B.node_rows ≡ (joint A B).members
  unfolding both_sets joint tidied untidied
  members_are =
      let e : suc (A.node_rows + B.node_rows) ≡ suc A.node_rows + B.node_rows = omega arith in
      sym
      (ap (tidy_members U new_u) e
      ∙ sets_b B.node_rows (omega arith)
      ∙ ap (λ (l : List ℤ). l ++ placed_sets B.nodes B.members (new_number 0 M) B.node_rows) first_sets)

  pub nodes_are : both_nodes (or_row A B) A.nodes A.members (new_number 0 N) A.node_rows B.nodes B.members (new_number 0 M) B.node_rows ≡ (joint A B).nodes
  unfolding both_nodes joint tidied untidied
  nodes_are =
      let e : suc (A.node_rows + B.node_rows) ≡ suc A.node_rows + B.node_rows = omega arith in
      let d : suc A.node_rows ≡ 1 + A.node_rows = omega arith in
      sym
      (ap (tidy_nodes U new_u) e
      ∙ nodes_b B.node_rows (omega arith)
      ∙ ap₂ (λ (l p : List ℤ). l ++ p) first_nodes_lem (ap₂ (λ (k m : ℕ). placed_nodes B.nodes B.members (new_number 0 M) k m B.node_rows) d first_length))
