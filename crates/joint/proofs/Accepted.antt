-- 02, No. 11: the join is accepted, and its root is true exactly where the first's or the second's is.
use Prim.Native.Nat.{ℕ, suc, ◌+◌, ◌<◌, ◌≤◌}
use native.Mathlib.Omega.{arith}
use mathlib.Core.Path.{◌≡◌, sym, ◌∙◌, ap, ap₂}
use mathlib.Core.Bool.{Bool, true}
use mathlib.Core.List.{List}
use lib.Dec.{leb}
use lib.IntN.{ℤ, pos}
use lib.ListN.{length, take}
use borrow.Author.Tests.{leb-true}
use Rattle.stab.specs.Basic.{eq_z, ◌or◌, nat, count}
use Rattle.stab.specs.Formula.{row_at, formula_rows, disj, Formula, join, tree, size, depth, small_enough}
use Rattle.stab.specs.Meaning.{Assignment, op, value, truth}
use Rattle.stab.specs.Node.{Tableau, Node, rows, row_count, formula, node}
use Rattle.stab.specs.Rule.{of_rule}
use Rattle.stab.specs.Text.{padded}
use Rattle.stab.specs.Check.{whole_unless, check, is_link, link_count, refusal, present_mode}
use Rattle.stab.specs.Keeps.{KeepsTables, Keeps}
use Rattle.stab.specs.Finding.{accept, no_refusal}
use Rattle.stab.proofs.Bools.{and_left, and_right, otherwise_first, otherwise_second, unless_nothing}
use Rattle.stab.proofs.Whole.{eq_z_true}
use Rattle.stab.proofs.Trees.{tree_agrees, below_nat}
use Rattle.stab.proofs.Tests.{below_tests}
use Rattle.stab.proofs.Scans.{count_false}
use Rattle.stab.proofs.Exactness.{accepts_exactly}
use Rattle.tidied.specs.Tidied.{tidied, new_of}
use Rattle.tidied.specs.Tidy.{in_tables}
use Rattle.tidied.proofs.Foldings.{formula_rows_below, row_at_front}
use Rattle.tidied.proofs.Agreeing.{count_same}
use Rattle.tidied.proofs.Tables as Tidy
use Rattle.tidied.proofs.Tidying.{KeepsRules, rules_of, rules_kept, tidied_fresh, fold, same_links}
use Rattle.tidied.proofs.Longer.{padded_begins, longer_accepted}
use Rattle.joint.specs.Joint.{schema_count, or_row, joint_schema, joint_proof, untidied, joint, joint_fits, Rooms, join_refusal, joined_table, joined_schema, joined_proof, joined_nodes, joined_members}
use Rattle.joint.proofs.Lists.{moved_of, count_add}
use Rattle.joint.proofs.Rows.{schema_length, first_count}
use Rattle.joint.proofs.Nodes.{node_zero, node_first, node_second}
use Rattle.joint.proofs.Joining.{or_tree, joined_rules}

-- ---- links

module _ (A B : Tableau) where
  pub links_join : link_count (untidied A B) ≡ link_count A + link_count B
  unfolding link_count untidied is_link of_rule eq_z node moved_of count
  links_join =
      let e : suc (A.node_rows + B.node_rows) ≡ 1 + A.node_rows + B.node_rows = omega arith in
      ap (count link) e
      ∙ count_add link (1 + A.node_rows) B.node_rows
      ∙ ap (λ (k : ℕ). k + count (λ i. link (1 + A.node_rows + i)) B.node_rows) (count_add link 1 A.node_rows)
      ∙ ap₂ ◌+◌ (ap₂ ◌+◌ no_link (count_same _ _ A.node_rows of_a)) (count_same _ _ B.node_rows of_b)
      ∙ omega arith
    where
      link : ℕ → Bool
      link = is_link (untidied A B).nodes

      no_link : count link 1 ≡ 0
      no_link = count_false link 0 (ap (λ (w : Node). of_rule 8 w) (node_zero A B))

      of_a : (i : ℕ) → i < A.node_rows → link (1 + i) ≡ is_link A.nodes i
      of_a i h = ap (λ (w : Node). of_rule 8 w) (node_first A B i h)

      of_b : (i : ℕ) → i < B.node_rows → link (1 + A.node_rows + i) ≡ is_link B.nodes i
      of_b i h =
          let e : 1 + A.node_rows + i ≡ suc A.node_rows + i = omega arith in
          ap link e ∙ ap (λ (w : Node). of_rule 8 w) (node_second A B i h)

  -- tidying leaves the or's formula
  pub or_tidied : tree (rows (joint A B)) (or_row A B) ≡ tree (rows (untidied A B)) (or_row A B)
  unfolding joint rows tidied untidied or_row
  or_tidied =
      tree_agrees _ _ (A.schema_rows + B.schema_rows)
      (λ r h. formula_rows_below (joint_schema A B) (schema_count A B) _ r (omega (arith, first_count A B)) ∙ sym (formula_rows_below (joint_schema A B) (schema_count A B) (joint_proof A B) r (omega (arith, first_count A B))))

  module _ (KA : Keeps A) (KB : Keeps B) (least : A.least ≡ B.least) (fits : joint_fits (joint A B) ≡ true) where
    Ra : KeepsRules A
    Ra = rules_of A KA.older

    RB : KeepsRules B
    RB = rules_of B KB.older

    held_a : A.member_count ≤ length A.members
    held_a = KA.older.tables.members_held

    held_b : B.member_count ≤ length B.members
    held_b = KB.older.tables.members_held

    -- the tests of 29, one by one
    rows_fit : leb (row_count (joint A B)) 1024 ≡ true
    unfolding joint_fits
    rows_fit = and_left _ _ fits

    nodes_fit : leb (joint A B).node_rows 1024 ≡ true
    unfolding joint_fits
    nodes_fit = and_left _ _ (and_right (leb (row_count (joint A B)) 1024) _ fits)

    members_fit : leb (joint A B).member_count 8192 ≡ true
    unfolding joint_fits
    members_fit = and_left _ _ (and_right (leb (joint A B).node_rows 1024) _ (and_right (leb (row_count (joint A B)) 1024) _ fits))

    or_fits_lem : small_enough (rows (joint A B)) (or_row A B) ≡ true
    unfolding joint_fits joint tidied untidied nat
    or_fits_lem = and_right (leb (joint A B).member_count 8192) _ (and_right (leb (joint A B).node_rows 1024) _ (and_right (leb (row_count (joint A B)) 1024) _ fits))

    or_small_lem : size (tree (rows (untidied A B)) (or_row A B)) ≤ 4096
    unfolding small_enough
    or_small_lem = rw (← or_tidied) (leb-true _ _ (and_left (leb (size (tree (rows (joint A B)) (or_row A B))) 4096) _ or_fits_lem))

    or_flat : depth (tree (rows (untidied A B)) (or_row A B)) ≤ 64
    unfolding small_enough
    or_flat = rw (← or_tidied) (leb-true _ _ (and_right (leb (size (tree (rows (joint A B)) (or_row A B))) 4096) _ or_fits_lem))

    RJ : KeepsRules (untidied A B)
    RJ = joined_rules A B Ra RB KA.older.has_node KB.older.has_node held_a held_b least or_small_lem or_flat

    tables : KeepsTables (joint A B)
    unfolding joint tidied untidied row_count
    tables = record {
      schema_held = omega (arith, schema_length A B);
      proof_held = omega (arith, (fold (untidied A B) RJ).held);
      nodes_held = omega (arith, Tidy.nodes_length (untidied A B) (new_of (untidied A B)) (suc (A.node_rows + B.node_rows)));
      members_held = omega arith;
      row_limit = leb-true _ _ rows_fit;
      node_limit = leb-true _ _ nodes_fit;
      member_limit = leb-true _ _ members_fit;
    }

    has_node_lem : 0 < (joint A B).node_rows
    unfolding joint tidied untidied
    has_node_lem = omega arith

    joint_keeps : Keeps (joint A B)
    unfolding joint
    joint_keeps =
        let K = rules_kept (untidied A B) RJ in
        record {
          older = record { tables = tables; formulas = K.formulas; has_node = has_node_lem; nodes = K.nodes };
          fresh = tidied_fresh (untidied A B) RJ;
        }

    pub joint_links : link_count (joint A B) ≡ link_count A + link_count B
    unfolding joint
    joint_links = same_links (untidied A B) RJ ∙ links_join

    -- the schema alone
    root_alone : (T : Tableau) → KeepsRules T → formula T T.root ≡ tree (row_at T.schema) (nat T.root)
    unfolding formula rows
    root_alone T K =
        let l : nat T.root < T.schema_rows = below_nat T.schema_rows T.root ((below_tests T.schema_rows T.root).1 K.formulas.root_row) in
        tree_agrees _ _ (nat T.root) (λ r h. formula_rows_below T.schema T.schema_rows T.proof r (omega arith))

    joint_root : tree (row_at (joint A B).schema) (nat (joint A B).root) ≡ join disj (tree (row_at A.schema) (nat A.root)) (tree (row_at B.schema) (nat B.root))
    unfolding joint tidied untidied rows or_row nat
    joint_root =
        tree_agrees (row_at (joint_schema A B)) (formula_rows (joint_schema A B) (schema_count A B) (joint_proof A B)) (A.schema_rows + B.schema_rows)
        (λ r h. sym (formula_rows_below (joint_schema A B) (schema_count A B) (joint_proof A B) r (omega (arith, first_count A B))))
        ∙ or_tree A B Ra RB KA.older.has_node KB.older.has_node held_a held_b least
        ∙ ap₂ (join disj) (root_alone A Ra) (root_alone B RB)

-- ---- the theorems

module _ (R : Rooms) (A B : Tableau) (nA lA nB lB : ℕ) (first : check A ≡ accept nA lA) (second : check B ≡ accept nB lB) (join-made : join_refusal R A B ≡ no_refusal) where
  same_least_lem : A.least ≡ B.least
  unfolding join_refusal whole_unless
  same_least_lem =
      eq_z_true _ _
      (unless_nothing (eq_z A.least B.least) _ _
      (otherwise_first _ _ (otherwise_second (refusal present_mode B) _ (otherwise_second (refusal present_mode A) _ (otherwise_second _ _ join-made)))))

  made_fits : joint_fits (joint A B) ≡ true
  unfolding join_refusal whole_unless
  made_fits =
      unless_nothing (joint_fits (joint A B)) _ _
      (otherwise_second _ _ (otherwise_second (refusal present_mode B) _ (otherwise_second (refusal present_mode A) _ (otherwise_second _ _ join-made))))

  keeps_a : Keeps A
  keeps_a = ((accepts_exactly A nA lA).0 first).0

  keeps_b : Keeps B
  keeps_b = ((accepts_exactly B nB lB).0 second).0

  -- "If the present check accepts both inputs and the join isn't turned away, it accepts the join, and the join's links are the sum of theirs."
  pub joint_accepted : check (joint A B) ≡ accept (suc (nA + nB)) (lA + lB)
  unfolding joint tidied untidied
  joint_accepted =
      let a = (accepts_exactly A nA lA).0 first in
      let b = (accepts_exactly B nB lB).0 second in
      (accepts_exactly (joint A B) (suc (nA + nB)) (lA + lB)).1 (
        joint_keeps A B keeps_a keeps_b same_least_lem made_fits,
        ap₂ (λ (m n : ℕ). suc (m + n)) a.1 b.1,
        ap₂ ◌+◌ a.2 b.2 ∙ sym (joint_links A B keeps_a keeps_b same_least_lem made_fits),
      )

  -- and it accepts what is left in lent memory, with those counts
  pub joint_lent : check (in_tables (joint A B) (joined_schema R A B) (joined_proof R A B) (joined_nodes R A B) (joined_members R A B)) ≡ accept (suc (nA + nB)) (lA + lB)
  unfolding joined_schema joined_proof joined_nodes joined_members joined_table
  joint_lent =
      let k = (joint_keeps A B keeps_a keeps_b same_least_lem made_fits).older.tables in
      longer_accepted (joint A B) (joined_schema R A B) (joined_proof R A B) (joined_nodes R A B) (joined_members R A B)
      (begins R.schema (joint A B).schema k.schema_held) (begins R.proof (joint A B).proof k.proof_held)
      (begins R.nodes (joint A B).nodes k.nodes_held) (begins R.members (joint A B).members k.members_held)
      (suc (nA + nB)) (lA + lB) joint_accepted
    where
      begins : {c : ℕ} (m : ℕ) (xs : List ℤ) → c ≤ length xs → take c (joined_table (join_refusal R A B) m xs) ≡ take c xs
      begins {c} m xs held = ap (λ x. take c (joined_table x m xs)) join-made ∙ padded_begins c m xs held

  -- "the first or the second", at every n and assignment
  pub joint_means : (σ : Assignment) (n : ℕ) → truth σ n (tree (row_at (joint A B).schema) (nat (joint A B).root)) ≡ (truth σ n (tree (row_at A.schema) (nat A.root)) or truth σ n (tree (row_at B.schema) (nat B.root)))
  unfolding truth value op
  joint_means σ n = ap (λ (f : Formula). value σ n f (pos 0)) (joint_root A B keeps_a keeps_b same_least_lem made_fits)

  lent_rows : (r : ℕ) → r ≤ nat (joint A B).root → row_at (joined_schema R A B) r ≡ row_at (joint A B).schema r
  unfolding joined_schema joined_table padded joint tidied untidied or_row nat
  lent_rows r h =
      ap (λ x. row_at (joined_table x R.schema (joint_schema A B)) r) join-made
      ∙ row_at_front (joint_schema A B) _ r (omega (arith, schema_length A B, first_count A B))

  -- and so of the schema that is left in lent memory
  pub joint_lent_means : (σ : Assignment) (n : ℕ) → truth σ n (tree (row_at (joined_schema R A B)) (nat (joint A B).root)) ≡ (truth σ n (tree (row_at A.schema) (nat A.root)) or truth σ n (tree (row_at B.schema) (nat B.root)))
  joint_lent_means σ n =
      ap (truth σ n) (tree_agrees (row_at (joined_schema R A B)) (row_at (joint A B).schema) (nat (joint A B).root) lent_rows)
      ∙ joint_means σ n
