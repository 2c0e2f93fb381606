-- The check accepts a record in longer tables as it accepts the record, and tidying makes the same of it: no number past those counted
-- matters.
use Prim.Native.Nat.{ℕ, zero, suc, ◌+◌, ◌*◌, ◌<◌, ◌≤◌}
use native.Mathlib.Omega.{arith}
use mathlib.Core.Path.{◌≡◌, refl, sym, ◌∙◌, ap, ap₂}
use mathlib.Core.Logic.{◌⊎◌, inl, inr}
use mathlib.Core.Bool.{true}
use mathlib.Core.List.{List, ◌++◌}
use lib.IntN.{ℤ, pos, ◌+ℤ◌}
use lib.ListN.{length, take, drop}
use lib.Seq.{take-append-le}
use Rattle.stab.specs.Basic.{nat}
use Rattle.stab.specs.Formula.{formula_rows, tree, well_formed}
use Rattle.stab.specs.Node.{Tableau, Node, rows, row_count, node_at, node, set_of, set, set_start, set_end, child_count, rank, bound}
use Rattle.stab.specs.Rule.{of_rule}
use Rattle.stab.specs.Check.{check, is_link, link_count}
use Rattle.stab.specs.Keeps.{KeepsRow, KeepsFormulas, OuterRow, KeepsSet, KeepsParent, KeepsDrawn, KeepsNode, KeepsTables, Keeps}
use Rattle.stab.specs.Text.{padded}
use Rattle.stab.specs.Finding.{accept}
use Rattle.stab.proofs.Trees.{below_nat}
use Rattle.stab.proofs.Tests.{below_tests}
use Rattle.stab.proofs.Formed.{formed_tests}
use Rattle.stab.proofs.Exactness.{accepts_exactly}
use Rattle.tidied.specs.Tidied.{through, Folding, new_number, folding_of, new_of, tidy_set, tidy_members, tidy_node, tidy_nodes, tidied}
use Rattle.tidied.specs.Tidy.{in_tables}
use Rattle.tidied.proofs.Moves.{Moves, through_itself, tree_moved, formed_moved}
use Rattle.tidied.proofs.Foldings.{formula_rows_below, formula_rows_above, schema_or_proof, renumbered_itself, folding_agrees}
use Rattle.tidied.proofs.Tables.{set_within, same_rows, same_held, same_nodes_lem, same_slice}
use Rattle.tidied.proofs.Agreeing.{Agrees, count_same, children_same, rank_same, bound_same}
use Rattle.tidied.proofs.Carried.{Carries, AllCarried, outer_carried, step_carried, drawn_carried}

-- lent memory begins with what is put there
pub padded_begins : (k n : ℕ) (xs : List ℤ) → k ≤ length xs → take k (padded (pos 0) n xs) ≡ take k xs
unfolding padded
padded_begins k n xs h = take-append-le k xs _ h

module _ (T : Tableau) (schema proof nodes members : List ℤ)
    (same_schema : take (4 * T.schema_rows) schema ≡ take (4 * T.schema_rows) T.schema)
    (same_proof : take (4 * T.proof_rows) proof ≡ take (4 * T.proof_rows) T.proof)
    (same_nodes : take (9 * T.node_rows) nodes ≡ take (9 * T.node_rows) T.nodes)
    (same_members : take T.member_count members ≡ take T.member_count T.members) where
  abbrev U : Tableau
  U = in_tables T schema proof nodes members

  rows_same : (r : ℕ) → r < row_count T → rows U r ≡ rows T r
  unfolding rows row_count in_tables
  rows_same r h = go (schema_or_proof T.schema_rows r)
    where
      go : (r < T.schema_rows) ⊎ ((k : ℕ) × (r ≡ T.schema_rows + k)) → formula_rows schema T.schema_rows proof r ≡ formula_rows T.schema T.schema_rows T.proof r
      go (inl l) =
          formula_rows_below schema T.schema_rows proof r l
          ∙ same_rows T.schema schema (4 * T.schema_rows) same_schema r (omega arith)
          ∙ sym (formula_rows_below T.schema T.schema_rows T.proof r l)
      go (inr (k, e)) =
          rw e
          (formula_rows_above schema T.schema_rows proof k
          ∙ same_rows T.proof proof (4 * T.proof_rows) same_proof k (omega arith)
          ∙ sym (formula_rows_above T.schema T.schema_rows T.proof k))

  module _ (K : Keeps T) where
    formed : (r : ℕ) → r < row_count T → well_formed (rows T) r ≡ true
    formed r h = (formed_tests (rows T) r).1 (K.older.formulas.each r h).formed

    moves : Moves (rows T) (rows U) (row_count T) (λ r. r)
    moves = record { same = λ r h. rows_same r h ∙ sym (renumbered_itself (rows T r)); ordered = λ r q h p l. l }

    same_formula : (r : ℕ) → r < row_count T → tree (rows U) r ≡ tree (rows T) r
    same_formula r h = tree_moved moves formed r h

    -- ---- nodes

    node_same : (j : ℕ) → j < T.node_rows → node U j ≡ node T j
    unfolding node in_tables
    node_same j h = same_nodes_lem T.nodes nodes (9 * T.node_rows) same_nodes K.older.tables.nodes_held j (omega arith)

    set_same : (j : ℕ) → j < T.node_rows → set U j ≡ set T j
    unfolding set set_of in_tables
    set_same j h =
        ap (λ (w : Node). take (nat w.size) (drop (nat w.start) members)) (node_same j h)
        ∙ same_slice T.members members T.member_count same_members K.older.tables.members_held _ _ (set_within T (λ i l. (K.older.nodes i l).set) j h)

    agree : (j : ℕ) → j < T.node_rows → Agrees (node_at U.nodes j) (node_at T.nodes j)
    unfolding node
    agree j h =
        let e = node_same j h in
        record { up = ap (λ (w : Node). w.up) e; rule = ap (λ (w : Node). w.rule) e; by = ap (λ (w : Node). w.by) e }

    -- a field that names a row
    put : (f : Node → ℤ) (j : ℕ) → j < T.node_rows → f (node U j) ≡ through (λ r. r) (f (node T j))
    put f j h = ap f (node_same j h) ∙ sym (through_itself (f (node T j)))

    carries : (j : ℕ) → j < T.node_rows → Carries T U (λ r. r) j j
    unfolding bound child_count in_tables
    carries j h =
        let e = node_same j h in
        record {
          rule = ap (λ (w : Node). w.rule) e;
          on = put (λ w. w.on) j h;
          with = put (λ w. w.with) j h;
          other = put (λ w. w.other) j h;
          by = ap (λ (w : Node). w.by) e;
          unused_to = λ u. ap (λ (w : Node). w.to) e ∙ u;
          members = λ z m. rw (set_same j h, through_itself z) m;
          sources = λ z m. (z, rw (set_same j h) at m, sym (through_itself z));
          bound = bound_same nodes T.nodes T.node_rows agree T.least j h;
          children = children_same nodes T.nodes T.node_rows agree j;
        }

    carried : AllCarried T U (λ r. r) (λ j. j)
    unfolding row_count in_tables
    carried = record {
      moves = moves;
      fits = λ r h. h;
      formed = formed;
      each = carries;
      later = λ i j h. h;
      to = λ i j h l e. ap (λ (w : Node). w.to) (node_same j h) ∙ e;
    }

    -- ---- what a node keeps

    end_same : (j : ℕ) → j < T.node_rows → set_end U.nodes j ≡ set_end T.nodes j
    unfolding set_end node
    end_same j h = ap (λ (w : Node). w.start +ℤ w.size) (node_same j h)

    start_same : (j : ℕ) → j < T.node_rows → set_start U.nodes j ≡ set_start T.nodes j
    unfolding set_start set_end
    start_same zero h = refl
    start_same (suc i) h = end_same i (omega arith)

    outer_row : (z : ℤ) → OuterRow T z → OuterRow U z
    outer_row z o = rw (through_itself z) at (outer_carried carried z o)

    set_kept : (j : ℕ) → j < T.node_rows → KeepsSet U j
    unfolding in_tables
    set_kept j h =
        let k = (K.older.nodes j h).set in
        record {
          follows = ap (λ (w : Node). w.start) (node_same j h) ∙ k.follows ∙ sym (start_same j h);
          not_negative = rw (node_same j h) k.not_negative;
          counted = rw (end_same j h) k.counted;
          order = rw (set_same j h) k.order;
          outer_rows = λ z m. outer_row z (k.outer_rows z (rw (set_same j h) at m));
          last = λ e. end_same j h ∙ k.last e;
        }

    parent_kept : (j : ℕ) → j < T.node_rows → KeepsParent T j → KeepsParent U j
    unfolding in_tables
    parent_kept zero h p = (ap (λ (w : Node). w.up) (node_same zero h) ∙ p.0, set_same zero h ∙ p.1)
    parent_kept (suc i) h p = rw (node_same (suc i) h) p

    drawn_kept : (j : ℕ) → j < T.node_rows → KeepsParent T j → KeepsDrawn T j → KeepsDrawn U j
    unfolding node
    drawn_kept zero h p d = tt
    drawn_kept (suc i) h p d = λ z m.
        let b : nat (node T (suc i)).up < suc i = below_nat (suc i) _ ((below_tests (suc i) _).1 p) in
        let l : nat (node T (suc i)).up < T.node_rows = omega arith in
        let x = drawn_carried carried (nat (node T (suc i)).up) l (K.older.nodes _ l).step (rank T.nodes (suc i)) z (d z (rw (set_same (suc i) h) at m)) in
        rw ((agree (suc i) h).up, rank_same U.nodes T.nodes T.node_rows agree (suc i) h) (rw (through_itself z) at x)

    node_kept : (j : ℕ) → j < T.node_rows → KeepsNode U j
    node_kept j h =
        let k = K.older.nodes j h in
        record {
          set = set_kept j h;
          parent = parent_kept j h k.parent;
          drawn = drawn_kept j h k.parent k.drawn;
          step = step_carried carried j h k.step (λ i l z m. ((K.older.nodes i l).set.outer_rows z m).is_row);
        }

    -- ---- the whole record

    row_kept : (r : ℕ) → r < row_count T → KeepsRow (rows U) r
    row_kept r h =
        let k = K.older.formulas.each r h in
        record {
          formed = formed_moved moves formed r h k.formed;
          small = rw (same_formula r h) k.small;
          flat = rw (same_formula r h) k.flat;
        }

    formulas_kept : KeepsFormulas (rows U) (row_count T) T.schema_rows T.root T.least
    unfolding row_count
    formulas_kept =
        let k = K.older.formulas in
        let l : nat T.root < T.schema_rows = below_nat T.schema_rows T.root ((below_tests T.schema_rows T.root).1 k.root_row) in
        record {
          root_row = k.root_row;
          least_range = k.least_range;
          each = row_kept;
          root_outer = rw (same_formula (nat T.root) (omega arith)) k.root_outer;
        }

    tables_kept : KeepsTables U
    unfolding row_count in_tables
    tables_kept =
        let k = K.older.tables in
        record {
          schema_held = same_held T.schema schema (4 * T.schema_rows) same_schema k.schema_held;
          proof_held = same_held T.proof proof (4 * T.proof_rows) same_proof k.proof_held;
          nodes_held = same_held T.nodes nodes (9 * T.node_rows) same_nodes k.nodes_held;
          members_held = same_held T.members members T.member_count same_members k.members_held;
          row_limit = k.row_limit;
          node_limit = k.node_limit;
          member_limit = k.member_limit;
        }

    longer_keeps : Keeps U
    unfolding row_count in_tables
    longer_keeps = record {
      older = record { tables = tables_kept; formulas = formulas_kept; has_node = K.older.has_node; nodes = node_kept };
      fresh = λ r q s h l e. K.fresh r q s h l (sym (rows_same q (omega arith)) ∙ e ∙ rows_same r h);
    }

    same_links : link_count U ≡ link_count T
    unfolding link_count is_link node in_tables
    same_links = count_same _ _ T.node_rows (λ j h. ap (of_rule 8) (node_same j h))

    -- ---- tidied

    folding_longer : folding_of U ≡ folding_of T
    unfolding folding_of in_tables
    folding_longer =
        folding_agrees schema T.schema T.schema_rows (λ r h. same_rows T.schema schema (4 * T.schema_rows) same_schema r (omega arith))
        proof T.proof T.proof_rows (λ k h. same_rows T.proof proof (4 * T.proof_rows) same_proof k (omega arith))

    new_longer : new_of U ≡ new_of T
    unfolding new_of in_tables
    new_longer = ap (λ (F : Folding). new_number T.schema_rows F.numbers) folding_longer

    members_longer : (j : ℕ) → j ≤ T.node_rows → tidy_members U (new_of U) j ≡ tidy_members T (new_of T) j
    unfolding tidy_members
    members_longer zero h = refl
    members_longer (suc j) h = ap₂ ◌++◌ (members_longer j (omega arith)) (ap₂ tidy_set new_longer (set_same j h))

    nodes_longer : (j : ℕ) → j ≤ T.node_rows → tidy_nodes U (new_of U) j ≡ tidy_nodes T (new_of T) j
    unfolding tidy_nodes
    nodes_longer zero h = refl
    nodes_longer (suc j) h =
        ap₂ ◌++◌ (nodes_longer j (omega arith))
        (λ i. tidy_node (new_longer i) (node_same j h i) (length (members_longer j (omega arith) i)) (length (tidy_set (new_longer i) (set_same j h i))))

    -- what is tidied does not rest on what stands past the numbers counted
    pub tidied_longer : tidied U ≡ in_tables (tidied T) schema (tidied T).proof (tidied T).nodes (tidied T).members
    unfolding tidied in_tables
    tidied_longer i =
        let m = members_longer T.node_rows (omega arith) in
        record {
          schema = schema;
          schema_rows = T.schema_rows;
          proof = (folding_longer i).table;
          proof_rows = (folding_longer i).count;
          root = T.root;
          least = T.least;
          nodes = nodes_longer T.node_rows (omega arith) i;
          node_rows = T.node_rows;
          members = m i;
          member_count = length (m i);
        }

  -- a record that the check accepts is accepted, with the same nodes and links, in all tables that begin with the numbers counted
  pub longer_accepted : (n l : ℕ) → check T ≡ accept n l → check (in_tables T schema proof nodes members) ≡ accept n l
  unfolding in_tables
  longer_accepted n l h =
      let a = (accepts_exactly T n l).0 h in
      (accepts_exactly U n l).1 (longer_keeps a.0, a.1, a.2 ∙ sym (same_links a.0))
