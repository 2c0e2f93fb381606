-- 02, No. 10: what the older check accepts, the check accepts after tidying, with the same nodes and links.
use Prim.Native.Nat.{ℕ, zero, suc, ◌<◌, ◌≤◌}
use native.Mathlib.Omega.{arith}
use mathlib.Core.Path.{◌≡◌, refl, sym, ◌∙◌, ap, ap₂, subst}
use mathlib.Core.Logic.{⊎_elim}
use mathlib.Core.Bool.{true}
use mathlib.Core.List.{[], ◌∷◌, Memᴰ}
use lib.IntN.{ℤ, pos, ◌+ℤ◌}
use lib.Signed.{le_z}
use lib.ListN.{length, take, drop, length-append, length-take}
use Rattle.stab.specs.Basic.{eq_z, nat}
use Rattle.stab.specs.Formula.{tree, well_formed}
use Rattle.stab.specs.Node.{Tableau, Node, rows, row_count, node_at, node, set_of, set, set_start, set_end, child_count, rank, bound}
use Rattle.stab.specs.Rule.{of_rule}
use Rattle.stab.specs.Check.{check, check_older, is_link, link_count}
use Rattle.stab.specs.Keeps.{Below, KeepsRow, KeepsFormulas, OuterRow, KeepsSet, KeepsParent, KeepsDrawn, DrawnFrom, KeepsNode, KeepsTables, KeepsOlder, Fresh, Keeps}
use Rattle.stab.specs.Finding.{accept}
use Rattle.stab.proofs.Whole.{atom, num, ◌⊕◌, of_le, le_of, le_z_of, of_le_z, plus_nat, nonneg_minus}
use Rattle.stab.proofs.Trees.{below_nat, below_pos}
use Rattle.stab.proofs.Scans.{below_suc}
use Rattle.stab.proofs.Tests.{below_tests}
use Rattle.stab.proofs.Formed.{formed_tests}
use Rattle.stab.proofs.Exactness.{accepts_exactly, older_accepts_exactly}
use Rattle.tidied.specs.Tidied.{through, insert_member, tidy_set, tidy_members, folding_of, new_of, tidied}
use Rattle.tidied.proofs.Moves.{Moves, through_below, tree_moved, formed_moved}
use Rattle.tidied.proofs.Foldings.{Folded, folded, folded_moves, new_schema}
use Rattle.tidied.proofs.Sets.{tidy_member, tidy_source, tidy_ascends, tidy_length}
use Rattle.tidied.proofs.Tables.{tidy_of, nodes_length, node_tidied, set_tidied}
use Rattle.tidied.proofs.Agreeing.{Agrees, count_same, children_same, rank_same, bound_same}
use Rattle.tidied.proofs.Carried.{Carries, AllCarried, outer_carried, step_carried, drawn_carried}

-- what tidying rests on: the rows keep the rules, whatever their number
pub record KeepsRules (T : Tableau) : Type 0 where
  pub formulas : KeepsFormulas (rows T) (row_count T) T.schema_rows T.root T.least
  pub nodes : (j : ℕ) → j < T.node_rows → KeepsNode T j

module _ (T : Tableau) (K : KeepsRules T) where
  formed : (r : ℕ) → r < row_count T → well_formed (rows T) r ≡ true
  formed r h = (formed_tests (rows T) r).1 (K.formulas.each r h).formed

  -- ---- rows

  pub fold : Folded T.schema T.schema_rows T.proof T.proof_rows (folding_of T)
  unfolding folding_of rows row_count formed
  fold = folded T.schema T.schema_rows T.proof T.proof_rows formed

  pub moves : Moves (rows T) (rows (tidied T)) (row_count T) (new_of T)
  unfolding folding_of new_of rows row_count tidied formed
  moves = folded_moves T.schema T.schema_rows T.proof T.proof_rows formed

  new_fits : (r : ℕ) → r < row_count T → new_of T r < row_count (tidied T)
  unfolding new_of row_count tidied
  new_fits r h = fold.fits r h

  -- each row's formula is the one it was
  pub same_formula : (r : ℕ) → r < row_count T → tree (rows (tidied T)) (new_of T r) ≡ tree (rows T) r
  same_formula r h = tree_moved moves formed r h

  -- ---- nodes

  pub node_is : (j : ℕ) → j < T.node_rows → node (tidied T) j ≡ tidy_of T (new_of T) j
  unfolding node tidied
  node_is j h = node_tidied T (new_of T) T.node_rows j h

  pub set_is : (j : ℕ) → j < T.node_rows → set (tidied T) j ≡ tidy_set (new_of T) (set T j)
  unfolding set set_of tidy_of tidied nat
  set_is j h =
      ap (λ (w : Node). take (nat w.size) (drop (nat w.start) (tidy_members T (new_of T) T.node_rows))) (node_is j h)
      ∙ set_tidied T (new_of T) T.node_rows j h

  agree : (j : ℕ) → j < T.node_rows → Agrees (node_at (tidied T).nodes j) (node_at T.nodes j)
  unfolding node tidy_of
  agree j h =
      let e = node_is j h in
      record { up = ap (λ (w : Node). w.up) e; rule = ap (λ (w : Node). w.rule) e; by = ap (λ (w : Node). w.by) e }

  carries : (j : ℕ) → j < T.node_rows → Carries T (tidied T) (new_of T) j j
  unfolding tidy_of bound child_count tidied
  carries j h =
      let e = node_is j h in
      record {
        rule = ap (λ (w : Node). w.rule) e;
        on = ap (λ (w : Node). w.on) e;
        with = ap (λ (w : Node). w.with) e;
        other = ap (λ (w : Node). w.other) e;
        by = ap (λ (w : Node). w.by) e;
        unused_to = λ u. ap (λ (w : Node). w.to) e ∙ u;
        members = λ z m. rw (set_is j h) (tidy_member (new_of T) (set T j) z m);
        sources = λ z m. tidy_source (new_of T) (set T j) z (rw (set_is j h) at m);
        bound = bound_same (tidied T).nodes T.nodes T.node_rows agree T.least j h;
        children = children_same (tidied T).nodes T.nodes T.node_rows agree j;
      }

  pub carried : AllCarried T (tidied T) (new_of T) (λ j. j)
  unfolding tidy_of
  carried = record {
    moves = moves;
    fits = new_fits;
    formed = formed;
    each = carries;
    later = λ i j h. h;
    to = λ i j h l e. ap (λ (w : Node). w.to) (node_is j h) ∙ e;
  }

  member_row : (j : ℕ) → j < T.node_rows → (z : ℤ) → Memᴰ z (set T j) → Below (row_count T) z
  member_row j h z m = ((K.nodes j h).set.outer_rows z m).is_row

  -- ---- sets follow one another

  size_is : (j : ℕ) → j < T.node_rows → (node (tidied T) j).size ≡ pos (length (tidy_set (new_of T) (set T j)))
  unfolding tidy_of
  size_is j h = ap (λ (w : Node). w.size) (node_is j h)

  start_is : (j : ℕ) → j < T.node_rows → (node (tidied T) j).start ≡ pos (length (tidy_members T (new_of T) j))
  unfolding tidy_of
  start_is j h = ap (λ (w : Node). w.start) (node_is j h)

  end_is : (j : ℕ) → j < T.node_rows → set_end (tidied T).nodes j ≡ pos (length (tidy_members T (new_of T) (suc j)))
  unfolding set_end node tidy_members
  end_is j h =
      ap₂ ◌+ℤ◌ (start_is j h) (size_is j h)
      ∙ ap pos (sym (length-append (tidy_members T (new_of T) j) (tidy_set (new_of T) (set T j))))

  follows : (j : ℕ) → j < T.node_rows → (node (tidied T) j).start ≡ set_start (tidied T).nodes j
  unfolding set_start set_end tidy_members
  follows zero h = start_is zero h
  follows (suc i) h = start_is (suc i) h ∙ sym (end_is i (omega arith))

  -- the members of more nodes are no fewer
  members_grow : (i j : ℕ) → i ≤ j → length (tidy_members T (new_of T) i) ≤ length (tidy_members T (new_of T) j)
  unfolding tidy_members
  members_grow i zero h = let e : i ≡ 0 = omega arith in rw e (omega arith)
  members_grow i (suc j) h =
      ⊎_elim
      (λ l. omega (arith, members_grow i j (omega arith), length-append (tidy_members T (new_of T) j) (tidy_set (new_of T) (set T j))))
      (λ e. rw e (omega arith))
      (below_suc i (suc j) (omega arith))

  set_kept : (j : ℕ) → j < T.node_rows → KeepsSet (tidied T) j
  unfolding tidied
  set_kept j h = record {
    follows = follows j h;
    not_negative = rw (size_is j h) (of_le_z (le_of (num 0) (num (length (tidy_set (new_of T) (set T j)))) (omega arith)));
    counted = rw (end_is j h) (of_le_z (le_of (num (length (tidy_members T (new_of T) (suc j)))) (num (length (tidy_members T (new_of T) T.node_rows))) (omega (arith, members_grow (suc j) T.node_rows (omega arith)))));
    order = rw (set_is j h) (tidy_ascends (new_of T) (set T j));
    outer_rows = λ z m. outer z (tidy_source (new_of T) (set T j) z (rw (set_is j h) at m));
    last = λ e. end_is j h ∙ ap (λ (n : ℕ). pos (length (tidy_members T (new_of T) n))) e;
  }
    where
      outer : (z : ℤ) → (x : ℤ) × Memᴰ x (set T j) × (z ≡ through (new_of T) x) → OuterRow (tidied T) z
      outer z (x, m, e) = rw e (outer_carried carried x ((K.nodes j h).set.outer_rows x m))

  -- ---- parents, and what sets are drawn from

  -- the root is a schema row, and keeps its number
  root_kept : through (new_of T) T.root ≡ T.root
  unfolding new_of
  root_kept =
      let b = (below_tests T.schema_rows T.root).1 K.formulas.root_row in
      through_below (new_of T) T.schema_rows T.root b
      ∙ ap pos (new_schema T.schema_rows (folding_of T).numbers (nat T.root) (below_nat T.schema_rows T.root b))
      ∙ below_pos T.schema_rows T.root b

  parent_kept : (j : ℕ) → j < T.node_rows → KeepsParent T j → KeepsParent (tidied T) j
  unfolding tidy_of tidy_set insert_member tidied
  parent_kept zero h p = (
    ap (λ (w : Node). w.up) (node_is zero h) ∙ p.0,
    set_is zero h ∙ ap (tidy_set (new_of T)) p.1 ∙ ap (λ (z : ℤ). z ∷ []) root_kept,
  )
  parent_kept (suc i) h p = rw (ap (λ (w : Node). w.up) (node_is (suc i) h)) p

  drawn_kept : (j : ℕ) → j < T.node_rows → KeepsParent T j → KeepsDrawn T j → KeepsDrawn (tidied T) j
  unfolding node
  drawn_kept zero h p d = tt
  drawn_kept (suc i) h p d = λ z m. go z (tidy_source (new_of T) (set T (suc i)) z (rw (set_is (suc i) h) at m))
    where
      up : (node (tidied T) (suc i)).up ≡ (node T (suc i)).up
      up = (agree (suc i) h).up

      go : (z : ℤ) → (x : ℤ) × Memᴰ x (set T (suc i)) × (z ≡ through (new_of T) x) → DrawnFrom (tidied T) (nat (node (tidied T) (suc i)).up) (rank (tidied T).nodes (suc i)) z
      go z (x, m, e) =
          let b : nat (node T (suc i)).up < suc i = below_nat (suc i) _ ((below_tests (suc i) _).1 p) in
          let l : nat (node T (suc i)).up < T.node_rows = omega arith in
          rw (e, up, rank_same (tidied T).nodes T.nodes T.node_rows agree (suc i) h)
          (drawn_carried carried (nat (node T (suc i)).up) l (K.nodes _ l).step (rank T.nodes (suc i)) x (d x m))

  node_kept : (j : ℕ) → j < T.node_rows → KeepsNode (tidied T) j
  node_kept j h =
      let k = K.nodes j h in
      record {
        set = set_kept j h;
        parent = parent_kept j h k.parent;
        drawn = drawn_kept j h k.parent k.drawn;
        step = step_carried carried j h k.step member_row;
      }

  -- ---- rows

  row_kept : (r : ℕ) → r < row_count (tidied T) → KeepsRow (rows (tidied T)) r
  unfolding row_count tidied new_of rows
  row_kept r h =
      let o = fold.source r h in
      subst (KeepsRow (rows (tidied T))) o.2 (moved o.0 o.1)
    where
      moved : (r : ℕ) → r < row_count T → KeepsRow (rows (tidied T)) (new_of T r)
      moved r h =
          let k = K.formulas.each r h in
          record {
            formed = formed_moved moves formed r h k.formed;
            small = rw (same_formula r h) k.small;
            flat = rw (same_formula r h) k.flat;
          }

  -- the root's formula is the one it was
  pub same_root_lem : tree (rows (tidied T)) (nat T.root) ≡ tree (rows T) (nat T.root)
  unfolding new_of row_count
  same_root_lem =
      let b = (below_tests T.schema_rows T.root).1 K.formulas.root_row in
      let l : nat T.root < T.schema_rows = below_nat T.schema_rows T.root b in
      ap (tree (rows (tidied T))) (sym (new_schema T.schema_rows (folding_of T).numbers (nat T.root) l))
      ∙ same_formula (nat T.root) (omega arith)

  formulas_kept : KeepsFormulas (rows (tidied T)) (row_count (tidied T)) T.schema_rows T.root T.least
  formulas_kept = record {
    root_row = K.formulas.root_row;
    least_range = K.formulas.least_range;
    each = row_kept;
    root_outer = rw same_root_lem K.formulas.root_outer;
  }

  pub rules_kept : KeepsRules (tidied T)
  unfolding tidied
  rules_kept = record { formulas = formulas_kept; nodes = node_kept }

  -- no proof row is left that equals an earlier row
  pub tidied_fresh : Fresh (tidied T)
  unfolding rows row_count tidied
  tidied_fresh = λ r q s h l. fold.fresh r q s h l

  -- ---- how much is left

  pub fewer_rows : (tidied T).proof_rows ≤ T.proof_rows
  unfolding tidied
  fewer_rows = fold.few

  -- the sets of the first j nodes, tidied, have no more members than they had
  few_members_lem : (j : ℕ) → j ≤ T.node_rows → le_z (pos (length (tidy_members T (new_of T) j))) (set_start T.nodes j) ≡ true
  unfolding tidy_members set_start node set set_of
  few_members_lem zero h = refl
  few_members_lem (suc j) h =
      let k = (K.nodes j h).set in
      let start = (node T j).start in
      let many = (node T j).size in
      let before = of_le (num (length (tidy_members T (new_of T) j))) (atom start) (subst (λ (z : ℤ). le_z (pos (length (tidy_members T (new_of T) j))) z ≡ true) (sym k.follows) (few_members_lem j (omega arith))) in
      let none_below = nonneg_minus many (le_z_of k.not_negative) in
      let here = tidy_length (new_of T) (set T j) in
      let there = length-take (nat many) (drop (nat start) T.members) in
      le_of (num (length (tidy_members T (new_of T) (suc j)))) (atom start ⊕ atom many)
      (omega (arith, before, none_below, here, there, plus_nat many, length-append (tidy_members T (new_of T) j) (tidy_set (new_of T) (set T j))))

  pub fewer_members : (tidied T).member_count ≤ T.member_count
  unfolding tidied tidy_members set_start set_end
  fewer_members = go T.node_rows (λ j e. (K.nodes j (omega arith)).set) (few_members_lem T.node_rows (omega arith))
    where
      go : (n : ℕ) → ((j : ℕ) → suc j ≡ n → KeepsSet T j) → le_z (pos (length (tidy_members T (new_of T) n))) (set_start T.nodes n) ≡ true → length (tidy_members T (new_of T) n) ≤ T.member_count
      go zero k l = omega arith
      go (suc j) k l =
          let a = of_le (num (length (tidy_members T (new_of T) (suc j)))) (atom (set_end T.nodes j)) l in
          let b = of_le (atom (set_end T.nodes j)) (num T.member_count) (le_z_of (k j refl).counted) in
          omega (arith, a, b)

  pub same_links : link_count (tidied T) ≡ link_count T
  unfolding link_count tidied is_link of_rule
  same_links = count_same _ _ T.node_rows (λ j h. ap (λ (z : ℤ). eq_z z (pos 8)) (agree j h).rule)

-- ---- the theorem

pub rules_of : (T : Tableau) → KeepsOlder T → KeepsRules T
rules_of T k = record { formulas = k.formulas; nodes = k.nodes }

tables_kept : (T : Tableau) (k : KeepsOlder T) → KeepsTables (tidied T)
unfolding tidied row_count
tables_kept T k =
    let R = rules_of T k in
    record {
      schema_held = k.tables.schema_held;
      proof_held = omega (arith, (fold T R).held);
      nodes_held = omega (arith, nodes_length T (new_of T) T.node_rows);
      members_held = omega arith;
      row_limit = omega (arith, fewer_rows T R, k.tables.row_limit);
      node_limit = k.tables.node_limit;
      member_limit = omega (arith, fewer_members T R, k.tables.member_limit);
    }

pub tidied_keeps : (T : Tableau) → KeepsOlder T → Keeps (tidied T)
unfolding tidied
tidied_keeps T k =
    let R = rules_of T k in
    record {
      older = record { tables = tables_kept T k; formulas = (rules_kept T R).formulas; has_node = k.has_node; nodes = (rules_kept T R).nodes };
      fresh = tidied_fresh T R;
    }

-- "Every record that the older entry accepts is accepted by the present check after tidying, with the same nodes and links"
pub tidied_accepted : (T : Tableau) (n l : ℕ) → check_older T ≡ accept n l → check (tidied T) ≡ accept n l
unfolding tidied
tidied_accepted T n l h =
    let a = (older_accepts_exactly T n l).0 h in
    (accepts_exactly (tidied T) n l).1 (tidied_keeps T a.0, a.1, a.2 ∙ sym (same_links T (rules_of T a.0)))
