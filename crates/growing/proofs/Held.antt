-- Rows that have passed still pass with an accepted row more, and without their last row.
use Rattle.std.specs.Prelude.{if◌then◌else◌}
use Prim.Native.Nat.{ℕ, zero, suc, ◌+◌, ◌*◌, ◌-◌, ◌<◌, ◌≤◌}
use native.Mathlib.Omega.{arith}
use mathlib.Core.Path.{◌≡◌, refl, sym, ◌∙◌, ap, ap₂, subst}
use mathlib.Core.Logic.{⊎_elim}
use mathlib.Core.Bool.{Bool, true, false}
use mathlib.Core.List.{List, [], ◌∷◌, ◌++◌}
use lib.Dec.{leb, ltb}
use lib.IntN.{ℤ, pos, ◌+ℤ◌, pos-ne-negsuc}
use lib.Signed.{le_z}
use lib.ListN.{length, take, drop, replicate, length-append, length-replicate}
use lib.Seq.{length-take-le}
use borrow.Author.Tests.{leb-true, le-leb, ltb-true}
use Rattle.stab.specs.Basic.{eq_z, nat, count}
use Rattle.stab.specs.Node.{Tableau, Node, rows, row_count, formula, node_at, node, set_of, set, set_start, set_end, names, child_count_of, child_count}
use Rattle.stab.specs.Rule.{rule, rule_of, children_held, children_as}
use Rattle.stab.specs.Check.{whole_unless, at_unless, set_refusal, parent_refusal, step_refusal, node_refusal}
use Rattle.stab.specs.Keeps.{OuterRow, KeepsSet, KeepsParent, KeepsTables}
use Rattle.stab.specs.Text.{padded}
use Rattle.stab.specs.declared.Rule.{Rule}
use Rattle.stab.specs.Finding.{no_refusal}
use Rattle.stab.proofs.Bools.{and_left, and_right, if_false, unless_nothing, nothing_unless, otherwise_first, otherwise_second, otherwise_nothing}
use Rattle.stab.proofs.Whole.{atom, num, of_le, le_of, le_z_of, of_le_z, eq_z_true, eq_z_not, pos_injective}
use Rattle.stab.proofs.Trees.{below_nat, below_pos}
use Rattle.stab.proofs.Tests.{below_tests}
use Rattle.stab.proofs.Scans.{below_suc}
use Rattle.stab.proofs.Exactness.Nodes.{set_clears, parent_clears}
use Rattle.tidied.proofs.Agreeing.{count_same, count_none}
use Rattle.tidied.proofs.Tables.{node_at_front, slice_front, slice_take, start_pos, size_pos, set_within}
use Rattle.growing.specs.Growing.{NodeRow, node_numbers, holding, added, room_for, beyond_refusal, added_refusal, new_refusal, shortened}
use Rattle.growing.proofs.Local.{Alike, count_same as rows-counted, step_same}
use Rattle.growing.proofs.States.{Holds, node_at_take, added_alike}

-- ---- lengths

pub padded_length : (n : ℕ) (xs : List ℤ) → length xs ≤ n → length (padded (pos 0) n xs) ≡ n
unfolding padded
padded_length n xs h = length-append xs (replicate (n - length xs) (pos 0)) ∙ omega (arith, length-replicate (n - length xs) (pos 0))

-- ---- what a set and a parent keep, in two states that agree

module _ {T U : Tableau} {k : ℕ} (A : Alike T U k) where
  end_same : (j : ℕ) → j < k → set_end U.nodes j ≡ set_end T.nodes j
  unfolding set_end node
  end_same j h = ap (λ (w : Node). w.start +ℤ w.size) (A.node j h)

  start_same : (j : ℕ) → j < k → set_start U.nodes j ≡ set_start T.nodes j
  unfolding set_start set_end
  start_same zero h = refl
  start_same (suc i) h = end_same i (omega arith)

  formulas_same : formula U ≡ formula T
  unfolding formula rows
  formulas_same = rw (A.schema, A.schema_rows, A.proof)

  pub set_kept : (j : ℕ) → j < k → KeepsSet T j → le_z (set_end T.nodes j) (pos U.member_count) ≡ true → (suc j ≡ U.node_rows → set_end T.nodes j ≡ pos U.member_count) → KeepsSet U j
  set_kept j h s within last = record {
    follows = ap (λ (w : Node). w.start) (A.node j h) ∙ s.follows ∙ sym (start_same j h);
    not_negative = rw (A.node j h) s.not_negative;
    counted = rw (end_same j h) (of_le_z within);
    order = rw (A.set j h) s.order;
    outer_rows = λ z m. outer z (s.outer_rows z (rw (A.set j h) at m));
    last = λ e. end_same j h ∙ last e;
  }
    where
      outer : (z : ℤ) → OuterRow T z → OuterRow U z
      outer z o = record { is_row = rw (rows-counted A) o.is_row; outer = rw formulas_same o.outer }

  pub parent_kept : (j : ℕ) → j < k → KeepsParent T j → KeepsParent U j
  parent_kept zero h p = (ap (λ (w : Node). w.up) (A.node 0 h) ∙ p.0, A.set 0 h ∙ p.1 ∙ ap (λ (z : ℤ). z ∷ []) (sym A.root))
  parent_kept (suc i) h p = rw (A.node (suc i) h) p

  pub rule_same : (j : ℕ) → j < k → rule U j ≡ rule T j
  unfolding rule
  rule_same j h = ap (λ (w : Node). rule_of w.rule) (A.node j h)

  names_same : (z : ℤ) (j : ℕ) → j < k → names U.nodes z j ≡ names T.nodes z j
  unfolding names node
  names_same z j h = ap (λ (w : Node). eq_z w.up z) (A.node j h)

  pub counted_same : (j n : ℕ) → n ≤ k → child_count_of U.nodes n j ≡ child_count_of T.nodes n j
  unfolding child_count_of
  counted_same j n h = count_same _ _ n (λ i l. names_same (pos j) i (omega arith))

-- one number more is counted or not
count_more : (p : ℕ → Bool) (n : ℕ) → count p n ≤ count p (suc n)
unfolding count
count_more p n = go (p n)
  where
    go : (v : Bool) → count p n ≤ (if v then suc (count p n) else count p n)
    go true = omega arith
    go false = omega arith

-- nothing is found of a node, missing children aside
pub held_node : (T : Tableau) (j : ℕ) → step_refusal T j ≡ no_refusal → children_held T j ≡ true → node_refusal false T j ≡ no_refusal
unfolding node_refusal at_unless children_as
held_node T j s c = otherwise_nothing (step_refusal T j) _ s ∙ nothing_unless (children_held T j) _ _ c

pub held_step : (T : Tableau) (j : ℕ) → node_refusal false T j ≡ no_refusal → step_refusal T j ≡ no_refusal
unfolding node_refusal
held_step T j h = otherwise_first _ _ h

pub held_children : (T : Tableau) (j : ℕ) → node_refusal false T j ≡ no_refusal → children_held T j ≡ true
unfolding node_refusal at_unless children_as
held_children T j h = unless_nothing (children_held T j) _ _ (otherwise_second (step_refusal T j) _ h)

-- a node's parent is not a later node
no_later : (T : Tableau) (i p : ℕ) → i ≤ p → KeepsParent T i → names T.nodes (pos p) i ≡ false
unfolding names node
no_later T zero p h k = ap (λ (z : ℤ). eq_z z (pos p)) k.0 ∙ eq_z_not _ _ (λ e. pos-ne-negsuc p 0 (sym e))
no_later T (suc i) p h k =
    let b = (below_tests (suc i) (node_at T.nodes (suc i)).up).1 k in
    eq_z_not _ _ (λ e. let l = below_nat (suc i) (node_at T.nodes (suc i)).up b in let q = pos_injective _ p (below_pos (suc i) _ b ∙ e) in omega arith)

-- where no child is beyond, the parent's children are not too many
beyond_held : (U : Tableau) (k j : ℕ) → j < k → (node_at U.nodes k).up ≡ pos j → beyond_refusal U k ≡ no_refusal → children_held U j ≡ true
unfolding beyond_refusal at_unless node nat
beyond_held U zero j h e b = absurd (omega arith)
beyond_held U (suc i) j h e b = subst (λ (z : ℤ). children_held U (nat z) ≡ true) e (unless_nothing (children_held U (nat (node_at U.nodes (suc i)).up)) _ _ b)

-- ---- what room is

pub fits : (T : Tableau) (w : NodeRow) → room_for T w ≡ true → (T.node_rows < 1024) × (T.member_count + length w.members ≤ 8192) × (9 * suc T.node_rows ≤ length T.nodes) × (T.member_count + length w.members ≤ length T.members)
unfolding room_for
fits T w room =
    let a = and_right (ltb T.node_rows 1024) _ room in
    let b = and_right (leb (T.member_count + length w.members) 8192) _ a in
    (ltb-true _ _ (and_left (ltb T.node_rows 1024) _ room), leb-true _ _ (and_left _ _ a), leb-true _ _ (and_left _ _ b), leb-true _ _ (and_right (leb (9 * suc T.node_rows) (length T.nodes)) _ b))

module _ (T : Tableau) (H : Holds T) where
  -- ---- one row more, where there is room

  module _ (w : NodeRow) (room : room_for T w ≡ true) where
    A : Alike T (added T w) T.node_rows
    A = added_alike T H w room

    pub old_set : (j : ℕ) → j < T.node_rows → KeepsSet (added T w) j
    unfolding added holding
    old_set j h =
        set_kept A j h (H.sets j h)
        (le_of (atom (set_end T.nodes j)) (num (T.member_count + length w.members)) (omega (arith, of_le (atom (set_end T.nodes j)) (num T.member_count) (le_z_of (H.sets j h).counted))))
        (λ e. absurd (omega arith))

    pub old_parent : (j : ℕ) → j < T.node_rows → KeepsParent (added T w) j
    old_parent j h = parent_kept A j h (H.parents j h)

    pub old_step : (j : ℕ) → j < T.node_rows → step_refusal (added T w) j ≡ no_refusal
    old_step j h = step_same A j h (H.parents j h) ∙ held_step T j (H.steps j h)

    -- the children that node j has with the new row
    children_are : (j : ℕ) → child_count (added T w) j ≡ (if names (added T w).nodes (pos j) T.node_rows then suc (child_count T j) else child_count T j)
    unfolding child_count child_count_of added holding count
    children_are j = ap (λ (m : ℕ). if names (added T w).nodes (pos j) T.node_rows then suc m else m) (counted_same A j T.node_rows (omega arith))

    -- a node that is not the new row's parent has those that it had
    pub other_children : (j : ℕ) → j < T.node_rows → names (added T w).nodes (pos j) T.node_rows ≡ false → children_held (added T w) j ≡ true
    unfolding children_held
    other_children j h e =
        ap₂ leb (children_are j ∙ if_false (names (added T w).nodes (pos j) T.node_rows) _ _ e) (ap (λ (r : Rule). r.children) (rule_same A j h)) ∙ held_children T j (H.steps j h)

    pub new_children : KeepsParent (added T w) T.node_rows → children_held (added T w) T.node_rows ≡ true
    unfolding children_held child_count child_count_of
    new_children p =
        let z : child_count (added T w) T.node_rows ≡ 0 = children_are T.node_rows ∙ if_false _ _ _ (no_later (added T w) T.node_rows T.node_rows (omega arith) p) ∙ count_none _ T.node_rows (λ i l. no_later T i T.node_rows (omega arith) (H.parents i l)) in
        ap (λ (n : ℕ). leb n (rule (added T w) T.node_rows).children) z ∙ le-leb 0 (rule (added T w) T.node_rows).children (omega arith)

    pub tables_added : KeepsTables (added T w)
    unfolding added holding row_count node_numbers
    tables_added = record {
      schema_held = H.tables.schema_held;
      proof_held = H.tables.proof_held;
      nodes_held = rw (padded_length (length T.nodes) (take (9 * T.node_rows) T.nodes ++ node_numbers w T.member_count) nodes_fit) (fits T w room).2;
      members_held = rw (padded_length (length T.members) (take T.member_count T.members ++ w.members) members_fit) (fits T w room).3;
      row_limit = H.tables.row_limit;
      node_limit = omega (arith, (fits T w room).0);
      member_limit = (fits T w room).1;
    }
      where
        nodes_fit : length (take (9 * T.node_rows) T.nodes ++ node_numbers w T.member_count) ≤ length T.nodes
        nodes_fit =
            omega (arith, length-append (take (9 * T.node_rows) T.nodes) (node_numbers w T.member_count), length-take-le (9 * T.node_rows) T.nodes H.tables.nodes_held, (fits T w room).2)

        members_fit : length (take T.member_count T.members ++ w.members) ≤ length T.members
        members_fit =
            omega (arith, length-append (take T.member_count T.members) w.members, length-take-le T.member_count T.members H.tables.members_held, (fits T w room).3)

  -- ---- and where it is accepted

  module _ (w : NodeRow) (ok : new_refusal T w ≡ no_refusal) where
    pub room : room_for T w ≡ true
    unfolding new_refusal whole_unless
    room = unless_nothing (room_for T w) _ _ (otherwise_first _ _ ok)

    ok_row : added_refusal (added T w) T.node_rows ≡ no_refusal
    unfolding new_refusal
    ok_row = otherwise_second _ _ ok

    pub new_set : KeepsSet (added T w) T.node_rows
    unfolding added_refusal
    new_set = (set_clears (added T w) T.node_rows).0 (otherwise_first _ _ ok_row)

    new_parent : KeepsParent (added T w) T.node_rows
    unfolding added_refusal
    new_parent = (parent_clears (added T w) T.node_rows).0 (otherwise_first _ _ (otherwise_second (set_refusal (added T w) T.node_rows) _ ok_row))

    new_beyond : beyond_refusal (added T w) T.node_rows ≡ no_refusal
    unfolding added_refusal
    new_beyond =
        otherwise_first _ _ (otherwise_second (parent_refusal (added T w) T.node_rows) _ (otherwise_second (set_refusal (added T w) T.node_rows) _ ok_row))

    new_step : step_refusal (added T w) T.node_rows ≡ no_refusal
    unfolding added_refusal
    new_step =
        otherwise_second (beyond_refusal (added T w) T.node_rows) _ (otherwise_second (parent_refusal (added T w) T.node_rows) _ (otherwise_second (set_refusal (added T w) T.node_rows) _ ok_row))

    old_children : (j : ℕ) → j < T.node_rows → children_held (added T w) j ≡ true
    unfolding children_held names
    old_children j h = by (names (added T w).nodes (pos j) T.node_rows) refl
      where
        by : (b : Bool) → names (added T w).nodes (pos j) T.node_rows ≡ b → children_held (added T w) j ≡ true
        by true e = beyond_held (added T w) T.node_rows j h (eq_z_true _ _ e) new_beyond
        by false e = other_children w room j h e

    pub holds_added : Holds (added T w)
    unfolding added holding rows row_count
    holds_added = record {
      tables = tables_added w room;
      formulas = H.formulas;
      fresh = H.fresh;
      sets = λ j h. at_last j h (KeepsSet (added T w)) (old_set w room) new_set;
      parents = λ j h. at_last j h (KeepsParent (added T w)) (old_parent w room) new_parent;
      steps = λ j h. at_last j h (λ i. node_refusal false (added T w) i ≡ no_refusal) (λ i l. held_node (added T w) i (old_step w room i l) (old_children i l)) (held_node (added T w) T.node_rows new_step (new_children w room new_parent));
    }
      where
        at_last : (j : ℕ) → j < suc T.node_rows → (P : ℕ → Type 0) → ((i : ℕ) → i < T.node_rows → P i) → P T.node_rows → P j
        at_last j h P f l = ⊎_elim (λ m. f j m) (λ e. rw e l) (below_suc j T.node_rows h)

  -- ---- the last row taken back

  -- a set ends where a later one starts, or before
  pub ends_before : (j i : ℕ) → j < i → i < T.node_rows → nat (node T j).start + nat (node T j).size ≤ nat (node T i).start
  unfolding set_start node nat
  ends_before j zero l h = absurd (omega arith)
  ends_before j (suc i) l h =
      let e : (node T (suc i)).start ≡ ((node T i).start +ℤ (node T i).size) = (H.sets (suc i) h).follows in
      let f = ap nat (e ∙ ap₂ ◌+ℤ◌ (start_pos T H.sets i (omega arith)) (size_pos T H.sets i (omega arith))) in
      ⊎_elim
      (λ m. omega (arith, f, ends_before j i m (omega arith)))
      (λ m. rw m (omega (arith, f)))
      (below_suc j i l)

  module _ (some_row : 0 < T.node_rows) where
    m : ℕ
    m = nat (node_at T.nodes (T.node_rows - 1)).start

    last_below : T.node_rows - 1 < T.node_rows
    last_below = omega arith

    -- the members that are left
    few_left : m ≤ T.member_count
    unfolding m node
    few_left = omega (arith, set_within T H.sets (T.node_rows - 1) last_below)

    shortened_old : (j : ℕ) → j < T.node_rows - 1 → node (shortened T) j ≡ node T j
    unfolding node shortened holding padded
    shortened_old j h =
        node_at_front (take (9 * (T.node_rows - 1)) T.nodes) _ j (omega (arith, length-take-le (9 * (T.node_rows - 1)) T.nodes (omega (arith, H.tables.nodes_held))))
        ∙ node_at_take T.nodes (9 * (T.node_rows - 1)) j (omega arith)

    shortened_set : (j : ℕ) → j < T.node_rows - 1 → set (shortened T) j ≡ set T j
    unfolding set set_of shortened holding padded m node
    shortened_set j h =
        let a = nat (node T j).start in
        let c = nat (node T j).size in
        let l : a + c ≤ m = ends_before j (T.node_rows - 1) h last_below in
        let g : m ≤ length T.members = omega (arith, few_left, H.tables.members_held) in
        ap (λ (v : Node). take (nat v.size) (drop (nat v.start) (shortened T).members)) (shortened_old j h)
        ∙ slice_front (take m T.members) _ a c (omega (arith, length-take-le m T.members g))
        ∙ slice_take T.members m a c l g

    pub shortened_alike : Alike T (shortened T) (T.node_rows - 1)
    unfolding shortened holding
    shortened_alike = record { schema = refl; schema_rows = refl; proof = refl; proof_rows = refl; root = refl; least = refl; node = shortened_old; set = shortened_set }

    left_set : (j : ℕ) → j < T.node_rows - 1 → KeepsSet (shortened T) j
    unfolding shortened holding set_end set_start node m
    left_set j h = set_kept shortened_alike j h (H.sets j (omega arith)) within last
      where
        l : j < T.node_rows
        l = omega arith

        end_is : set_end T.nodes j ≡ pos (nat (node T j).start + nat (node T j).size)
        end_is = ap₂ ◌+ℤ◌ (start_pos T H.sets j l) (size_pos T H.sets j l)

        within : le_z (set_end T.nodes j) (pos m) ≡ true
        within =
            ap (λ (z : ℤ). le_z z (pos m)) end_is
            ∙ le_of (num (nat (node T j).start + nat (node T j).size)) (num m) (omega (arith, ends_before j (T.node_rows - 1) h last_below))

        last : suc j ≡ T.node_rows - 1 → set_end T.nodes j ≡ pos m
        last e = ap (set_start T.nodes) e ∙ sym (H.sets (T.node_rows - 1) last_below).follows ∙ start_pos T H.sets (T.node_rows - 1) last_below

    fewer_children_lem : (j : ℕ) → child_count (shortened T) j ≤ child_count T j
    unfolding child_count child_count_of shortened holding
    fewer_children_lem j =
        let e : suc (T.node_rows - 1) ≡ T.node_rows = omega arith in
        let g = ap (count (names T.nodes (pos j))) e in
        omega (arith, counted_same shortened_alike j (T.node_rows - 1) (omega arith), count_more (names T.nodes (pos j)) (T.node_rows - 1), g)

    left_children : (j : ℕ) → j < T.node_rows - 1 → children_held (shortened T) j ≡ true
    unfolding children_held
    left_children j h =
        let r : (rule (shortened T) j).children ≡ (rule T j).children = ap (λ (x : Rule). x.children) (rule_same shortened_alike j h) in
        le-leb (child_count (shortened T) j) (rule (shortened T) j).children
        (omega (arith, r, fewer_children_lem j, leb-true (child_count T j) (rule T j).children (held_children T j (H.steps j (omega arith)))))

    tables_shortened : KeepsTables (shortened T)
    unfolding shortened holding row_count m
    tables_shortened =
        let a : 9 * (T.node_rows - 1) ≤ length T.nodes = omega (arith, H.tables.nodes_held) in
        let b : m ≤ length T.members = omega (arith, few_left, H.tables.members_held) in
        record {
          schema_held = H.tables.schema_held;
          proof_held = H.tables.proof_held;
          nodes_held = rw (padded_length (length T.nodes) (take (9 * (T.node_rows - 1)) T.nodes) (omega (arith, length-take-le (9 * (T.node_rows - 1)) T.nodes a))) a;
          members_held = rw (padded_length (length T.members) (take m T.members) (omega (arith, length-take-le m T.members b))) b;
          row_limit = H.tables.row_limit;
          node_limit = omega (arith, H.tables.node_limit);
          member_limit = omega (arith, few_left, H.tables.member_limit);
        }

    pub holds_shortened : Holds (shortened T)
    unfolding shortened holding rows row_count
    holds_shortened = record {
      tables = tables_shortened;
      formulas = H.formulas;
      fresh = H.fresh;
      sets = left_set;
      parents = λ j h. parent_kept shortened_alike j h (H.parents j (omega arith));
      steps = λ j h. held_node (shortened T) j (step_same shortened_alike j h (H.parents j (omega arith)) ∙ held_step T j (H.steps j (omega arith))) (left_children j h);
    }
