-- Where the tidied nodes and sets stand in their tables.
use Prim.Native.Nat.{ℕ, zero, suc, ◌+◌, ◌*◌, ◌<◌, ◌≤◌}
use native.Mathlib.Omega.{arith}
use mathlib.Core.Path.{◌≡◌, refl, sym, ◌∙◌, ap}
use mathlib.Core.Bool.{true}
use mathlib.Core.Logic.{⊎_elim}
use mathlib.Core.List.{List, [], ◌∷◌, ◌++◌, append_assoc, append-nil}
use lib.IntN.{ℤ, pos}
use lib.Signed.{le_z}
use lib.ListN.{length, get_or, take, drop, length-append, length-take, length-drop, take-append-drop, get_or-append}
use lib.Seq.{get_or-append-add, take_at, drop_at, take-append-le, drop-append-le, length-take-le}
use Rattle.stab.specs.Basic.{nat}
use Rattle.stab.specs.Formula.{row_at}
use Rattle.stab.specs.Node.{Tableau, Node, node_at, node, set, set_start, set_end}
use Rattle.stab.specs.Keeps.{KeepsSet}
use Rattle.stab.proofs.Whole.{atom, num, ◌⊕◌, of_le, le_of, le_z_of, nat_pos, plus_nat, nonneg_minus}
use Rattle.stab.proofs.Scans.{below_suc}
use Rattle.tidied.specs.Tidied.{through, tidy_set, tidy_members, tidy_node, tidy_nodes}
use Rattle.tidied.proofs.Foldings.{row_at_take}

-- ---- nine numbers a node

-- the nine numbers of a node
unfoldable pub numbers_of : Node → List ℤ
numbers_of w = w.up ∷ w.rule ∷ w.on ∷ w.with ∷ w.other ∷ w.to ∷ w.by ∷ w.start ∷ w.size ∷ []

-- a node within the first part of a table
pub node_at_front : (t u : List ℤ) (j : ℕ) → 9 * j + 8 < length t → node_at (t ++ u) j ≡ node_at t j
unfolding node_at
node_at_front t u j h i = record {
  up = get_or-append t u (pos 0) (9 * j) (omega arith) i;
  rule = get_or-append t u (pos 0) (9 * j + 1) (omega arith) i;
  on = get_or-append t u (pos 0) (9 * j + 2) (omega arith) i;
  with = get_or-append t u (pos 0) (9 * j + 3) (omega arith) i;
  other = get_or-append t u (pos 0) (9 * j + 4) (omega arith) i;
  to = get_or-append t u (pos 0) (9 * j + 5) (omega arith) i;
  by = get_or-append t u (pos 0) (9 * j + 6) (omega arith) i;
  start = get_or-append t u (pos 0) (9 * j + 7) (omega arith) i;
  size = get_or-append t u (pos 0) (9 * j + 8) (omega arith) i;
}

-- the nodes of the first part of a table
node_at_take : (t : List ℤ) (n j : ℕ) → 9 * j + 8 < n → n ≤ length t → node_at (take n t) j ≡ node_at t j
node_at_take t n j h g =
    sym (node_at_front (take n t) (drop n t) j (omega (arith, length-take-le n t g))) ∙ ap (λ (l : List ℤ). node_at l j) (take-append-drop n t)

-- the node right after it
pub node_at_next : (t : List ℤ) (j : ℕ) (w : Node) → length t ≡ 9 * j → node_at (t ++ numbers_of w) j ≡ w
unfolding node_at numbers_of
node_at_next t j w h i = record {
  up = at 0 (9 * j) (omega arith) i;
  rule = at 1 (9 * j + 1) (omega arith) i;
  on = at 2 (9 * j + 2) (omega arith) i;
  with = at 3 (9 * j + 3) (omega arith) i;
  other = at 4 (9 * j + 4) (omega arith) i;
  to = at 5 (9 * j + 5) (omega arith) i;
  by = at 6 (9 * j + 6) (omega arith) i;
  start = at 7 (9 * j + 7) (omega arith) i;
  size = at 8 (9 * j + 8) (omega arith) i;
}
  where
    at : (k n : ℕ) → n ≡ length t + k → get_or (t ++ numbers_of w) n (pos 0) ≡ get_or (numbers_of w) k (pos 0)
    at k n e = ap (λ (m : ℕ). get_or (t ++ numbers_of w) m (pos 0)) e ∙ get_or-append-add t (numbers_of w) k (pos 0)

-- ---- parts of lists

-- a part of the first of two lists
pub slice_front : (xs ys : List ℤ) (a c : ℕ) → a + c ≤ length xs → take c (drop a (xs ++ ys)) ≡ take c (drop a xs)
slice_front xs ys a c h =
    ap (take c) (drop-append-le a xs ys (omega arith)) ∙ take-append-le c (drop a xs) ys (omega (arith, length-drop a xs))

-- a part of a list's beginning
pub slice_take : (l : List ℤ) (m a c : ℕ) → a + c ≤ m → m ≤ length l → take c (drop a (take m l)) ≡ take c (drop a l)
slice_take l m a c h g =
    sym (slice_front (take m l) (drop m l) a c (omega (arith, length-take-le m l g))) ∙ ap (λ (k : List ℤ). take c (drop a k)) (take-append-drop m l)

-- tables that begin with the same n numbers
module _ (t u : List ℤ) (n : ℕ) (same : take n u ≡ take n t) where
  pub same_rows : (r : ℕ) → 4 * r + 3 < n → row_at u r ≡ row_at t r
  same_rows r h = sym (row_at_take u n r h) ∙ ap (λ (l : List ℤ). row_at l r) same ∙ row_at_take t n r h

  module _ (held : n ≤ length t) where
    -- the other holds as many
    pub same_held : n ≤ length u
    same_held = omega (arith, ap length same, length-take-le n t held, length-take n u)

    pub same_nodes_lem : (j : ℕ) → 9 * j + 8 < n → node_at u j ≡ node_at t j
    same_nodes_lem j h = sym (node_at_take u n j h same_held) ∙ ap (λ (l : List ℤ). node_at l j) same ∙ node_at_take t n j h held

    pub same_slice : (a c : ℕ) → a + c ≤ n → take c (drop a u) ≡ take c (drop a t)
    same_slice a c h =
        sym (slice_take u n a c h same_held) ∙ ap (λ (l : List ℤ). take c (drop a l)) same ∙ slice_take t n a c h held

-- ---- where a set that keeps the rules stands

module _ (T : Tableau) (keeps : (j : ℕ) → j < T.node_rows → KeepsSet T j) where
  pub start_natural : (j : ℕ) → j < T.node_rows → le_z (pos 0) (node T j).start ≡ true
  unfolding set_start node
  start_natural zero h = ap (le_z (pos 0)) (keeps zero h).follows
  start_natural (suc i) h =
      let k = keeps i (omega arith) in
      ap (le_z (pos 0)) (keeps (suc i) h).follows
      ∙ le_of (num 0) (atom (node T i).start ⊕ atom (node T i).size)
      (omega (arith, of_le (num 0) (atom (node T i).start) (start_natural i (omega arith)), of_le (num 0) (atom (node T i).size) (le_z_of k.not_negative)))

  pub start_pos : (j : ℕ) → j < T.node_rows → (node T j).start ≡ pos (nat (node T j).start)
  start_pos j h = sym (nat_pos (node T j).start (start_natural j h))

  pub size_pos : (j : ℕ) → j < T.node_rows → (node T j).size ≡ pos (nat (node T j).size)
  size_pos j h = sym (nat_pos (node T j).size (le_z_of (keeps j h).not_negative))

  pub set_within : (j : ℕ) → j < T.node_rows → nat (node T j).start + nat (node T j).size ≤ T.member_count
  unfolding set_end node
  set_within j h =
      let s = (node T j).start in
      let z = (node T j).size in
      omega (
        arith,
        of_le (atom s ⊕ atom z) (num T.member_count) (le_z_of (keeps j h).counted),
        plus_nat s,
        plus_nat z,
        nonneg_minus s (start_natural j h),
        nonneg_minus z (le_z_of (keeps j h).not_negative),
      )

-- ---- the tidied tables

module _ (T : Tableau) (new : ℕ → ℕ) where
  -- node j as it is written
  unfoldable pub tidy_of : ℕ → Node
  tidy_of j = record {
    up = (node T j).up;
    rule = (node T j).rule;
    on = through new (node T j).on;
    with = through new (node T j).with;
    other = through new (node T j).other;
    to = (node T j).to;
    by = (node T j).by;
    start = pos (length (tidy_members T new j));
    size = pos (length (tidy_set new (set T j)));
  }

  pub nodes_length : (n : ℕ) → length (tidy_nodes T new n) ≡ 9 * n
  unfolding tidy_nodes tidy_node
  nodes_length zero = refl
  nodes_length (suc n) = simp length-append (omega (arith, nodes_length n))

  pub node_tidied : (n j : ℕ) → j < n → node_at (tidy_nodes T new n) j ≡ tidy_of j
  unfolding tidy_nodes tidy_node tidy_of numbers_of
  node_tidied zero j h = absurd (omega arith)
  node_tidied (suc n) j h =
      ⊎_elim
      (λ l. node_at_front (tidy_nodes T new n) _ j (omega (arith, nodes_length n)) ∙ node_tidied n j l)
      (λ e. rw e (node_at_next (tidy_nodes T new n) n (tidy_of n) (nodes_length n)))
      (below_suc j n h)

  -- the members of n nodes: those of the first j, then the set of node j, then the rest
  pub members_split : (n j : ℕ) → j < n → (rest : List ℤ) × (tidy_members T new n ≡ tidy_members T new j ++ (tidy_set new (set T j) ++ rest))
  unfolding tidy_members
  members_split zero j h = absurd (omega arith)
  members_split (suc n) j h =
      ⊎_elim
      (λ l.
      let m = members_split n j l in
      (m.0 ++ tidy_set new (set T n), ap (λ (ms : List ℤ). ms ++ tidy_set new (set T n)) m.1 ∙ simp append_assoc))
      (λ e. rw e ([], simp append-nil))
      (below_suc j n h)

  -- node j's set, among the members of n nodes
  pub set_tidied : (n j : ℕ) → j < n → take (length (tidy_set new (set T j))) (drop (length (tidy_members T new j)) (tidy_members T new n)) ≡ tidy_set new (set T j)
  set_tidied n j h =
      let m = members_split n j h in
      ap (λ (ms : List ℤ). take (length (tidy_set new (set T j))) (drop (length (tidy_members T new j)) ms)) m.1
      ∙ ap (take (length (tidy_set new (set T j)))) (drop_at (tidy_members T new j) _ _ refl)
      ∙ take_at (tidy_set new (set T j)) m.0 _ refl
