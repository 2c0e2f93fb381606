-- The nodes of one record as a block of the joined one, d nodes further on: ranks, children and bounds are those they were.
use Rattle.std.specs.Prelude.{if◌then◌else◌}
use Prim.Native.Nat.{ℕ, zero, suc, ◌+◌, ◌-◌, ◌<◌, ◌≤◌}
use native.Mathlib.Omega.{arith}
use mathlib.Core.Path.{◌≡◌, refl, sym, ◌∙◌, ap, ap₂}
use mathlib.Core.Logic.{◌⊎◌, inl, inr, ⊎_elim}
use mathlib.Core.Bool.{false}
use mathlib.Core.List.{List}
use lib.IntN.{ℤ, pos, pos-ne-negsuc}
use lib.Signed.{le_z}
use Rattle.stab.specs.Basic.{◌and◌, eq_z, nat, below, count}
use Rattle.stab.specs.Node.{Tableau, Node, Bound, node_at, node, names, child_count_of, rank, split_at, split_bound, child_bound, first_bound, bound_of}
use Rattle.stab.specs.Rule.{unused}
use Rattle.stab.specs.Keeps.{KeepsParent}
use Rattle.stab.proofs.Bools.{if_true, if_false, same_test}
use Rattle.stab.proofs.Whole.{num, le_of, eq_z_true, eq_z_of, eq_z_not, pos_injective}
use Rattle.stab.proofs.Trees.{below_nat, below_pos, below_of}
use Rattle.stab.proofs.Tests.{below_tests}
use Rattle.stab.proofs.Bounds.{bound_first, bound_child}
use Rattle.tidied.proofs.Agreeing.{count_same, count_none}
use Rattle.joint.specs.Joint.{parent_of}
use Rattle.joint.proofs.Lists.{count_add}

-- ---- parents

pub parent_pos : (d q : ℕ) → parent_of d (pos q) ≡ pos (d + q)
unfolding parent_of
parent_pos d q =
    let e : q + d ≡ d + q = omega arith in
    if_true (le_z (pos 0) (pos q)) _ _ (le_of (num 0) (num q) (omega arith)) ∙ ap pos e

pub parent_none : (d : ℕ) → parent_of d unused ≡ pos 0
unfolding parent_of unused
parent_none d = refl

-- a node's parent is none, or a smaller node
pub up_cases : (T : Tableau) (j : ℕ) → KeepsParent T j → ((node_at T.nodes j).up ≡ unused) ⊎ ((q : ℕ) × (q < j) × ((node_at T.nodes j).up ≡ pos q))
unfolding node unused
up_cases T zero p = inl p.0
up_cases T (suc i) p =
    let b = (below_tests (suc i) (node_at T.nodes (suc i)).up).1 p in
    inr (nat (node_at T.nodes (suc i)).up, below_nat (suc i) _ b, sym (below_pos (suc i) _ b))

none_below : (j : ℕ) → below j unused ≡ false
unfolding below unused ◌and◌
none_below j = refl

-- a node that is no split hands its bound on
unsplit : (w : Node) → w.rule ≡ pos 1 → (B : Bound) (k : ℕ) → child_bound w B k ≡ B
unfolding child_bound eq_z
unsplit w e B k = ap (λ (r : ℤ). if eq_z r (pos 2) then split_bound B (split_at B.L w.by) k else B) e ∙ if_false (eq_z (pos 1) (pos 2)) (split_bound B (split_at B.L w.by) k) B refl

pub record Block (N : List ℤ) (T : Tableau) (d total : ℕ) : Type 0 where
  pub further : 1 ≤ d
  pub inside : d + T.node_rows ≤ total
  pub parents : (j : ℕ) → j < T.node_rows → KeepsParent T j
  pub up : (j : ℕ) → j < T.node_rows → (node_at N (d + j)).up ≡ parent_of d (node_at T.nodes j).up
  pub rule : (j : ℕ) → j < T.node_rows → (node_at N (d + j)).rule ≡ (node_at T.nodes j).rule
  pub by : (j : ℕ) → j < T.node_rows → (node_at N (d + j)).by ≡ (node_at T.nodes j).by
  -- node 0 has no parent and splits nothing
  pub zero_rule : (node_at N 0).rule ≡ pos 1
  pub zero_up : (node_at N 0).up ≡ unused
  -- no other node names one of the block as its parent
  pub before : (i p : ℕ) → i < d → names N (pos (d + p)) i ≡ false
  pub after : (i p : ℕ) → d + T.node_rows ≤ i → i < total → p < T.node_rows → names N (pos (d + p)) i ≡ false

module _ {N : List ℤ} {T : Tableau} {d total : ℕ} (b : Block N T d total) where
  -- within the block a node names the parent that it named
  names_moved : (p i : ℕ) → i < T.node_rows → names N (pos (d + p)) (d + i) ≡ names T.nodes (pos p) i
  unfolding names unused
  names_moved p i h =
      ap (λ (z : ℤ). eq_z z (pos (d + p))) (b.up i h)
      ∙ ⊎_elim
      (λ e.
      ap (λ (z : ℤ). eq_z (parent_of d z) (pos (d + p))) e
      ∙ eq_z_not _ _ (λ x. let y = pos_injective 0 (d + p) (sym (parent_none d) ∙ x) in omega (arith, b.further))
      ∙ sym (ap (λ (z : ℤ). eq_z z (pos p)) e ∙ eq_z_not _ _ (λ x. no_pos p (sym x))))
      (λ (q, l, e).
      ap (λ (z : ℤ). eq_z (parent_of d z) (pos (d + p))) e
      ∙ ap (λ (z : ℤ). eq_z z (pos (d + p))) (parent_pos d q)
      ∙ same_test _ _ (λ x. eq_z_of _ _ (ap pos (let y = pos_injective (d + q) (d + p) (eq_z_true _ _ x) in omega arith))) (λ x. eq_z_of _ _ (ap pos (let y = pos_injective q p (eq_z_true _ _ x) in omega arith)))
      ∙ sym (ap (λ (z : ℤ). eq_z z (pos p)) e))
      (up_cases T i (b.parents i h))
    where
      no_pos : (k : ℕ) → pos k ≡ unused → ⊥
      no_pos k e = pos-ne-negsuc k 0 e

  -- children among the first d + k nodes
  counted_in : (p k : ℕ) → k ≤ T.node_rows → count (names N (pos (d + p))) (d + k) ≡ count (names T.nodes (pos p)) k
  counted_in p k h =
      count_add (names N (pos (d + p))) d k
      ∙ ap₂ ◌+◌ (count_none (names N (pos (d + p))) d (λ i l. b.before i p l)) (count_same _ _ k (λ i l. names_moved p i (omega arith)))
      ∙ omega arith

  pub children_moved : (p : ℕ) → p < T.node_rows → child_count_of N total (d + p) ≡ child_count_of T.nodes T.node_rows p
  unfolding child_count_of
  children_moved p h =
      let m : d + T.node_rows + (total - (d + T.node_rows)) ≡ total = omega (arith, b.inside) in
      ap (count (names N (pos (d + p)))) (sym m)
      ∙ count_add (names N (pos (d + p))) (d + T.node_rows) (total - (d + T.node_rows))
      ∙ ap₂ ◌+◌ (counted_in p T.node_rows (omega arith)) (count_none _ (total - (d + T.node_rows)) (λ i l. b.after (d + T.node_rows + i) p (omega arith) (omega (arith, b.inside)) h))
      ∙ omega arith

  pub rank_moved : (j q : ℕ) → j < T.node_rows → (node_at T.nodes j).up ≡ pos q → rank N (d + j) ≡ rank T.nodes j
  unfolding rank
  rank_moved j q h e =
      ap (λ (z : ℤ). count (names N z) (d + j)) (b.up j h ∙ ap (parent_of d) e ∙ parent_pos d q)
      ∙ counted_in q j (omega arith)
      ∙ ap (λ (z : ℤ). count (names T.nodes z) j) (sym e)

  child_same : (v w : Node) → v.rule ≡ w.rule → v.by ≡ w.by → (B : Bound) (k : ℕ) → child_bound v B k ≡ child_bound w B k
  unfolding child_bound
  child_same v w r y B k = ap₂ (λ (r b : ℤ). if eq_z r (pos 2) then split_bound B (split_at B.L b) k else B) r y

  zero_bound : (least : ℤ) → bound_of N least 0 ≡ first_bound least
  zero_bound least = bound_first N least 0 (ap (below 0) b.zero_up ∙ none_below 0)

  -- a child of node 0 has its bound
  root_bound : (least : ℤ) (j : ℕ) → j < T.node_rows → (node_at T.nodes j).up ≡ unused → bound_of N least (d + j) ≡ first_bound least
  unfolding nat
  root_bound least j h e =
      let u = b.up j h ∙ ap (parent_of d) e ∙ parent_none d in
      bound_child N least (d + j) (ap (below (d + j)) u ∙ below_of (d + j) 0 (omega (arith, b.further)))
      ∙ ap (λ (z : ℤ). child_bound (node_at N (nat z)) (bound_of N least (nat z)) (rank N (d + j))) u
      ∙ one (rank N (d + j))
      ∙ zero_bound least
    where
      one : (k : ℕ) → child_bound (node_at N 0) (bound_of N least 0) k ≡ bound_of N least 0
      one k = unsplit (node_at N 0) b.zero_rule (bound_of N least 0) k

  pub bound_moved : (least : ℤ) (j : ℕ) → j < T.node_rows → bound_of N least (d + j) ≡ bound_of T.nodes least j
  unfolding nat
  bound_moved least j h = go (suc j) j (omega arith) h
    where
      go : (k j : ℕ) → j < k → j < T.node_rows → bound_of N least (d + j) ≡ bound_of T.nodes least j
      go zero j l h = absurd (omega arith)
      go (suc k) j l h =
          ⊎_elim
          (λ e. root_bound least j h e ∙ sym (bound_first T.nodes least j (ap (below j) e ∙ none_below j)))
          (λ (q, m, e).
          let u = b.up j h ∙ ap (parent_of d) e ∙ parent_pos d q in
          let g : q < T.node_rows = omega arith in
          bound_child N least (d + j) (ap (below (d + j)) u ∙ below_of (d + j) (d + q) (omega arith))
          ∙ ap (λ (z : ℤ). child_bound (node_at N (nat z)) (bound_of N least (nat z)) (rank N (d + j))) u
          ∙ child_same (node_at N (d + q)) (node_at T.nodes q) (b.rule q g) (b.by q g) (bound_of N least (d + q)) (rank N (d + j))
          ∙ ap₂ (child_bound (node_at T.nodes q)) (go k q (omega arith) g) (rank_moved j q h e)
          ∙ sym (bound_child T.nodes least j (ap (below j) e ∙ below_of j q m) ∙ ap (λ (z : ℤ). child_bound (node_at T.nodes (nat z)) (bound_of T.nodes least (nat z)) (rank T.nodes j)) e))
          (up_cases T j (b.parents j h))
