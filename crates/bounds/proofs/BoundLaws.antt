-- Bounds, ranks and numbers of children, from node to node.
use Rattle.std.specs.Prelude.{if◌then◌else◌}
use Prim.Native.Nat.{ℕ, zero, suc, ◌+◌, ◌<◌, ◌≤◌}
use native.Mathlib.Omega.{arith}
use native.Mathlib.Numerals.{add-one}
use mathlib.Core.Path.{◌≡◌, refl, sym, ◌∙◌, ap}
use mathlib.Core.Bool.{Bool, true, false}
use mathlib.Core.List.{List}
use mathlib.Core.Option.{some}
use lib.IntN.{ℤ, pos, negsuc, neg_ℤ}
use lib.Signed.{lt_z}
use borrow.Author.Tests.{le-ltb}
use Rattle.stab.specs.Basic.{eq_z, nat, below, count}
use Rattle.stab.specs.Node.{Node, Bound, node_at, names, child_count_of, rank, split_at, split_bound, child_bound, first_bound, bound_of}
use Rattle.stab.proofs.Bools.{and_first_false, and_second_false, if_true, if_false}
use Rattle.stab.proofs.Whole.{eq_z_of, eq_z_not, nat_of}
use Rattle.stab.proofs.Scans.{count_true, count_false, count_le}
use Rattle.branch.specs.Parents.{up_fits, AllUpFit}
use Rattle.branch.proofs.Parts.{under_of}
use Rattle.branch.proofs.ParentLaws.{first_up, parent_less}
use Rattle.stab.proofs.Bounds.{bound_first}

-- ---- the bound of a node, by its parent's

pub below_none : (z : ℤ) → below 0 z ≡ false
unfolding below
below_none (pos n) = and_second_false _ (lt_z (pos n) (pos 0)) (le-ltb n 0 (omega arith))
below_none (negsuc n) = and_first_false _ _ refl

pub bound_root : (nodes : List ℤ) (least : ℤ) → bound_of nodes least 0 ≡ first_bound least
bound_root nodes least = bound_first nodes least 0 (below_none (node_at nodes 0).up)

-- what a child's bound is, by its parent's rule and its rank
module _ (w : Node) (B : Bound) (k : ℕ) where
  pub child_same : eq_z w.rule (pos 2) ≡ false → child_bound w B k ≡ B
  unfolding child_bound
  child_same h = if_false (eq_z w.rule (pos 2)) (split_bound B (split_at B.L w.by) k) B h

  child_split : eq_z w.rule (pos 2) ≡ true → child_bound w B k ≡ split_bound B (split_at B.L w.by) k
  unfolding child_bound
  child_split h = if_true (eq_z w.rule (pos 2)) (split_bound B (split_at B.L w.by) k) B h

  pub child_first : eq_z w.rule (pos 2) ≡ true → k ≡ 0 → child_bound w B k ≡ record { L = B.L; H = some (split_at B.L w.by) }
  unfolding split_bound
  child_first h e = child_split h ∙ ap (split_bound B (split_at B.L w.by)) e

split_second : (B : Bound) (K k : ℕ) → (k ≡ 0 → ⊥) → split_bound B K k ≡ record { L = K + 1; H = B.H }
unfolding split_bound
split_second B K zero f = absurd (f refl)
split_second B K (suc k) f = ap (λ (n : ℕ). record { L = n; H = B.H }) (sym (add-one K))

pub child_second : (w : Node) (B : Bound) (k : ℕ) → eq_z w.rule (pos 2) ≡ true → (k ≡ 0 → ⊥) → child_bound w B k ≡ record { L = split_at B.L w.by + 1; H = B.H }
child_second w B k h f = child_split w B k h ∙ split_second B (split_at B.L w.by) k f

-- ---- ranks and numbers of children

count_none : (p : ℕ → Bool) (n : ℕ) → ((i : ℕ) → i < n → p i ≡ false) → count p n ≡ 0
unfolding count
count_none p zero h = refl
count_none p (suc n) h =
    ap (λ (b : Bool). if b then suc (count p n) else count p n) (h n (omega arith)) ∙ count_none p n (λ i q. h i (omega arith))

module _ (nodes : List ℤ) (j : ℕ) where
  -- the rank of a child is the number of its parent's children so far
  pub rank_is : (u : ℕ) → (node_at nodes j).up ≡ pos u → rank nodes j ≡ child_count_of nodes j u
  unfolding rank child_count_of
  rank_is u e = ap (λ (z : ℤ). count (names nodes z) j) e

  pub rank_first : j ≡ 0 → rank nodes j ≡ 0
  unfolding rank count
  rank_first e = ap (λ (n : ℕ). count (names nodes (node_at nodes j).up) n) e

  pub children_more : (u : ℕ) → (node_at nodes j).up ≡ pos u → child_count_of nodes (j + 1) u ≡ child_count_of nodes j u + 1
  unfolding child_count_of names
  children_more u e = count_true (names nodes (pos u)) j (eq_z_of (node_at nodes j).up (pos u) e)

  pub children_same : (i : ℕ) → ((node_at nodes j).up ≡ pos i → ⊥) → child_count_of nodes (j + 1) i ≡ child_count_of nodes j i
  unfolding child_count_of names
  children_same i f = count_false (names nodes (pos i)) j (eq_z_not (node_at nodes j).up (pos i) f)

  pub children_le : (i : ℕ) → child_count_of nodes j i ≤ j
  unfolding child_count_of
  children_le i = count_le (names nodes (pos i)) j

-- no node so far is a child of a later one
up_not : (nodes : List ℤ) (i j : ℕ) → up_fits nodes i ≡ true → i ≤ j → (node_at nodes i).up ≡ pos j → ⊥
unfolding nat
up_not nodes zero j h p e =
    omega (arith, under_of (node_at nodes 0).up j e, ap (λ (z : ℤ). nat (neg_ℤ z)) (first_up nodes h))
up_not nodes (suc i) j h p e =
    omega (arith, nat_of (node_at nodes (suc i)).up j e, parent_less nodes (suc i) h (omega arith))

pub children_none : (nodes : List ℤ) (j : ℕ) → AllUpFit nodes (j + 1) → child_count_of nodes (j + 1) j ≡ 0
unfolding child_count_of names
children_none nodes j h = count_none (names nodes (pos j)) (j + 1) (λ i q. eq_z_not (node_at nodes i).up (pos j) (up_not nodes i j (h i q) (omega arith)))
