-- A node's range of values lies within its parent's, and is never empty.
use Prim.Native.Nat.{ℕ, zero, suc, ◌<◌, ◌≤◌}
use native.Mathlib.Omega.{arith}
use mathlib.Core.Path.{◌≡◌, refl, sym, ◌∙◌, ap, subst}
use mathlib.Core.Logic.{⊎_elim}
use mathlib.Core.Bool.{true}
use mathlib.Core.Option.{Option, none, some, none-ne-some, some-injective}
use lib.IntN.{ℤ, pos}
use Rattle.stab.specs.Basic.{eq_z, nat, below}
use Rattle.stab.specs.Node.{Tableau, Node, Bound, node, node_at, rank, AtMost, Satisfies, split_at, split_bound, child_bound, first_bound, bound_of, bound}
use Rattle.stab.specs.Keeps.{KeepsParent, Splits, KeepsOlder}
use Rattle.stab.proofs.Bools.{decide, if_true, if_false}
use Rattle.stab.proofs.Whole.{eq_z_true}
use Rattle.stab.proofs.Trees.{below_nat, below_pos, below_of}
use Rattle.stab.proofs.Bounds.{parent_below, bound_first, bound_child}

-- n satisfies a bound only from its L on, and up to its H
pub from_least : (B : Bound) (n : ℕ) → Satisfies B n → B.L ≤ n
unfolding Satisfies
from_least B n h = h.0

pub up_to : (B : Bound) (n H : ℕ) → B.H ≡ some H → Satisfies B n → n ≤ H
unfolding Satisfies AtMost
up_to B n H e h = subst (λ (u : Option ℕ). AtMost u n) e h.1

pub exactly : (B : Bound) (n : ℕ) → B.H ≡ some B.L → Satisfies B n → n ≡ B.L
exactly B n e h = omega (arith, from_least B n h, up_to B n B.L e h)

at_most : (u : Option ℕ) (n : ℕ) → ((H : ℕ) → u ≡ some H → n ≤ H) → AtMost u n
unfolding AtMost
at_most none n h = tt
at_most (some H) n h = h H refl

pub satisfies : (B : Bound) (n : ℕ) → B.L ≤ n → ((H : ℕ) → B.H ≡ some H → n ≤ H) → Satisfies B n
unfolding Satisfies
satisfies B n l h = (l, at_most B.H n h)

-- ---- ranges

-- the range of the first lies within that of the second
pub record Inside (B A : Bound) : Type 0 where
  pub lower : A.L ≤ B.L
  pub upper : (H : ℕ) → A.H ≡ some H → (G : ℕ) × (B.H ≡ some G) × (G ≤ H)

-- L ≤ H, if there is an upper bound
abbrev pub Nonempty : Bound → Type 0
Nonempty B = (H : ℕ) → B.H ≡ some H → B.L ≤ H

inside_itself : (B : Bound) → Inside B B
inside_itself B = record { lower = omega arith; upper = λ H e. (H, e, omega arith) }

-- ---- the children of a split, and of any node

split_inside : (B : Bound) (K r : ℕ) → Splits B K → Inside (split_bound B K r) B
unfolding split_bound
split_inside B K zero s = record { lower = omega arith; upper = λ H e. (K, refl, omega (arith, s.below_h H e)) }
split_inside B K (suc r) s = record { lower = omega (arith, s.from_l); upper = λ H e. (H, e, omega arith) }

split_nonempty : (B : Bound) (K r : ℕ) → Splits B K → Nonempty (split_bound B K r)
unfolding split_bound
split_nonempty B K zero s H e = omega (arith, s.from_l, some-injective K H e)
split_nonempty B K (suc r) s H e = omega (arith, s.below_h H e)

-- K of a split at node w with bound B is right
abbrev pub SplitsIf : Node → Bound → Type 0
SplitsIf w B = w.rule ≡ pos 2 → Splits B (split_at B.L w.by)

by_rule : (P : Bound → Type 0) (w : Node) (B : Bound) (r : ℕ) → (w.rule ≡ pos 2 → P (split_bound B (split_at B.L w.by) r)) → P B → P (child_bound w B r)
unfolding child_bound
by_rule P w B r f g =
    ⊎_elim
    (λ q. subst P (sym (if_true (eq_z w.rule (pos 2)) _ _ q)) (f (eq_z_true w.rule (pos 2) q)))
    (λ q. subst P (sym (if_false (eq_z w.rule (pos 2)) _ _ q)) g)
    (decide (eq_z w.rule (pos 2)))

child_inside : (w : Node) (B : Bound) (r : ℕ) → SplitsIf w B → Inside (child_bound w B r) B
child_inside w B r s = by_rule (λ (C : Bound). Inside C B) w B r (λ e. split_inside B _ r (s e)) (inside_itself B)

child_nonempty : (w : Node) (B : Bound) (r : ℕ) → SplitsIf w B → Nonempty B → Nonempty (child_bound w B r)
child_nonempty w B r s h = by_rule Nonempty w B r (λ e. split_nonempty B _ r (s e)) h

module _ (T : Tableau) (parents : (k : ℕ) → k < T.node_rows → KeepsParent T k) where
  -- a node's bound, by its parent's
  pub bound_of_child : (j k : ℕ) → j < T.node_rows → (node_at T.nodes j).up ≡ pos k → bound T j ≡ child_bound (node T k) (bound T k) (rank T.nodes j)
  unfolding bound node nat
  bound_of_child j k l e =
      bound_child T.nodes T.least j (subst (λ (z : ℤ). below j z ≡ true) (sym e) (below_of j k (parent_below T j k (parents j l) e)))
      ∙ ap (λ (z : ℤ). child_bound (node_at T.nodes (nat z)) (bound_of T.nodes T.least (nat z)) (rank T.nodes j)) e

  -- what is asked of the nodes before j: the K of a split is right
  abbrev pub RightSplits : ℕ → Type 0
  RightSplits j = (k : ℕ) → k < j → SplitsIf (node T k) (bound T k)

  -- a node's range lies within its parent's
  pub parent_inside : (j k : ℕ) → j < T.node_rows → RightSplits j → (node_at T.nodes j).up ≡ pos k → Inside (bound T j) (bound T k)
  parent_inside j k l splits e =
      subst (λ (B : Bound). Inside B (bound T k)) (sym (bound_of_child j k l e))
      (child_inside (node T k) (bound T k) (rank T.nodes j) (splits k (parent_below T j k (parents j l) e)))

  nonempty_below : (n j : ℕ) → j < n → j < T.node_rows → RightSplits j → Nonempty (bound T j)
  unfolding bound first_bound node
  nonempty_below zero j p l splits = absurd (omega arith)
  nonempty_below (suc n) j p l splits =
      ⊎_elim
      (λ b.
      let k : ℕ = nat (node_at T.nodes j).up in
      let m : k < j = below_nat j (node_at T.nodes j).up b in
      subst Nonempty (sym (bound_of_child j k l (sym (below_pos j (node_at T.nodes j).up b))))
      (child_nonempty (node T k) (bound T k) (rank T.nodes j) (splits k m)
      (nonempty_below n k (omega arith) (omega arith) (λ h q. splits h (omega arith)))))
      (λ b. subst Nonempty (sym (bound_first T.nodes T.least j b)) (λ H e. absurd (none-ne-some H e)))
      (decide (below j (node_at T.nodes j).up))

  -- L ≤ H at every bounded node
  pub nonempty : (j : ℕ) → j < T.node_rows → RightSplits j → Nonempty (bound T j)
  nonempty j l splits = nonempty_below (suc j) j (omega arith) l splits

-- ---- 02, No. 5: in a tableau that keeps the rules

module _ (T : Tableau) (K : KeepsOlder T) where
  right_splits : (j : ℕ) → j < T.node_rows → RightSplits T (λ x y. (K.nodes x y).parent) j
  right_splits j l k p r = (K.nodes k (omega arith)).step.split r

  pub range_nonempty : (j : ℕ) → j < T.node_rows → Nonempty (bound T j)
  range_nonempty j l = nonempty T (λ x y. (K.nodes x y).parent) j l (right_splits j l)

  pub range_inside : (j k : ℕ) → j < T.node_rows → (node_at T.nodes j).up ≡ pos k → Inside (bound T j) (bound T k)
  range_inside j k l e = parent_inside T (λ x y. (K.nodes x y).parent) j k l (right_splits j l) e
