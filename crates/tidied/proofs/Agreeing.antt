-- Node tables that agree in parents, rules and by: ranks, children and bounds are the same.
use Rattle.std.specs.Prelude.{if◌then◌else◌}
use Prim.Native.Nat.{ℕ, zero, suc, ◌<◌}
use native.Mathlib.Omega.{arith}
use mathlib.Core.Path.{◌≡◌, refl, sym, ◌∙◌, ap, ap₂}
use mathlib.Core.Logic.{⊎_elim}
use mathlib.Core.Bool.{Bool, false}
use mathlib.Core.List.{List}
use lib.IntN.{ℤ, pos}
use Rattle.stab.specs.Basic.{eq_z, nat, below, count}
use Rattle.stab.specs.Node.{Node, node_at, names, child_count_of, rank, Bound, split_at, split_bound, child_bound, bound_of}
use Rattle.stab.proofs.Bools.{decide, if_false}
use Rattle.stab.proofs.Trees.{below_nat}
use Rattle.stab.proofs.Bounds.{bound_first, bound_child}

pub count_same : (p q : ℕ → Bool) (n : ℕ) → ((k : ℕ) → k < n → p k ≡ q k) → count p n ≡ count q n
unfolding count
count_same p q zero h = refl
count_same p q (suc n) h =
    ap₂ (λ (b : Bool) (m : ℕ). if b then suc m else m) (h n (omega arith)) (count_same p q n (λ k l. h k (omega arith)))

-- where none passes
pub count_none : (p : ℕ → Bool) (n : ℕ) → ((i : ℕ) → i < n → p i ≡ false) → count p n ≡ 0
unfolding count
count_none p zero h = refl
count_none p (suc n) h = if_false (p n) _ _ (h n (omega arith)) ∙ count_none p n (λ i l. h i (omega arith))

-- what bounds and children are told by
pub record Agrees (v w : Node) : Type 0 where
  pub up : v.up ≡ w.up
  pub rule : v.rule ≡ w.rule
  pub by : v.by ≡ w.by

module _ (nodes nodes' : List ℤ) (n : ℕ) (agree : (i : ℕ) → i < n → Agrees (node_at nodes i) (node_at nodes' i)) where
  names_same : (z : ℤ) (i : ℕ) → i < n → names nodes z i ≡ names nodes' z i
  unfolding names
  names_same z i h = ap (λ (x : ℤ). eq_z x z) (agree i h).up

  pub children_same : (j : ℕ) → child_count_of nodes n j ≡ child_count_of nodes' n j
  unfolding child_count_of
  children_same j = count_same (names nodes (pos j)) (names nodes' (pos j)) n (names_same (pos j))

  pub rank_same : (j : ℕ) → j < n → rank nodes j ≡ rank nodes' j
  unfolding rank
  rank_same j h =
      ap (λ (z : ℤ). count (names nodes z) j) (agree j h).up
      ∙ count_same (names nodes (node_at nodes' j).up) (names nodes' (node_at nodes' j).up) j (λ k l. names_same (node_at nodes' j).up k (omega arith))

  child_same : (v w : Node) → Agrees v w → (B : Bound) (k : ℕ) → child_bound v B k ≡ child_bound w B k
  unfolding child_bound
  child_same v w a B k =
      ap₂ (λ (r b : ℤ). if eq_z r (pos 2) then split_bound B (split_at B.L b) k else B) a.rule a.by

  pub bound_same : (least : ℤ) (j : ℕ) → j < n → bound_of nodes least j ≡ bound_of nodes' least j
  bound_same least j h = go (suc j) j (omega arith) h
    where
      go : (k j : ℕ) → j < k → j < n → bound_of nodes least j ≡ bound_of nodes' least j
      go zero j l h = absurd (omega arith)
      go (suc k) j l h =
          let up = (agree j h).up in
          ⊎_elim
          (λ e.
          let b : nat (node_at nodes j).up < j = below_nat j (node_at nodes j).up e in
          bound_child nodes least j e
          ∙ child_same (node_at nodes (nat (node_at nodes j).up)) (node_at nodes' (nat (node_at nodes j).up)) (agree (nat (node_at nodes j).up) (omega arith)) _ _
          ∙ ap₂ (child_bound (node_at nodes' (nat (node_at nodes j).up))) (go k (nat (node_at nodes j).up) (omega arith) (omega arith)) (rank_same j h)
          ∙ ap (λ (z : ℤ). child_bound (node_at nodes' (nat z)) (bound_of nodes' least (nat z)) (rank nodes' j)) up
          ∙ sym (bound_child nodes' least j (ap (below j) (sym up) ∙ e)))
          (λ e. bound_first nodes least j e ∙ sym (bound_first nodes' least j (ap (below j) (sym up) ∙ e)))
          (decide (below j (node_at nodes j).up))
