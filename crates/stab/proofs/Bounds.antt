-- A node's bound is made of its parent's; children stand where the count of children says.
use Rattle.std.specs.Prelude.{if◌then◌else◌}
use Prim.Native.Nat.{ℕ, zero, suc, ◌<◌}
use native.Mathlib.Omega.{arith}
use mathlib.Core.Path.{◌≡◌, refl, sym, ◌∙◌, ap}
use mathlib.Core.Logic.{⊎_elim}
use mathlib.Core.Bool.{Bool, true, false}
use mathlib.Core.List.{List}
use lib.IntN.{ℤ, pos}
use Rattle.stab.specs.Basic.{nat, below, count}
use Rattle.stab.specs.Node.{Tableau, Node, node_at, node, child_bound, first_bound, inherit_if, inherit_n, inherited, bound_of, rank}
use Rattle.stab.specs.Keeps.{KeepsParent}
use Rattle.stab.proofs.Whole.{num, less, of_eq}
use Rattle.stab.proofs.Trees.{below_nat}
use Rattle.stab.proofs.Tests.{below_tests}

-- ---- parents

pub parent_below : (T : Tableau) (j i : ℕ) → KeepsParent T j → (node_at T.nodes j).up ≡ pos i → i < j
unfolding node nat
parent_below T zero i h e = absurd (omega (arith, of_eq (less (num 1)) (num i) (sym h.0 ∙ e)))
parent_below T (suc j) i h e = rw e at (below_nat (suc j) (node_at T.nodes (suc j)).up ((below_tests _ _).1 h))

-- ---- what a node has from its parent

module _ {A : Type 0} (first : A) (child : Node → A → ℕ → A) (nodes : List ℤ) where
  inherit_same : (v : Bool) (B C : ℕ → A) (j : ℕ) → (v ≡ true → B (nat (node_at nodes j).up) ≡ C (nat (node_at nodes j).up)) → inherit_if first child nodes v B j ≡ inherit_if first child nodes v C j
  unfolding inherit_if
  inherit_same true B C j h = ap (λ (x : A). child (node_at nodes (nat (node_at nodes j).up)) x (rank nodes j)) (h refl)
  inherit_same false B C j h = refl

  inherit_n_same : (k l j : ℕ) → j < k → j < l → inherit_n first child nodes k j ≡ inherit_n first child nodes l j
  unfolding inherit_n
  inherit_n_same zero l j p q = absurd (omega arith)
  inherit_n_same (suc k) zero j p q = absurd (omega arith)
  inherit_n_same (suc k) (suc l) j p q =
      inherit_same (below j (node_at nodes j).up) (inherit_n first child nodes k) (inherit_n first child nodes l) j
      (λ b. inherit_n_same k l (nat (node_at nodes j).up) (omega (arith, below_nat j (node_at nodes j).up b)) (omega (arith, below_nat j (node_at nodes j).up b)))

  inherit_is : (j : ℕ) → inherited first child nodes j ≡ inherit_if first child nodes (below j (node_at nodes j).up) (inherited first child nodes) j
  unfolding inherited inherit_n
  inherit_is j =
      inherit_same (below j (node_at nodes j).up) (inherit_n first child nodes j) (inherited first child nodes) j
      (λ b. inherit_n_same j (suc (nat (node_at nodes j).up)) (nat (node_at nodes j).up) (below_nat j (node_at nodes j).up b) (omega arith))

  -- a node with no smaller parent has what is first
  pub inherit_first : (j : ℕ) → below j (node_at nodes j).up ≡ false → inherited first child nodes j ≡ first
  unfolding inherit_if
  inherit_first j h = inherit_is j ∙ ap (λ (v : Bool). inherit_if first child nodes v (inherited first child nodes) j) h

  -- any other has it from its parent's
  pub inherit_child : (j : ℕ) → below j (node_at nodes j).up ≡ true → inherited first child nodes j ≡ child (node_at nodes (nat (node_at nodes j).up)) (inherited first child nodes (nat (node_at nodes j).up)) (rank nodes j)
  unfolding inherit_if
  inherit_child j h = inherit_is j ∙ ap (λ (v : Bool). inherit_if first child nodes v (inherited first child nodes) j) h

-- ---- bounds

pub bound_first : (nodes : List ℤ) (least : ℤ) (j : ℕ) → below j (node_at nodes j).up ≡ false → bound_of nodes least j ≡ first_bound least
unfolding bound_of
bound_first nodes least j h = inherit_first (first_bound least) child_bound nodes j h

pub bound_child : (nodes : List ℤ) (least : ℤ) (j : ℕ) → below j (node_at nodes j).up ≡ true → bound_of nodes least j ≡ child_bound (node_at nodes (nat (node_at nodes j).up)) (bound_of nodes least (nat (node_at nodes j).up)) (rank nodes j)
unfolding bound_of
bound_child nodes least j h = inherit_child (first_bound least) child_bound nodes j h

-- ---- the m-th of those that are counted

pub counted : (p : ℕ → Bool) (n m : ℕ) → m < count p n → (i : ℕ) × (i < n) × (p i ≡ true) × (count p i ≡ m)
unfolding count
counted p zero m h = absurd (omega arith)
counted p (suc n) m h = go (p n) refl h (λ k. counted p n m k)
  where
    wider : ((i : ℕ) × (i < n) × (p i ≡ true) × (count p i ≡ m)) → (i : ℕ) × (i < suc n) × (p i ≡ true) × (count p i ≡ m)
    wider w = (w.0, omega (arith, w.1), w.2, w.3)

    go : (v : Bool) → p n ≡ v → m < (if v then suc (count p n) else count p n) → (m < count p n → (i : ℕ) × (i < n) × (p i ≡ true) × (count p i ≡ m)) → (i : ℕ) × (i < suc n) × (p i ≡ true) × (count p i ≡ m)
    go true e l ih = ⊎_elim (λ k. wider (ih k)) (λ k. (n, omega arith, e, sym k)) (Rattle.stab.proofs.Scans.below_suc m (count p n) l)
    go false e l ih = wider (ih l)
