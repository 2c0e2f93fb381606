-- Ancestors have smaller numbers, and the search upwards finds them.
use Prim.Native.Nat.{ℕ, zero, suc, ◌<◌}
use native.Mathlib.Omega.{arith}
use mathlib.Core.Path.{◌≡◌, refl, sym, ◌∙◌}
use mathlib.Core.Logic.{⊎_elim}
use mathlib.Core.Bool.{Bool, true, false, false≢true}
use mathlib.Core.List.{List}
use lib.IntN.{ℤ, pos}
use Rattle.stab.specs.Basic.{◌and◌, ◌or◌, eq_z, nat, below}
use Rattle.stab.specs.Node.{Tableau, node_at}
use Rattle.stab.specs.Keeps.{KeepsParent}
use Rattle.stab.specs.Before.{above_if, above_n, is_ancestor, Ancestor, parent, further}
use Rattle.stab.proofs.Bools.{and_left, and_right, and_both, or_cases, or_left, or_right}
use Rattle.stab.proofs.Whole.{eq_z_true, eq_z_refl}
use Rattle.stab.proofs.Trees.{below_pos, below_of}
use Rattle.stab.proofs.Tests.{◌tests◌}
use Rattle.stab.proofs.Bounds.{parent_below}

-- node 0 has no ancestor, and every other node's are smaller than it
pub ancestor_below : (T : Tableau) → ((k : ℕ) → k < T.node_rows → KeepsParent T k) → {i j : ℕ} → j < T.node_rows → Ancestor T.nodes i j → i < j
ancestor_below T keeps {i} {j} l (parent e) = parent_below T j i (keeps j l) e
ancestor_below T keeps {i} {j} l (further {k = k} e a) =
    let m : k < j = parent_below T j k (keeps j l) e in
    omega (arith, ancestor_below T keeps (omega arith) a)

-- ---- the search upwards

above_if_lem : (v : Bool) (nodes : List ℤ) (above : ℕ → Bool) (z : ℤ) (j : ℕ) → above_if v nodes above z j ≡ (v and (eq_z (node_at nodes j).up z or above (nat (node_at nodes j).up)))
unfolding above_if ◌and◌
above_if_lem true nodes above z j = refl
above_if_lem false nodes above z j = refl

above_step : (nodes : List ℤ) (k : ℕ) (z : ℤ) (j : ℕ) → above_n nodes (suc k) z j ≡ (below j (node_at nodes j).up and (eq_z (node_at nodes j).up z or above_n nodes k z (nat (node_at nodes j).up)))
unfolding above_n
above_step nodes k z j = above_if_lem (below j (node_at nodes j).up) nodes (above_n nodes k z) z j

above_ancestor : (nodes : List ℤ) (k : ℕ) (z : ℤ) (j : ℕ) → above_n nodes k z j ≡ true → (i : ℕ) × (z ≡ pos i) × Ancestor nodes i j
unfolding above_n
above_ancestor nodes zero z j h = absurd (false≢true h)
above_ancestor nodes (suc k) z j h =
    let up : ℤ = (node_at nodes j).up in
    let both : (below j up and (eq_z up z or above_n nodes k z (nat up))) ≡ true = sym (above_step nodes k z j) ∙ h in
    let e : up ≡ pos (nat up) = sym (below_pos j up (and_left _ _ both)) in
    ⊎_elim
    (λ q. (nat up, sym (eq_z_true up z q) ∙ e, parent e))
    (λ q. let r = above_ancestor nodes k z (nat up) q in (r.0, r.1, further e r.2))
    (or_cases (eq_z up z) (above_n nodes k z (nat up)) (and_right (below j up) _ both))

above_more : (nodes : List ℤ) (n : ℕ) (z : ℤ) (j k : ℕ) → (node_at nodes j).up ≡ pos k → k < j → (eq_z (pos k) z or above_n nodes n z k) ≡ true → above_n nodes (suc n) z j ≡ true
unfolding nat
above_more nodes n z j k e l h = above_step nodes n z j ∙ rw e (and_both _ _ (below_of j k l) h)

ancestor_above : (T : Tableau) → ((k : ℕ) → k < T.node_rows → KeepsParent T k) → (n i j : ℕ) → j < n → j < T.node_rows → Ancestor T.nodes i j → above_n T.nodes n (pos i) j ≡ true
ancestor_above T keeps zero i j l m a = absurd (omega arith)
ancestor_above T keeps (suc n) i j l m (parent e) =
    above_more T.nodes n (pos i) j i e (parent_below T j i (keeps j m) e) (or_left _ _ (eq_z_refl (pos i)))
ancestor_above T keeps (suc n) i j l m (further {k = k} e a) =
    let b : k < j = parent_below T j k (keeps j m) e in
    above_more
    T.nodes
    n
    (pos i)
    j
    k
    e
    b
    (or_right (eq_z (pos k) (pos i)) _ (ancestor_above T keeps n i k (omega arith) (omega arith) a))

-- where parents have smaller numbers, the search finds the ancestors and nothing else
pub ancestor_tests : (T : Tableau) → ((k : ℕ) → k < T.node_rows → KeepsParent T k) → (z : ℤ) (j : ℕ) → j < T.node_rows → is_ancestor T.nodes z j tests ((i : ℕ) × (z ≡ pos i) × Ancestor T.nodes i j)
unfolding is_ancestor
ancestor_tests T keeps z j l =
    (above_ancestor T.nodes (suc j) z j, λ p. rw p.1 (ancestor_above T keeps (suc j) p.0 j (omega arith) l p.2))
