-- The parents of nodes, from the tables alone.
use Rattle.std.specs.Prelude.{ℕ, zero, suc, ◌<◌, ◌≡◌, Bool, true, List, [], ◌∷◌, ℤ, pos, neg_ℤ}
use Rattle.stab.specs.Basic.{◌and◌, eq_z, below, same_list}
use Rattle.stab.specs.Node.{node_at, set_of}

-- node 0 has -1, any other node a smaller number
unfoldable pub up_fits : List ℤ → ℕ → Bool
up_fits nodes zero = eq_z (node_at nodes zero).up (neg_ℤ (pos 1))
up_fits nodes (suc i) = below (suc i) (node_at nodes (suc i)).up

-- the set of node j is the row z alone
unfoldable pub is_alone : List ℤ → List ℤ → ℕ → ℤ → Bool
is_alone nodes members j z = same_list (set_of members (node_at nodes j)) (z ∷ [])

-- the parent of node j, and node 0's set
unfoldable pub parent_right : List ℤ → List ℤ → ℤ → ℕ → Bool
parent_right nodes members root zero = up_fits nodes zero and is_alone nodes members zero root
parent_right nodes members root (suc i) = up_fits nodes (suc i)

-- what is known of parents that were not refused
abbrev pub AllUpFit : List ℤ → ℕ → Type 0
AllUpFit nodes k = (j : ℕ) → j < k → up_fits nodes j ≡ true
