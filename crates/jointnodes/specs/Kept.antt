-- What the passes over the nodes of two records put, and what they need.
use Rattle.std.specs.Prelude.{ℕ, zero, suc, ◌+◌, ◌*◌, ◌<◌, ◌≤◌, ◌≡◌, List, [], ◌∷◌, ◌++◌, ℤ, pos, neg_ℤ, length, take, drop}
use Rattle.stab.specs.Basic.{nat}
use Rattle.stab.specs.Node.{Node, node_at}
use Rattle.tidied.specs.Tidied.{through, tidy_set}
use Rattle.joint.specs.Joint.{parent_of, further}

-- rule 1 on row r, with its set the first of all
unfoldable pub or_node : ℕ → List ℤ
or_node r =
    neg_ℤ (pos 1) ∷ pos 1 ∷ pos r ∷ neg_ℤ (pos 1) ∷ neg_ℤ (pos 1) ∷ neg_ℤ (pos 1) ∷ pos 0 ∷ pos 0 ∷ pos 1 ∷ []

-- the set of node j
unfoldable pub set_at : List ℤ → List ℤ → ℕ → List ℤ
set_at nodes members j = take (nat (node_at nodes j).size) (drop (nat (node_at nodes j).start) members)

-- the nine numbers of a node that comes d nodes further on, its set from `start` on with `size` members
unfoldable pub placed_node : (ℕ → ℕ) → ℕ → Node → ℕ → ℕ → List ℤ
placed_node new d w start size =
    parent_of d w.up ∷ w.rule ∷ through new w.on ∷ through new w.with ∷ through new w.other ∷
    further d w.to ∷ w.by ∷ pos start ∷ pos size ∷ []

-- the sets of the first j nodes
unfoldable pub placed_sets : List ℤ → List ℤ → (ℕ → ℕ) → ℕ → List ℤ
placed_sets nodes members new zero = []
placed_sets nodes members new (suc j) = placed_sets nodes members new j ++ tidy_set new (set_at nodes members j)

-- the first j nodes, their sets from m on
unfoldable pub placed_nodes : List ℤ → List ℤ → (ℕ → ℕ) → ℕ → ℕ → ℕ → List ℤ
placed_nodes nodes members new d m zero = []
placed_nodes nodes members new d m (suc j) =
    placed_nodes nodes members new d m j
    ++ placed_node new d (node_at nodes j) (m + length (placed_sets nodes members new j)) (length (tidy_set new (set_at nodes members j)))

-- the tables after one node: its set has room, and then it and the node are put
pub record PutsOne (nodes members : List ℤ) (new : ℕ → ℕ) (d j n r : ℕ) (out_nodes₀ out_members₀ out_nodes out_members : List ℤ) : Type 0 where
  pub counted : r ≡ n + length (tidy_set new (set_at nodes members j))
  pub row : r ≤ 8192 → take (9 * (d + j + 1)) out_nodes ≡ take (9 * (d + j)) out_nodes₀ ++ placed_node new d (node_at nodes j) n (length (tidy_set new (set_at nodes members j)))
  pub set : r ≤ 8192 → take r out_members ≡ take n out_members₀ ++ tidy_set new (set_at nodes members j)

-- the tables after j nodes, which come after d nodes with m members
pub record Puts (nodes members : List ℤ) (new : ℕ → ℕ) (d m j r : ℕ) (out_nodes₀ out_members₀ out_nodes out_members : List ℤ) : Type 0 where
  pub counted : r ≡ m + length (placed_sets nodes members new j)
  pub rows : r ≤ 8192 → take (9 * (d + j)) out_nodes ≡ take (9 * d) out_nodes₀ ++ placed_nodes nodes members new d m j
  pub sets : r ≤ 8192 → take r out_members ≡ take m out_members₀ ++ placed_sets nodes members new j

-- node j can be read: its set is among the members and is no larger than a record's rows, and the nodes that it names are few
pub record Readable (nodes members : List ℤ) (j : ℕ) : Type 0 where
  pub held : nat (node_at nodes j).start + nat (node_at nodes j).size ≤ length members
  pub few : nat (node_at nodes j).size ≤ 1024
  pub up : nat (node_at nodes j).up ≤ 1024
  pub to : nat (node_at nodes j).to ≤ 1024

abbrev pub AllReadable : List ℤ → List ℤ → ℕ → Type 0
AllReadable nodes members k = (j : ℕ) → j < k → Readable nodes members j

-- the or's node and the nodes of two records
unfoldable pub both_nodes : ℕ → List ℤ → List ℤ → (ℕ → ℕ) → ℕ → List ℤ → List ℤ → (ℕ → ℕ) → ℕ → List ℤ
both_nodes r nodes members f k nodes' members' g l =
    or_node r
    ++ placed_nodes nodes members f 1 1 k
    ++ placed_nodes nodes' members' g (1 + k) (1 + length (placed_sets nodes members f k)) l

-- their sets
unfoldable pub both_sets : ℕ → List ℤ → List ℤ → (ℕ → ℕ) → ℕ → List ℤ → List ℤ → (ℕ → ℕ) → ℕ → List ℤ
both_sets r nodes members f k nodes' members' g l = (pos r ∷ []) ++ placed_sets nodes members f k ++ placed_sets nodes' members' g l
