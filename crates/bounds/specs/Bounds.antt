-- The table of what is worked out for each node, as it is filled.
use Rattle.std.specs.Prelude.{ℕ, zero, suc, ◌+◌, ◌*◌, ◌<◌, ◌≤◌, ◌≡◌, List, [], ◌∷◌, ◌++◌, ℤ, length, get_or}
use Rattle.stab.specs.Basic.{nat}
use Rattle.stab.specs.Node as N
use Rattle.stab.specs.Node.{node_at}
use Rattle.branch.specs.Parents.{AllUpFit}
use Rattle.branch.specs.Work.{top_of, AllWorked}

-- node j is next, a child of u, and there is room for it
pub record Next (nodes : List ℤ) (least : ℤ) (work : List ℕ) (j u : ℕ) : Type 0 where
  pub fits : AllUpFit nodes (j + 1)
  pub later : 0 < j
  pub parent : u ≡ nat (node_at nodes j).up
  pub room : 4 * j + 3 < length work
  pub done : AllWorked nodes least j work j

-- the four numbers of each of the first n nodes, of which children are counted among the first k
unfoldable pub work_table : List ℤ → ℤ → ℕ → ℕ → List ℕ
work_table nodes least k zero = []
work_table nodes least k (suc n) =
    work_table nodes least k n
    ++ N.rank nodes n ∷ (N.bound_of nodes least n).L ∷ top_of (N.bound_of nodes least n).H ∷ N.child_count_of nodes k n ∷ []

-- from place n on a table is as it was
abbrev pub Stays : ℕ → List ℕ → List ℕ → Type 0
Stays n work work' = (x : ℕ) → n ≤ x → get_or work' x 0 ≡ get_or work x 0
