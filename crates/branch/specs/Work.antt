-- What is worked out once for each node: four numbers a node.
use Rattle.std.specs.Prelude.{ℕ, ◌+◌, ◌*◌, ◌<◌, ◌≤◌, ◌^◌, ◌≡◌, List, ℤ, get_or}
use Rattle.std.proofs.Math.Option.{Option, none, some}
use Rattle.stab.specs.Node as N

-- an upper bound as one number: 0 for none, else one more than it
unfoldable pub top_of : Option ℕ → ℕ
top_of none = 0
top_of (some H) = H + 1

-- the four numbers of node j: its rank among its parent's children, its bound's L and H, its number of children among the first k nodes
pub record Worked (nodes : List ℤ) (least : ℤ) (k : ℕ) (work : List ℕ) (j : ℕ) : Type 0 where
  pub rank : get_or work (4 * j) 0 ≡ N.rank nodes j
  pub L : get_or work (4 * j + 1) 0 ≡ (N.bound_of nodes least j).L
  pub H : get_or work (4 * j + 2) 0 ≡ top_of (N.bound_of nodes least j).H
  pub children : get_or work (4 * j + 3) 0 ≡ N.child_count_of nodes k j
  -- how large an L can be: a split's K is a number of the table, or its node's own L
  pub small : (N.bound_of nodes least j).L ≤ 2 ^ 31 + j

abbrev pub AllWorked : List ℤ → ℤ → ℕ → List ℕ → ℕ → Type 0
AllWorked nodes least k work n = (j : ℕ) → j < n → Worked nodes least k work j
