-- 01, "Nodes and their bounds"; 02, No. 5.
use Rattle.std.specs.Prelude.{ℕ, zero, suc, ◌+◌, ◌*◌, ◌≤◌, Bool, true, false, List, [], ◌∷◌, eqb, ℤ, pos, neg_ℤ, ◌+ℤ◌, get_or, take, drop, if◌then◌else◌}
use Rattle.std.proofs.Math.Option.{Option, none, some}
use Rattle.std.specs.Int.Signed.{le_z}
use Rattle.stab.specs.Basic.{◌and◌, eq_z, nat, below, all_of, ascending, same_list, count}
use Rattle.stab.specs.Formula.{Row, Schema, formula_rows, Formula, tree, is_outer}

-- What the check is lent: tables of numbers, with how many rows or members each is said to hold.
pub record Tableau : Type 0 where
  pub schema : List ℤ
  pub schema_rows : ℕ
  pub proof : List ℤ
  pub proof_rows : ℕ
  pub root : ℤ
  pub least : ℤ
  pub nodes : List ℤ
  pub node_rows : ℕ
  pub members : List ℤ
  pub member_count : ℕ

-- the schema that it is lent with
abbrev pub schema_of : Tableau → Schema
schema_of T = record { table = T.schema; rows = T.schema_rows; root = T.root; least = T.least }

-- the formula rows, schema rows first
unfoldable pub rows : Tableau → ℕ → Row
rows T = formula_rows T.schema T.schema_rows T.proof

unfoldable pub row_count : Tableau → ℕ
row_count T = T.schema_rows + T.proof_rows

-- z is the number of a row
unfoldable pub is_row : Tableau → ℤ → Bool
is_row T z = below (row_count T) z

-- the row that z names, and its formula
unfoldable pub row : Tableau → ℤ → Row
row T z = rows T (nat z)

unfoldable pub formula : Tableau → ℤ → Formula
formula T z = tree (rows T) (nat z)

-- "A node row is: up rule on with other to by set." "In a table a node is nine numbers: the seven, then the set's start among the members and its length"
pub record Node : Type 0 where
  pub up : ℤ
  pub rule : ℤ
  pub on : ℤ
  pub with : ℤ
  pub other : ℤ
  pub to : ℤ
  pub by : ℤ
  pub start : ℤ
  pub size : ℤ

unfoldable pub node_at : List ℤ → ℕ → Node
node_at t j = record {
  up = get_or t (9 * j) (pos 0);
  rule = get_or t (9 * j + 1) (pos 0);
  on = get_or t (9 * j + 2) (pos 0);
  with = get_or t (9 * j + 3) (pos 0);
  other = get_or t (9 * j + 4) (pos 0);
  to = get_or t (9 * j + 5) (pos 0);
  by = get_or t (9 * j + 6) (pos 0);
  start = get_or t (9 * j + 7) (pos 0);
  size = get_or t (9 * j + 8) (pos 0);
}

unfoldable pub node : Tableau → ℕ → Node
node T j = node_at T.nodes j

-- ---- sets

-- the set of a node
unfoldable pub set_of : List ℤ → Node → List ℤ
set_of members w = take (nat w.size) (drop (nat w.start) members)

unfoldable pub set : Tableau → ℕ → List ℤ
set T j = set_of T.members (node T j)

-- "sets follow one another from 0": where the set of node j has to start
unfoldable pub set_start : List ℤ → ℕ → ℤ
set_start nodes zero = pos 0
set_start nodes (suc i) = (node_at nodes i).start +ℤ (node_at nodes i).size

-- where the set of node j ends
unfoldable pub set_end : List ℤ → ℕ → ℤ
set_end nodes j = (node_at nodes j).start +ℤ (node_at nodes j).size

-- "sets follow one another from 0, and no length is below 0"
unfoldable pub set_follows : List ℤ → ℕ → Bool
set_follows nodes j = eq_z (node_at nodes j).start (set_start nodes j) and le_z (pos 0) (node_at nodes j).size

-- z is the number of an outer row
unfoldable pub is_outer_row : Tableau → ℤ → Bool
is_outer_row T z = is_row T z and is_outer (formula T z)

-- "set lists outer rows, strictly ascending", among the counted members
unfoldable pub set_fits : Tableau → ℕ → Bool
set_fits T j =
    set_follows T.nodes j and
    le_z (set_end T.nodes j) (pos T.member_count) and
    ascending (set T j) and
    all_of (is_outer_row T) (set T j)

-- ---- parents and children

-- "up is the parent, a smaller number (node 0 has -1)." "Node 0's set is the root alone."
unfoldable pub parent_fits : Tableau → ℕ → Bool
parent_fits T zero = eq_z (node T zero).up (neg_ℤ (pos 1)) and same_list (set T zero) (T.root ∷ [])
parent_fits T (suc i) = below (suc i) (node T (suc i)).up

-- node i names z as its parent
unfoldable pub names : List ℤ → ℤ → ℕ → Bool
names nodes z i = eq_z (node_at nodes i).up z

-- how many children node j has among the first k nodes: "A node's children are the nodes that name it"
unfoldable pub child_count_of : List ℤ → ℕ → ℕ → ℕ
child_count_of nodes k j = count (names nodes (pos j)) k

unfoldable pub child_count : Tableau → ℕ → ℕ
child_count T j = child_count_of T.nodes T.node_rows j

-- how many children of its parent stand before node j: "in ascending order", so 0 for the first child, 1 for the second
unfoldable pub rank : List ℤ → ℕ → ℕ
rank nodes j = count (names nodes (node_at nodes j).up) j

-- ---- bounds

-- 02, No. 5: "A node now knows L and either no upper bound or H."
pub record Bound : Type 0 where
  pub L : ℕ
  pub H : Option ℕ

-- n is at most H, if there is an upper bound
unfoldable pub AtMost : Option ℕ → ℕ → Type 0
AtMost none n = Unit {0}
AtMost (some H) n = n ≤ H

-- n satisfies a bound
unfoldable pub Satisfies : Bound → ℕ → Type 0
Satisfies B n = (B.L ≤ n) × AtMost B.H n

-- there is an upper bound, and it is n
unfoldable pub is_upper : Option ℕ → ℕ → Bool
is_upper none n = false
is_upper (some H) n = eqb n H

-- "An exact node is L = H."
unfoldable pub is_exact : Bound → Bool
is_exact B = is_upper B.H B.L

-- "A split names K in by": K, at a node with lower bound L; "by 0 stands for K = L". A negative by is refused before K is used.
unfoldable pub split_at : ℕ → ℤ → ℕ
split_at L by = if eq_z by (pos 0) then L else nat by

-- "the first child has n ≤ K, the second n ≥ K + 1": the bound of the child of rank k; its other end is the parent's
unfoldable pub split_bound : Bound → ℕ → ℕ → Bound
split_bound B K zero = record { L = B.L; H = some K }
split_bound B K (suc k) = record { L = suc K; H = B.H }

-- "A child has its parent's bound, except under rule 2.": the bound of the child of rank k, of a parent w with bound B
unfoldable pub child_bound : Node → Bound → ℕ → Bound
child_bound w B k = if eq_z w.rule (pos 2) then split_bound B (split_at B.L w.by) k else B

-- "Node 0 is open with the least value."
unfoldable pub first_bound : ℤ → Bound
first_bound least = record { L = nat least; H = none }

-- what a node has from its parent, or first where it has none: a parent w gives child w x k, from its own x, to its child of rank k
unfoldable pub inherit_if : {A : Type 0} → A → (Node → A → ℕ → A) → List ℤ → Bool → (ℕ → A) → ℕ → A
inherit_if first child nodes true above j = child (node_at nodes (nat (node_at nodes j).up)) (above (nat (node_at nodes j).up)) (rank nodes j)
inherit_if first child nodes false above j = first

-- what node j has, for k > j: parents have smaller numbers, so k steps are enough
unfoldable pub inherit_n : {A : Type 0} → A → (Node → A → ℕ → A) → List ℤ → ℕ → ℕ → A
inherit_n first child nodes zero j = first
inherit_n first child nodes (suc k) j = inherit_if first child nodes (below j (node_at nodes j).up) (inherit_n first child nodes k) j

unfoldable pub inherited : {A : Type 0} → A → (Node → A → ℕ → A) → List ℤ → ℕ → A
inherited first child nodes j = inherit_n first child nodes (suc j) j

-- the bound of node j
unfoldable pub bound_of : List ℤ → ℤ → ℕ → Bound
bound_of nodes least j = inherited (first_bound least) child_bound nodes j

unfoldable pub bound : Tableau → ℕ → Bound
bound T j = bound_of T.nodes T.least j
