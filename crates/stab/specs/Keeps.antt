-- The buyer's demand 2 as plain statements, with no order of refusal: when a tableau, and when a model, is accepted.
use Rattle.std.specs.Prelude.{ℕ, zero, suc, ◌*◌, ◌≤◌, ◌<◌, ◌≡◌, ◌≢◌, ◌⊎◌, true, false, ℤ, pos, neg_ℤ, ◌+ℤ◌, ◌-ℤ◌, ◌≤ℤ◌, ◌<ℤ◌, length}
use mathlib.Core.List.{List, [], ◌∷◌, Memᴰ}
use Rattle.std.proofs.Math.Option.{none, some}
use Rattle.stab.specs.Basic.{nat}
use Rattle.stab.specs.Formula.{Row, Op, Kind, constant, literal, junction, iteration, unknown, kind_of, index, Formula, const, lit, join, iter, tree, size, depth, Schema, row_at}
use Rattle.stab.specs.Alike.{lower, instance}
use Rattle.stab.specs.Node.{Tableau, Bound, rows, row_count, row, formula, node, set, set_start, set_end, split_at, bound, rank, child_count}
use Rattle.stab.specs.Rule.{unused, rule, given, index_at}
use Rattle.stab.specs.Model.{Model, pair_symbol, pair_index, satisfied}

-- ---- formula rows

-- z lies in lo..hi
abbrev pub Within : ℤ → ℤ → ℤ → Type 0
Within lo hi z = (lo ≤ℤ z) × (z ≤ℤ hi)

-- z is one of 0, 1, .. n - 1
abbrev pub Below : ℕ → ℤ → Type 0
Below n z = (pos 0 ≤ℤ z) × (z <ℤ pos n)

-- a literal on i stands in it outside an iteration
abbrev pub Loose : Formula → Type 0
Loose (const v) = ⊥
Loose (lit v s x c) = x ≡ index
Loose (join o f g) = Loose f ⊎ Loose g
Loose (iter o f b c) = ⊥

-- a literal not on i, or an iteration, stands in it
abbrev pub Fixed : Formula → Type 0
Fixed (const v) = ⊥
Fixed (lit v s x c) = x ≢ index
Fixed (join o f g) = Fixed f ⊎ Fixed g
Fixed (iter o f b c) = Unit {0}

-- "A row is outer if no literal on i stands in it outside an iteration."
abbrev pub Outer : Formula → Type 0
Outer f = ¬ Loose f

-- row r with columns w is a well-formed row of its kind
abbrev pub FormedAs : (ℕ → Row) → ℕ → Row → Kind → Type 0
-- "a, b, c are 0"
FormedAs rows r w (constant v) = (w.a ≡ pos 0) × ((w.b ≡ pos 0) × (w.c ≡ pos 0))
-- "a is the symbol 0..255"; b is 0, 1 or 2; "c is -9999..9999"
FormedAs rows r w (literal v) = Within (pos 0) (pos 255) w.a × (Within (pos 0) (pos 2) w.b × Within (neg_ℤ (pos 9999)) (pos 9999) w.c)
-- "parts a and b; c is 0"; no mixing
FormedAs rows r w (junction o) = Below r w.a × (Below r w.b × ((w.c ≡ pos 0) × ¬ (Loose (tree rows r) × Fixed (tree rows r))))
-- "body a, for i from b up to n - c; b and c are -9999..9999"; "A body holds no iteration and no literal with b = 1 or 0."
FormedAs rows r w (iteration o) = Below r w.a × (Within (neg_ℤ (pos 9999)) (pos 9999) w.b × (Within (neg_ℤ (pos 9999)) (pos 9999) w.c × ¬ Fixed (tree rows (nat w.a))))
FormedAs rows r w unknown = ⊥

pub record KeepsRow (rows : ℕ → Row) (r : ℕ) : Type 0 where
  pub formed : FormedAs rows r (rows r) (kind_of (rows r).kind)
  pub small : size (tree rows r) ≤ 4096
  pub flat : depth (tree rows r) ≤ 64

-- the n formula rows, of which s are schema rows; the root, "an outer schema row", and the least value
pub record KeepsFormulas (rows : ℕ → Row) (n s : ℕ) (root least : ℤ) : Type 0 where
  pub root_row : Below s root
  pub least_range : Within (pos 0) (pos 9999) least
  pub each : (r : ℕ) → r < n → KeepsRow rows r
  pub root_outer : Outer (tree rows (nat root))

-- a schema alone: its root, its least value and its rows
abbrev pub KeepsSchema : Schema → Type 0
KeepsSchema S = KeepsFormulas (row_at S.table) S.rows S.rows S.root S.least

-- 02, No. 4: the second is the first "after swapping the sides of any and or or, also inside bodies"
pub data Alike : Formula → Formula → Type 0 where
  -- nothing is swapped
  itself : {f : Formula} → Alike f f
  -- the sides of an and, of an or
  sides : {o : Op} {f g : Formula} → Alike (join o f g) (join o g f)
  -- within the left side, within the right side, inside a body
  left : {o : Op} {f h g : Formula} → Alike f h → Alike (join o f g) (join o h g)
  right : {o : Op} {f g k : Formula} → Alike g k → Alike (join o f g) (join o f k)
  inside : {o : Op} {f h : Formula} {b c : ℤ} → Alike f h → Alike (iter o f b c) (iter o h b c)
  -- one after another
  next : {f g h : Formula} → Alike f g → Alike g h → Alike f h

-- ---- nodes

abbrev pub Ascending : List ℤ → Type 0
Ascending [] = Unit {0}
Ascending (x ∷ []) = Unit {0}
Ascending (x ∷ (y ∷ ys)) = (x <ℤ y) × Ascending (y ∷ ys)

pub record OuterRow (T : Tableau) (z : ℤ) : Type 0 where
  pub is_row : Below (row_count T) z
  pub outer : Outer (formula T z)

pub record KeepsSet (T : Tableau) (j : ℕ) : Type 0 where
  pub follows : (node T j).start ≡ set_start T.nodes j
  pub not_negative : pos 0 ≤ℤ (node T j).size
  pub counted : set_end T.nodes j ≤ℤ pos T.member_count
  pub order : Ascending (set T j)
  pub outer_rows : (z : ℤ) → Memᴰ z (set T j) → OuterRow T z
  -- no member is left over after the last node
  pub last : suc j ≡ T.node_rows → set_end T.nodes j ≡ pos T.member_count

abbrev pub KeepsParent : Tableau → ℕ → Type 0
KeepsParent T zero = ((node T zero).up ≡ neg_ℤ (pos 1)) × (set T zero ≡ T.root ∷ [])
KeepsParent T (suc i) = Below (suc i) (node T (suc i)).up

-- ---- the rules

-- z comes from node p's set, or from its rule for the child of rank k
abbrev pub DrawnFrom : Tableau → ℕ → ℕ → ℤ → Type 0
DrawnFrom T p k z = Memᴰ z (set T p) ⊎ Memᴰ z (given T (node T p) k)

abbrev pub KeepsDrawn : Tableau → ℕ → Type 0
KeepsDrawn T zero = Unit {0}
KeepsDrawn T (suc i) = (z : ℤ) → Memᴰ z (set T (suc i)) → DrawnFrom T (nat (node T (suc i)).up) (rank T.nodes (suc i)) z

-- a field for which the table has a kind names a row of that kind; any other is unused
pub record KeepsKind (T : Tableau) (need z : ℤ) : Type 0 where
  pub unused_field : need ≡ unused → z ≡ unused
  pub is_row : need ≢ unused → Below (row_count T) z
  pub of_kind : need ≢ unused → (row T z).kind ≡ need

-- rule 2, at a node with bound B: "K lies between L and H - 1, or between L and 9998 at an open node"
pub record Splits (B : Bound) (K : ℕ) : Type 0 where
  pub from_l : B.L ≤ K
  pub at_open : B.H ≡ none → K ≤ 9998
  pub below_h : (H : ℕ) → B.H ≡ some H → K < H

-- rules 3 and 4
pub record Unfolds (T : Tableau) (j : ℕ) : Type 0 where
  pub nonempty : ((row T (node T j).on).b +ℤ (row T (node T j).on).c) ≤ℤ pos (bound T j).L
  pub same_body : (row T (node T j).with).a ≡ (row T (node T j).on).a
  pub same_start : (row T (node T j).with).b ≡ (row T (node T j).on).b
  pub shorter : (row T (node T j).with).c ≡ ((row T (node T j).on).c +ℤ pos 1)
  pub instance_of : Alike (instance (row T (node T j).on).c (formula T (row T (node T j).on).a)) (formula T (node T j).other)

-- two literals name the same index
abbrev pub SameIndex : Bound → Row → Row → Type 0
SameIndex B v w = ((v.b ≡ w.b) × (v.c ≡ w.c)) ⊎ ((B.H ≡ some B.L) × (index_at B.L v ≡ index_at B.L w))

-- rule 6
pub record Clashes (T : Tableau) (j : ℕ) : Type 0 where
  pub with_stands : Memᴰ (node T j).with (set T j)
  pub same_symbol : (row T (node T j).on).a ≡ (row T (node T j).with).a
  pub same_index : SameIndex (bound T j) (row T (node T j).on) (row T (node T j).with)

-- rule 8, with a link to node i
pub record Loops (T : Tableau) (j i : ℕ) : Type 0 where
  pub target : (node T j).to ≡ pos i
  pub before : i < j
  pub above : pos (bound T i).L ≤ℤ (pos (bound T j).L -ℤ (node T j).by)
  pub below : (A : ℕ) → (bound T i).H ≡ some A → (H : ℕ) × ((bound T j).H ≡ some H) × ((pos H -ℤ (node T j).by) ≤ℤ pos A)
  pub lowered : (z : ℤ) → Memᴰ z (set T i) → (x : ℤ) × Memᴰ x (set T j) × Alike (lower (node T j).by (formula T z)) (formula T x)

pub record KeepsStep (T : Tableau) (j : ℕ) : Type 0 where
  pub known : Below 9 (node T j).rule
  pub on : KeepsKind T (rule T j).on (node T j).on
  pub on_stands : (rule T j).on ≢ unused → Memᴰ (node T j).on (set T j)
  pub with : KeepsKind T (rule T j).with (node T j).with
  pub other_used : (rule T j).other ≡ true → Below (row_count T) (node T j).other
  pub other_unused : (rule T j).other ≡ false → (node T j).other ≡ unused
  pub link_used : (rule T j).link ≡ true → pos 1 ≤ℤ (node T j).by
  pub link_unused : (rule T j).link ≡ false → (node T j).to ≡ unused
  pub split_used : (rule T j).split ≡ true → pos 0 ≤ℤ (node T j).by
  pub by_unused : (rule T j).link ≡ false → (rule T j).split ≡ false → (node T j).by ≡ pos 0
  pub split : (node T j).rule ≡ pos 2 → Splits (bound T j) (split_at (bound T j).L (node T j).by)
  pub unfolds : ((node T j).rule ≡ pos 3) ⊎ ((node T j).rule ≡ pos 4) → Unfolds T j
  pub clash : (node T j).rule ≡ pos 6 → Clashes T j
  pub void : (node T j).rule ≡ pos 7 → (H : ℕ) × ((bound T j).H ≡ some H) × (pos H <ℤ ((row T (node T j).on).b +ℤ (row T (node T j).on).c))
  pub loop : (node T j).rule ≡ pos 8 → (i : ℕ) × Loops T j i
  pub children : child_count T j ≡ (rule T j).children

pub record KeepsNode (T : Tableau) (j : ℕ) : Type 0 where
  pub set : KeepsSet T j
  pub parent : KeepsParent T j
  pub drawn : KeepsDrawn T j
  pub step : KeepsStep T j

-- ---- the whole record

-- the lent tables hold what their counts say, and the counts are within the limits
pub record KeepsTables (T : Tableau) : Type 0 where
  pub schema_held : 4 * T.schema_rows ≤ length T.schema
  pub proof_held : 4 * T.proof_rows ≤ length T.proof
  pub nodes_held : 9 * T.node_rows ≤ length T.nodes
  pub members_held : T.member_count ≤ length T.members
  pub row_limit : row_count T ≤ 1024
  pub node_limit : T.node_rows ≤ 1024
  pub member_limit : T.member_count ≤ 8192

-- what the older check asks: there is a node, and all rows keep document 01's rules, as 02, Nos. 3 to 6 amend them
pub record KeepsOlder (T : Tableau) : Type 0 where
  pub tables : KeepsTables T
  pub formulas : KeepsFormulas (rows T) (row_count T) T.schema_rows T.root T.least
  pub has_node : 0 < T.node_rows
  pub nodes : (j : ℕ) → j < T.node_rows → KeepsNode T j

-- 02, No. 9: no proof row's "four columns equal those of an earlier schema or proof row"
abbrev pub Fresh : Tableau → Type 0
Fresh T = (r q : ℕ) → T.schema_rows ≤ r → r < row_count T → q < r → rows T q ≢ rows T r

-- demand 2: a tableau is accepted exactly when "it has a node and all its rows keep document 01's rules"; 02, No. 9: "Demand 2 gains this
-- as a rule, for the check alone."
pub record Keeps (T : Tableau) : Type 0 where
  pub older : KeepsOlder T
  pub fresh : Fresh T

-- ---- a model

-- one pair stands before another: by symbol, then by index
abbrev pub PairBefore : ℤ → ℤ → ℤ → ℤ → Type 0
PairBefore s i t j = (s <ℤ t) ⊎ ((s ≡ t) × (i <ℤ j))

pub record KeepsPair (t : List ℤ) (k : ℕ) : Type 0 where
  pub symbol : Within (pos 0) (pos 255) (pair_symbol t k)
  pub index : Within (neg_ℤ (pos 29997)) (pos 29997) (pair_index t k)
  pub follows : (i : ℕ) → k ≡ suc i → PairBefore (pair_symbol t i) (pair_index t i) (pair_symbol t k) (pair_index t k)

-- "A model is accepted exactly when it and its schema are well formed, n is in document 01's range and the schema is true there."
pub record KeepsModel (M : Model) : Type 0 where
  pub schema_held : 4 * M.schema.rows ≤ length M.schema.table
  pub pairs_held : 2 * M.pair_rows ≤ length M.pairs
  pub row_limit : M.schema.rows ≤ 1024
  pub pair_limit : M.pair_rows ≤ 4096
  pub formulas : KeepsSchema M.schema
  pub pairs : (k : ℕ) → k < M.pair_rows → KeepsPair M.pairs k
  pub in_range : Within M.schema.least (pos 9999) M.n
  pub holds : satisfied M ≡ true
