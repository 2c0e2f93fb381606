-- 01, "Formula rows".
use Rattle.std.specs.Prelude.{ℕ, zero, suc, ◌+◌, ◌*◌, ◌-◌, max, Bool, true, false, not, List, ltb, leb, ℤ, pos, neg_ℤ, get_or, if◌then◌else◌}
use Rattle.stab.specs.Basic.{◌and◌, ◌or◌, eq_z, within, nat, below}

-- ---- rows

-- "A formula is a row of four whole numbers, kind a b c."
pub record Row : Type 0 where
  pub kind : ℤ
  pub a : ℤ
  pub b : ℤ
  pub c : ℤ

-- row r of a table of numbers
unfoldable pub row_at : List ℤ → ℕ → Row
row_at t r = record { kind = get_or t (4 * r) (pos 0); a = get_or t (4 * r + 1) (pos 0); b = get_or t (4 * r + 2) (pos 0); c = get_or t (4 * r + 3) (pos 0) }

-- "Schema rows count from 0; proof rows continue the count": row r of a schema table with s rows and a proof table
unfoldable pub formula_rows : List ℤ → ℕ → List ℤ → ℕ → Row
formula_rows schema s proof r = if ltb r s then row_at schema r else row_at proof (r - s)

-- A schema as it is lent: a table that is said to hold so many rows, the root, which is to be one of them, and the least value of n.
pub record Schema : Type 0 where
  pub table : List ℤ
  pub rows : ℕ
  pub root : ℤ
  pub least : ℤ

-- The kinds come in pairs: true and false, literal and negated literal, and and or, big and and big or.
pub data Op : Type 0 where
  conj disj : Op

pub data Kind : Type 0 where
  constant : Bool → Kind
  literal : Bool → Kind
  junction : Op → Kind
  iteration : Op → Kind
  unknown : Kind

unfoldable pub kind_of : ℤ → Kind
kind_of z =
    if eq_z z (pos 0) then constant true else
    if eq_z z (pos 1) then constant false else
    if eq_z z (pos 2) then literal true else
    if eq_z z (pos 3) then literal false else
    if eq_z z (pos 4) then junction conj else
    if eq_z z (pos 5) then junction disj else
    if eq_z z (pos 6) then iteration conj else
    if eq_z z (pos 7) then iteration disj else
    unknown

-- "b says what c is added to: 0 nothing, 1 the parameter n, 2 the bound index i"
pub data Base : Type 0 where
  nothing parameter index : Base

unfoldable pub base_of : ℤ → Base
base_of z = if eq_z z (pos 0) then nothing else if eq_z z (pos 1) then parameter else index

-- ---- the formula that a row stands for

pub data Formula : Type 0 where
  -- true and false
  const : Bool → Formula
  -- a literal (true) or negated literal (false): symbol, base, what is added
  lit : Bool → ℤ → Base → ℤ → Formula
  -- and, or
  join : Op → Formula → Formula → Formula
  -- big and, big or: body, for i from b up to n - c
  iter : Op → Formula → ℤ → ℤ → Formula

-- the formula of row a, where it may be pointed to, and false where not
unfoldable pub part_if : Bool → (ℕ → Formula) → ℕ → Formula
part_if true tree a = tree a
part_if false tree a = const false

-- what z points to from row r: "a row points only to smaller row numbers"
unfoldable pub part : ℕ → (ℕ → Formula) → ℤ → Formula
part r tree z = part_if (below r z) tree (nat z)

unfoldable pub decode : ℕ → Row → Kind → (ℕ → Formula) → Formula
decode r w (constant v) tree = const v
decode r w (literal v) tree = lit v w.a (base_of w.b) w.c
decode r w (junction o) tree = join o (part r tree w.a) (part r tree w.b)
decode r w (iteration o) tree = iter o (part r tree w.a) w.b w.c
decode r w unknown tree = const false

-- the formula of row r, for k > r: row numbers fall, so k steps are enough
unfoldable pub tree_n : (ℕ → Row) → ℕ → ℕ → Formula
tree_n rows zero r = const false
tree_n rows (suc k) r = decode r (rows r) (kind_of (rows r).kind) (tree_n rows k)

-- the formula of row r. A row of no kind and a pointer to no smaller row stand for false, so that every row has a formula; an
-- ill-formed row is turned away before its formula is asked for.
unfoldable pub tree : (ℕ → Row) → ℕ → Formula
tree rows r = tree_n rows (suc r) r

-- the formula of a schema: its root's
abbrev pub schema_formula : Schema → Formula
schema_formula S = tree (row_at S.table) (nat S.root)

-- ---- size, depth, literals on i

-- "Size counts each occurrence: 1 for kinds 0..3, 1 plus the sizes of the parts else"
unfoldable pub size : Formula → ℕ
size (const v) = 1
size (lit v s x c) = 1
size (join o f g) = 1 + size f + size g
size (iter o f b c) = 1 + size f

-- "Depth is 1 for kinds 0..3, 1 plus the deepest part else"
unfoldable pub depth : Formula → ℕ
depth (const v) = 1
depth (lit v s x c) = 1
depth (join o f g) = 1 + max (depth f) (depth g)
depth (iter o f b c) = 1 + depth f

unfoldable pub on_index : Base → Bool
on_index nothing = false
on_index parameter = false
on_index index = true

-- a literal on i stands in it outside an iteration
unfoldable pub loose : Formula → Bool
loose (const v) = false
loose (lit v s x c) = on_index x
loose (join o f g) = loose f or loose g
loose (iter o f b c) = false

-- a literal not on i, or an iteration, stands in it
unfoldable pub fixed : Formula → Bool
fixed (const v) = false
fixed (lit v s x c) = not (on_index x)
fixed (join o f g) = fixed f or fixed g
fixed (iter o f b c) = true

-- "A body holds no iteration and no literal with b = 1 or 0."
unfoldable pub is_body : Formula → Bool
is_body f = not (fixed f)

-- "A row is outer if no literal on i stands in it outside an iteration."
unfoldable pub is_outer : Formula → Bool
is_outer f = not (loose f)

-- "An and or an or may not mix literals on i that stand outside an iteration with literals not on i or with iterations."
unfoldable pub mixes : Formula → Bool
mixes f = loose f and fixed f

-- ---- which rows are well formed

-- "-9999..9999"
unfoldable pub offset : ℤ → Bool
offset z = within (neg_ℤ (pos 9999)) (pos 9999) z

unfoldable pub well_formed_as : (ℕ → Row) → ℕ → Row → Kind → Bool
-- "a, b, c are 0"
well_formed_as rows r w (constant v) = eq_z w.a (pos 0) and eq_z w.b (pos 0) and eq_z w.c (pos 0)
-- "a is the symbol 0..255; b says what c is added to: 0 .. 1 .. 2 ..; c is -9999..9999"
well_formed_as rows r w (literal v) = within (pos 0) (pos 255) w.a and within (pos 0) (pos 2) w.b and offset w.c
-- "parts a and b; c is 0"
well_formed_as rows r w (junction o) = below r w.a and below r w.b and eq_z w.c (pos 0) and not (mixes (tree rows r))
-- "body a, for i from b up to n - c; b and c are -9999..9999"
well_formed_as rows r w (iteration o) = below r w.a and offset w.b and offset w.c and is_body (tree rows (nat w.a))
well_formed_as rows r w unknown = false

unfoldable pub well_formed : (ℕ → Row) → ℕ → Bool
well_formed rows r = well_formed_as rows r (rows r) (kind_of (rows r).kind)

-- size "at most 4,096", depth "at most 64"
unfoldable pub small_enough : (ℕ → Row) → ℕ → Bool
small_enough rows r = leb (size (tree rows r)) 4096 and leb (depth (tree rows r)) 64
