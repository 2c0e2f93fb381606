-- 02, No. 1: wide rows. "A wide schema text adds kinds 8 not (a), 9 implies, 10 equivalent, 11 exclusive or (a, b); unused columns are 0."
use Rattle.std.specs.Prelude.{ℕ, zero, suc, ◌+◌, max, Bool, true, false, not, leb, ℤ, pos, if◌then◌else◌}
use Rattle.stab.specs.Basic.{◌and◌, ◌or◌, eq_z, within, nat, below}
use Rattle.stab.specs.Formula.{Row, row_at, Schema, Op, Base, Kind, unknown, kind_of, constant, literal, junction, iteration, base_of, on_index, offset}

-- ---- the kinds

-- equivalence and exclusive or are one connective and its negation
pub data WideKind : Type 0 where
  plain : Kind → WideKind
  negation : WideKind
  implication : WideKind
  -- true: both sides have the same value; false: just one of them is true
  equivalence : Bool → WideKind

unfoldable pub wide_kind_of : ℤ → WideKind
wide_kind_of z =
    if eq_z z (pos 8) then negation else
    if eq_z z (pos 9) then implication else
    if eq_z z (pos 10) then equivalence true else
    if eq_z z (pos 11) then equivalence false else
    plain (kind_of z)

-- ---- the formula that a wide row stands for

pub data Wide : Type 0 where
  const : Bool → Wide
  lit : Bool → ℤ → Base → ℤ → Wide
  join : Op → Wide → Wide → Wide
  iter : Op → Wide → ℤ → ℤ → Wide
  neg : Wide → Wide
  imp : Wide → Wide → Wide
  -- equivalent (true), exclusive or (false)
  equiv : Bool → Wide → Wide → Wide

-- the formula of row a, where it may be pointed to, and false where not
unfoldable pub wide_part_if : Bool → (ℕ → Wide) → ℕ → Wide
wide_part_if true tree a = tree a
wide_part_if false tree a = const false

-- what z points to from row r: "a row points only to smaller row numbers"
unfoldable pub wide_part : ℕ → (ℕ → Wide) → ℤ → Wide
wide_part r tree z = wide_part_if (below r z) tree (nat z)

unfoldable pub wide_decode : ℕ → Row → WideKind → (ℕ → Wide) → Wide
wide_decode r w (plain (constant v)) tree = const v
wide_decode r w (plain (literal v)) tree = lit v w.a (base_of w.b) w.c
wide_decode r w (plain (junction o)) tree = join o (wide_part r tree w.a) (wide_part r tree w.b)
wide_decode r w (plain (iteration o)) tree = iter o (wide_part r tree w.a) w.b w.c
wide_decode r w (plain unknown) tree = const false
wide_decode r w negation tree = neg (wide_part r tree w.a)
wide_decode r w implication tree = imp (wide_part r tree w.a) (wide_part r tree w.b)
wide_decode r w (equivalence v) tree = equiv v (wide_part r tree w.a) (wide_part r tree w.b)

-- the formula of row r, for k > r: row numbers fall, so k steps are enough
unfoldable pub wide_tree_n : (ℕ → Row) → ℕ → ℕ → Wide
wide_tree_n rows zero r = const false
wide_tree_n rows (suc k) r = wide_decode r (rows r) (wide_kind_of (rows r).kind) (wide_tree_n rows k)

unfoldable pub wide_tree : (ℕ → Row) → ℕ → Wide
wide_tree rows r = wide_tree_n rows (suc r) r

-- the formula of a wide schema: its root's
abbrev pub wide_formula : Schema → Wide
wide_formula S = wide_tree (row_at S.table) (nat S.root)

-- ---- "Wide rows obey 01's rules on bodies, mixing, size and depth under 7 and 8."

-- "1 for kinds 0..3, 1 plus the sizes of the parts else"
unfoldable pub wide_size : Wide → ℕ
wide_size (const v) = 1
wide_size (lit v s x c) = 1
wide_size (join o f g) = 1 + wide_size f + wide_size g
wide_size (iter o f b c) = 1 + wide_size f
wide_size (neg f) = 1 + wide_size f
wide_size (imp f g) = 1 + wide_size f + wide_size g
wide_size (equiv v f g) = 1 + wide_size f + wide_size g

-- "1 for kinds 0..3, 1 plus the deepest part else"
unfoldable pub wide_depth : Wide → ℕ
wide_depth (const v) = 1
wide_depth (lit v s x c) = 1
wide_depth (join o f g) = 1 + max (wide_depth f) (wide_depth g)
wide_depth (iter o f b c) = 1 + wide_depth f
wide_depth (neg f) = 1 + wide_depth f
wide_depth (imp f g) = 1 + max (wide_depth f) (wide_depth g)
wide_depth (equiv v f g) = 1 + max (wide_depth f) (wide_depth g)

-- a literal on i stands in it outside an iteration
unfoldable pub wide_loose : Wide → Bool
wide_loose (const v) = false
wide_loose (lit v s x c) = on_index x
wide_loose (join o f g) = wide_loose f or wide_loose g
wide_loose (iter o f b c) = false
wide_loose (neg f) = wide_loose f
wide_loose (imp f g) = wide_loose f or wide_loose g
wide_loose (equiv v f g) = wide_loose f or wide_loose g

-- a literal not on i, or an iteration, stands in it
unfoldable pub wide_fixed : Wide → Bool
wide_fixed (const v) = false
wide_fixed (lit v s x c) = not (on_index x)
wide_fixed (join o f g) = wide_fixed f or wide_fixed g
wide_fixed (iter o f b c) = true
wide_fixed (neg f) = wide_fixed f
wide_fixed (imp f g) = wide_fixed f or wide_fixed g
wide_fixed (equiv v f g) = wide_fixed f or wide_fixed g

-- "A body holds no iteration and no literal with b = 1 or 0."
unfoldable pub is_wide_body : Wide → Bool
is_wide_body f = not (wide_fixed f)

-- "A row is outer if no literal on i stands in it outside an iteration."
unfoldable pub is_wide_outer : Wide → Bool
is_wide_outer f = not (wide_loose f)

-- "may not mix literals on i that stand outside an iteration with literals not on i or with iterations"
unfoldable pub wide_mixes : Wide → Bool
wide_mixes f = wide_loose f and wide_fixed f

-- "(a, b)": two smaller rows that do not mix; "unused columns are 0"
unfoldable pub two_parts : (ℕ → Row) → ℕ → Row → Bool
two_parts rows r w = below r w.a and below r w.b and eq_z w.c (pos 0) and not (wide_mixes (wide_tree rows r))

unfoldable pub wide_formed_as : (ℕ → Row) → ℕ → Row → WideKind → Bool
wide_formed_as rows r w (plain (constant v)) = eq_z w.a (pos 0) and eq_z w.b (pos 0) and eq_z w.c (pos 0)
wide_formed_as rows r w (plain (literal v)) = within (pos 0) (pos 255) w.a and within (pos 0) (pos 2) w.b and offset w.c
wide_formed_as rows r w (plain (junction o)) = two_parts rows r w
wide_formed_as rows r w (plain (iteration o)) = below r w.a and offset w.b and offset w.c and is_wide_body (wide_tree rows (nat w.a))
wide_formed_as rows r w (plain unknown) = false
wide_formed_as rows r w negation = below r w.a and eq_z w.b (pos 0) and eq_z w.c (pos 0)
wide_formed_as rows r w implication = two_parts rows r w
wide_formed_as rows r w (equivalence v) = two_parts rows r w

unfoldable pub wide_formed : (ℕ → Row) → ℕ → Bool
wide_formed rows r = wide_formed_as rows r (rows r) (wide_kind_of (rows r).kind)

-- size "at most 4,096", depth "at most 64"
unfoldable pub wide_small : (ℕ → Row) → ℕ → Bool
wide_small rows r = leb (wide_size (wide_tree rows r)) 4096 and leb (wide_depth (wide_tree rows r)) 64
