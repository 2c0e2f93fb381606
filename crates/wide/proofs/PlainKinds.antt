-- A wide schema without the new kinds means what 01 says.
use Prim.Native.Nat.{ℕ, zero, suc, ◌+◌, max, ◌<◌}
use native.Mathlib.Omega.{arith}
use mathlib.Core.Path.{◌≡◌, refl, sym, ◌∙◌, ap, ap₂}
use mathlib.Core.Bool.{Bool, true, false, not, true≢false}
use lib.Dec.{leb}
use lib.IntN.{ℤ, pos, ◌-ℤ◌}
use Rattle.stab.specs.Basic.{◌and◌, ◌or◌, eq_z, within, nat, below, ◌otherwise◌}
use Rattle.stab.specs.Formula.{Row, row_at, Schema, Kind, constant, literal, junction, iteration, unknown, kind_of, Formula, const, lit, join, iter, part_if, part, decode, tree, size, depth, loose, fixed, is_body, is_outer, mixes, offset, well_formed_as, well_formed, small_enough}
use Rattle.stab.specs.Meaning.{Assignment, op, range_size, value, truth}
use Rattle.stab.specs.Check.{whole_unless, at_unless, row_refusal, root_fits, formula_refusal, formulas_refusal, schema_refusal}
use Rattle.stab.specs.declared.Refusal.TheVariants.{Root, IllFormed, TooLarge}
use Rattle.stab.proofs.Bools.{if_false, and_left, unless_nothing, otherwise_same}
use Rattle.stab.proofs.Whole.{eq_z_not}
use Rattle.stab.proofs.Scans.{scan_same}
use Rattle.stab.proofs.Trees.{below_nat, tree_is}
use Rattle.stab.proofs.Meanings.{over_same}
use Rattle.wide.specs.WideFormula.{WideKind, plain, wide_kind_of, Wide, wide_part_if, wide_part, wide_decode, wide_tree, wide_size, wide_depth, wide_loose, wide_fixed, is_wide_body, is_wide_outer, wide_mixes, two_parts, wide_formed_as, wide_formed, wide_small}
use Rattle.wide.specs.WideFormula.{const as const_w, lit as lit_w, join as join_w, iter as iter_w}
use Rattle.wide.specs.WideMeaning.{wide_value, wide_truth}
use Rattle.wide.specs.Convert.{wide_row_refusal, wide_refusal}
use Rattle.wide.proofs.WideTrees.{wide_tree_is}

-- a plain formula as a wide one
unfoldable pub widened : Formula → Wide
widened (const v) = const_w v
widened (lit v s x c) = lit_w v s x c
widened (join o f g) = join_w o (widened f) (widened g)
widened (iter o f b c) = iter_w o (widened f) b c

widened_value : (σ : Assignment) (n : ℕ) (f : Formula) (i : ℤ) → wide_value σ n (widened f) i ≡ value σ n f i
unfolding wide_value widened value
widened_value σ n (const v) i = refl
widened_value σ n (lit v s x c) i = refl
widened_value σ n (join o f g) i = ap₂ (op o) (widened_value σ n f i) (widened_value σ n g i)
widened_value σ n (iter o f b c) i = over_same o _ _ b (range_size b (pos n -ℤ c)) (λ j. widened_value σ n f j)

widened_size : (f : Formula) → wide_size (widened f) ≡ size f
unfolding wide_size widened size
widened_size (const v) = refl
widened_size (lit v s x c) = refl
widened_size (join o f g) = ap₂ (λ (m k : ℕ). 1 + m + k) (widened_size f) (widened_size g)
widened_size (iter o f b c) = ap (λ (m : ℕ). 1 + m) (widened_size f)

widened_depth : (f : Formula) → wide_depth (widened f) ≡ depth f
unfolding wide_depth widened depth
widened_depth (const v) = refl
widened_depth (lit v s x c) = refl
widened_depth (join o f g) = ap₂ (λ (m k : ℕ). 1 + max m k) (widened_depth f) (widened_depth g)
widened_depth (iter o f b c) = ap (λ (m : ℕ). 1 + m) (widened_depth f)

widened_loose : (f : Formula) → wide_loose (widened f) ≡ loose f
unfolding wide_loose widened loose
widened_loose (const v) = refl
widened_loose (lit v s x c) = refl
widened_loose (join o f g) = ap₂ ◌or◌ (widened_loose f) (widened_loose g)
widened_loose (iter o f b c) = refl

widened_fixed : (f : Formula) → wide_fixed (widened f) ≡ fixed f
unfolding wide_fixed widened fixed
widened_fixed (const v) = refl
widened_fixed (lit v s x c) = refl
widened_fixed (join o f g) = ap₂ ◌or◌ (widened_fixed f) (widened_fixed g)
widened_fixed (iter o f b c) = refl

-- ---- rows of kinds other than 8 to 11

-- none of the first n rows is of kind 8, 9, 10 or 11
abbrev pub OldKinds : (ℕ → Row) → ℕ → Type 0
OldKinds rows n = (r : ℕ) → r < n → within (pos 8) (pos 11) (rows r).kind ≡ false

old_kind : (z : ℤ) → within (pos 8) (pos 11) z ≡ false → wide_kind_of z ≡ plain (kind_of z)
unfolding wide_kind_of within ◌and◌
old_kind z h =
    if_false (eq_z z (pos 8)) _ _ (not_of 8 refl)
    ∙ if_false (eq_z z (pos 9)) _ _ (not_of 9 refl)
    ∙ if_false (eq_z z (pos 10)) _ _ (not_of 10 refl)
    ∙ if_false (eq_z z (pos 11)) _ _ (not_of 11 refl)
  where
    not_of : (k : ℕ) → within (pos 8) (pos 11) (pos k) ≡ true → eq_z z (pos k) ≡ false
    not_of k t = eq_z_not z (pos k) (λ e. true≢false (sym t ∙ ap (within (pos 8) (pos 11)) (sym e) ∙ h))

part_if_widened : (v : Bool) (t : ℕ → Wide) (u : ℕ → Formula) (a : ℕ) → (v ≡ true → t a ≡ widened (u a)) → wide_part_if v t a ≡ widened (part_if v u a)
unfolding wide_part_if part_if widened
part_if_widened true t u a h = h refl
part_if_widened false t u a h = refl

part_widened : (r : ℕ) (t : ℕ → Wide) (u : ℕ → Formula) (z : ℤ) → ((a : ℕ) → a < r → t a ≡ widened (u a)) → wide_part r t z ≡ widened (part r u z)
unfolding wide_part part
part_widened r t u z h = part_if_widened (below r z) t u (nat z) (λ b. h (nat z) (below_nat r z b))

decode_widened : (r : ℕ) (w : Row) (k : Kind) (t : ℕ → Wide) (u : ℕ → Formula) → ((a : ℕ) → a < r → t a ≡ widened (u a)) → wide_decode r w (plain k) t ≡ widened (decode r w k u)
unfolding wide_decode decode widened
decode_widened r w (constant v) t u h = refl
decode_widened r w (literal v) t u h = refl
decode_widened r w (junction o) t u h = ap₂ (join_w o) (part_widened r t u w.a h) (part_widened r t u w.b h)
decode_widened r w (iteration o) t u h = ap (λ (f : Wide). iter_w o f w.b w.c) (part_widened r t u w.a h)
decode_widened r w unknown t u h = refl

and_same : (a b c : Bool) → (a ≡ true → b ≡ c) → (a and b) ≡ (a and c)
unfolding ◌and◌
and_same true b c h = h refl
and_same false b c h = refl

module _ (rows : ℕ → Row) (n : ℕ) (old : OldKinds rows n) where
  kind_plain : (r : ℕ) → r < n → wide_kind_of (rows r).kind ≡ plain (kind_of (rows r).kind)
  kind_plain r l = old_kind (rows r).kind (old r l)

  tree_widened : (r : ℕ) → r < n → wide_tree rows r ≡ widened (tree rows r)
  tree_widened r l = go (suc r) r (omega arith) l
    where
      go : (k r : ℕ) → r < k → r < n → wide_tree rows r ≡ widened (tree rows r)
      go zero r p l = absurd (omega arith)
      go (suc k) r p l =
          wide_tree_is rows r
          ∙ ap (λ (K : WideKind). wide_decode r (rows r) K (wide_tree rows)) (kind_plain r l)
          ∙ decode_widened r (rows r) (kind_of (rows r).kind) (wide_tree rows) (tree rows) (λ a h. go k a (omega arith) (omega arith))
          ∙ ap widened (sym (tree_is rows r))

  mixes_same : (r : ℕ) → r < n → wide_mixes (wide_tree rows r) ≡ mixes (tree rows r)
  unfolding wide_mixes mixes
  mixes_same r l =
      ap wide_mixes (tree_widened r l) ∙ ap₂ ◌and◌ (widened_loose (tree rows r)) (widened_fixed (tree rows r))

  body_same : (r : ℕ) → r < n → is_wide_body (wide_tree rows r) ≡ is_body (tree rows r)
  unfolding is_wide_body is_body
  body_same r l = ap is_wide_body (tree_widened r l) ∙ ap not (widened_fixed (tree rows r))

  formed_as_same : (r : ℕ) (w : Row) (k : Kind) → r < n → wide_formed_as rows r w (plain k) ≡ well_formed_as rows r w k
  unfolding wide_formed_as two_parts well_formed_as
  formed_as_same r w (constant v) l = refl
  formed_as_same r w (literal v) l = refl
  formed_as_same r w (junction o) l =
      ap (λ (t : Bool). below r w.a and below r w.b and eq_z w.c (pos 0) and not t) (mixes_same r l)
  formed_as_same r w (iteration o) l =
      and_same (below r w.a) _ _ (λ h. let m = below_nat r w.a h in ap (λ (t : Bool). offset w.b and offset w.c and t) (body_same (nat w.a) (omega arith)))
  formed_as_same r w unknown l = refl

  old_formed : (r : ℕ) → r < n → wide_formed rows r ≡ well_formed rows r
  unfolding wide_formed well_formed
  old_formed r l =
      ap (wide_formed_as rows r (rows r)) (kind_plain r l) ∙ formed_as_same r (rows r) (kind_of (rows r).kind) l

  old_small : (r : ℕ) → r < n → wide_small rows r ≡ small_enough rows r
  unfolding wide_small small_enough
  old_small r l =
      ap (λ (f : Wide). leb (wide_size f) 4096 and leb (wide_depth f) 64) (tree_widened r l)
      ∙ ap₂ (λ (m k : ℕ). leb m 4096 and leb k 64) (widened_size (tree rows r)) (widened_depth (tree rows r))

  old_outer : (r : ℕ) → r < n → is_wide_outer (wide_tree rows r) ≡ is_outer (tree rows r)
  unfolding is_wide_outer is_outer
  old_outer r l = ap is_wide_outer (tree_widened r l) ∙ ap not (widened_loose (tree rows r))

  -- ---- the theorems

  -- a row means what 01 says, and is well formed and small enough exactly if 01 says so
  pub plain_kinds : (r : ℕ) → r < n → ((σ : Assignment) (m : ℕ) → wide_truth σ m (wide_tree rows r) ≡ truth σ m (tree rows r)) × (wide_formed rows r ≡ well_formed rows r) × (wide_small rows r ≡ small_enough rows r)
  unfolding wide_truth truth
  plain_kinds r l = (
    λ σ m. ap (λ (f : Wide). wide_value σ m f (pos 0)) (tree_widened r l) ∙ widened_value σ m (tree rows r) (pos 0),
    old_formed r l,
    old_small r l,
  )

-- so the same is found of a schema
pub plain_kinds_refused : (S : Schema) → OldKinds (row_at S.table) S.rows → wide_refusal S ≡ schema_refusal S
unfolding wide_refusal wide_row_refusal schema_refusal formulas_refusal formula_refusal row_refusal whole_unless root_fits
plain_kinds_refused S old =
    let rows = row_at S.table in
    let n = S.rows in
    otherwise_same _ _ _ (λ e.
    let l = below_nat n S.root (and_left _ _ (unless_nothing _ _ _ e)) in
    ap₂ ◌otherwise◌
    (scan_same (wide_row_refusal rows) (row_refusal rows) n (λ r p q. ap₂ (λ (v w : Bool). at_unless v IllFormed r otherwise at_unless w TooLarge r) (old_formed rows n old r p) (old_small rows n old r p)))
    (ap (λ (t : Bool). whole_unless t Root) (old_outer rows n old (nat S.root) l)))
