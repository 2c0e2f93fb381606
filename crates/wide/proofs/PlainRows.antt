-- The rows that wide rows give: their formulas, and when they are well formed.
use Prim.Native.Nat.{ℕ, ◌<◌}
use mathlib.Core.Path.{◌≡◌, refl, ◌∙◌, ap, ap₂}
use mathlib.Core.Bool.{Bool, true, false, not}
use lib.IntN.{ℤ, pos}
use Rattle.stab.specs.Basic.{◌and◌, eq_z, within, nat}
use Rattle.stab.specs.Formula.{Row, Op, conj, disj, Kind, constant, literal, junction, iteration, kind_of, base_of, Formula, const, lit, join, iter, part, decode, tree, is_body, mixes, offset, well_formed_as, well_formed}
use Rattle.stab.proofs.Bools.{and_left, and_right, and_both}
use Rattle.stab.proofs.Trees.{below_of, part_of, tree_is}
use Rattle.wide.specs.Plain.{row, constant_row, literal_row, join_row, iter_row}

-- ---- a plain row's kind

constant_kind : (v : Bool) → kind_of (constant_row v).kind ≡ constant v
unfolding constant_row row kind_of eq_z
constant_kind true = refl
constant_kind false = refl

literal_kind : (v : Bool) (w : Row) → kind_of (literal_row v w).kind ≡ literal v
unfolding literal_row row kind_of eq_z
literal_kind true w = refl
literal_kind false w = refl

join_kind : (o : Op) (f g : ℕ) → kind_of (join_row o f g).kind ≡ junction o
unfolding join_row row kind_of eq_z
join_kind conj f g = refl
join_kind disj f g = refl

iter_kind : (o : Op) (f : ℕ) (b c : ℤ) → kind_of (iter_row o f b c).kind ≡ iteration o
unfolding iter_row row kind_of eq_z
iter_kind conj f b c = refl
iter_kind disj f b c = refl

-- ---- a plain row's formula, and when it is well formed

module _ (plains : ℕ → Row) (p : ℕ) where
  tree_from : (w : Row) (k : Kind) → plains p ≡ w → kind_of w.kind ≡ k → tree plains p ≡ decode p w k (tree plains)
  tree_from w k e q =
      tree_is plains p
      ∙ ap (λ (x : Row). decode p x (kind_of x.kind) (tree plains)) e
      ∙ ap (λ (x : Kind). decode p w x (tree plains)) q

  formed_from : (w : Row) (k : Kind) → plains p ≡ w → kind_of w.kind ≡ k → well_formed_as plains p w k ≡ true → well_formed plains p ≡ true
  unfolding well_formed
  formed_from w k e q h =
      ap (λ (x : Row). well_formed_as plains p x (kind_of x.kind)) e ∙ ap (well_formed_as plains p w) q ∙ h

  part_is : (f : ℕ) → f < p → part p (tree plains) (pos f) ≡ tree plains f
  unfolding nat
  part_is f l = part_of p (tree plains) (pos f) (below_of p f l)

  pub constant_tree : (v : Bool) → plains p ≡ constant_row v → tree plains p ≡ const v
  unfolding decode
  constant_tree v e = tree_from (constant_row v) (constant v) e (constant_kind v)

  pub constant_formed : (v : Bool) → plains p ≡ constant_row v → well_formed plains p ≡ true
  unfolding well_formed_as constant_row row eq_z ◌and◌
  constant_formed true e = formed_from (constant_row true) (constant true) e (constant_kind true) refl
  constant_formed false e = formed_from (constant_row false) (constant false) e (constant_kind false) refl

  pub literal_tree : (v : Bool) (w : Row) → plains p ≡ literal_row v w → tree plains p ≡ lit v w.a (base_of w.b) w.c
  unfolding decode literal_row row
  literal_tree true w e = tree_from (literal_row true w) (literal true) e (literal_kind true w)
  literal_tree false w e = tree_from (literal_row false w) (literal false) e (literal_kind false w)

  pub literal_formed : (v : Bool) (w : Row) → plains p ≡ literal_row v w → (within (pos 0) (pos 255) w.a and within (pos 0) (pos 2) w.b and offset w.c) ≡ true → well_formed plains p ≡ true
  unfolding well_formed_as literal_row row
  literal_formed true w e h = formed_from (literal_row true w) (literal true) e (literal_kind true w) h
  literal_formed false w e h = formed_from (literal_row false w) (literal false) e (literal_kind false w) h

  join_decoded : (o : Op) (f g : ℕ) → decode p (join_row o f g) (junction o) (tree plains) ≡ join o (part p (tree plains) (pos f)) (part p (tree plains) (pos g))
  unfolding decode join_row row
  join_decoded conj f g = refl
  join_decoded disj f g = refl

  pub join_tree : (o : Op) (f g : ℕ) → plains p ≡ join_row o f g → f < p → g < p → tree plains p ≡ join o (tree plains f) (tree plains g)
  join_tree o f g e l m =
      tree_from (join_row o f g) (junction o) e (join_kind o f g) ∙ join_decoded o f g ∙ ap₂ (join o) (part_is f l) (part_is g m)

  join_formed_as : (o : Op) (f g : ℕ) → f < p → g < p → not (mixes (tree plains p)) ≡ true → well_formed_as plains p (join_row o f g) (junction o) ≡ true
  unfolding well_formed_as join_row row eq_z ◌and◌
  join_formed_as conj f g l m h = and_both _ _ (below_of p f l) (and_both _ _ (below_of p g m) h)
  join_formed_as disj f g l m h = and_both _ _ (below_of p f l) (and_both _ _ (below_of p g m) h)

  pub join_formed : (o : Op) (f g : ℕ) → plains p ≡ join_row o f g → f < p → g < p → not (mixes (tree plains p)) ≡ true → well_formed plains p ≡ true
  join_formed o f g e l m h = formed_from (join_row o f g) (junction o) e (join_kind o f g) (join_formed_as o f g l m h)

  iter_decoded : (o : Op) (f : ℕ) (b c : ℤ) → decode p (iter_row o f b c) (iteration o) (tree plains) ≡ iter o (part p (tree plains) (pos f)) b c
  unfolding decode iter_row row
  iter_decoded conj f b c = refl
  iter_decoded disj f b c = refl

  pub iter_tree : (o : Op) (f : ℕ) (b c : ℤ) → plains p ≡ iter_row o f b c → f < p → tree plains p ≡ iter o (tree plains f) b c
  iter_tree o f b c e l =
      tree_from (iter_row o f b c) (iteration o) e (iter_kind o f b c)
      ∙ iter_decoded o f b c
      ∙ ap (λ (x : Formula). iter o x b c) (part_is f l)

  iter_formed_as : (o : Op) (f : ℕ) (b c : ℤ) → f < p → (offset b and offset c) ≡ true → is_body (tree plains f) ≡ true → well_formed_as plains p (iter_row o f b c) (iteration o) ≡ true
  unfolding well_formed_as iter_row row nat
  iter_formed_as conj f b c l h k = and_both _ _ (below_of p f l) (and_both _ _ (and_left _ _ h) (and_both _ _ (and_right _ _ h) k))
  iter_formed_as disj f b c l h k = and_both _ _ (below_of p f l) (and_both _ _ (and_left _ _ h) (and_both _ _ (and_right _ _ h) k))

  pub iter_formed : (o : Op) (f : ℕ) (b c : ℤ) → plains p ≡ iter_row o f b c → f < p → (offset b and offset c) ≡ true → is_body (tree plains f) ≡ true → well_formed plains p ≡ true
  iter_formed o f b c e l h k = formed_from (iter_row o f b c) (iteration o) e (iter_kind o f b c) (iter_formed_as o f b c l h k)
