-- The formula of a well-formed row, kind by kind.
use Prim.Native.Nat.{ℕ, zero, suc, ◌<◌}
use native.Mathlib.Omega.{arith}
use mathlib.Core.Path.{◌≡◌, refl, sym, ◌∙◌, ap, ap₂, subst}
use mathlib.Core.Bool.{Bool, true, false, false≢true}
use lib.IntN.{ℤ, pos}
use Rattle.stab.specs.Basic.{eq_z, nat, below}
use Rattle.stab.specs.Formula.{Row, Op, conj, disj, Kind, constant, literal, junction, iteration, unknown, kind_of, base_of, Formula, const, lit, join, iter, decode, tree, well_formed_as, well_formed, offset, is_body}
use Rattle.stab.proofs.Bools.{and_left, and_right}
use Rattle.stab.proofs.Trees.{tree_is, part_of, below_nat}
use Rattle.stab.proofs.Meanings.{Proper}

-- ---- the eight kinds by their numbers

kinds_are : (kind_of (pos 0) ≡ constant true) × (kind_of (pos 1) ≡ constant false) × (kind_of (pos 2) ≡ literal true) × (kind_of (pos 3) ≡ literal false) × (kind_of (pos 4) ≡ junction conj) × (kind_of (pos 5) ≡ junction disj) × (kind_of (pos 6) ≡ iteration conj) × (kind_of (pos 7) ≡ iteration disj)
unfolding kind_of eq_z
kinds_are = (refl, refl, refl, refl, refl, refl, refl, refl)

module _ {z : ℤ} where
  pub kind_1 : z ≡ pos 1 → kind_of z ≡ constant false
  kind_1 e = ap kind_of e ∙ kinds_are.1

  pub kind_2 : z ≡ pos 2 → kind_of z ≡ literal true
  kind_2 e = ap kind_of e ∙ kinds_are.2

  pub kind_3 : z ≡ pos 3 → kind_of z ≡ literal false
  kind_3 e = ap kind_of e ∙ kinds_are.3

  pub kind_4 : z ≡ pos 4 → kind_of z ≡ junction conj
  kind_4 e = ap kind_of e ∙ kinds_are.4

  pub kind_5 : z ≡ pos 5 → kind_of z ≡ junction disj
  kind_5 e = ap kind_of e ∙ kinds_are.5

  pub kind_6 : z ≡ pos 6 → kind_of z ≡ iteration conj
  kind_6 e = ap kind_of e ∙ kinds_are.6

  pub kind_7 : z ≡ pos 7 → kind_of z ≡ iteration disj
  kind_7 e = ap kind_of e ∙ kinds_are.7

-- ---- a row's formula

module _ (rows : ℕ → Row) (r : ℕ) where
  pub decoded : (k : Kind) → kind_of (rows r).kind ≡ k → tree rows r ≡ decode r (rows r) k (tree rows)
  decoded k e = tree_is rows r ∙ ap (λ (k' : Kind). decode r (rows r) k' (tree rows)) e

  pub formed_as : (k : Kind) → kind_of (rows r).kind ≡ k → well_formed rows r ≡ true → well_formed_as rows r (rows r) k ≡ true
  unfolding well_formed
  formed_as k e h = subst (λ (k' : Kind). well_formed_as rows r (rows r) k' ≡ true) e h

  pub tree_constant : (v : Bool) → kind_of (rows r).kind ≡ constant v → tree rows r ≡ const v
  unfolding decode
  tree_constant v e = decoded (constant v) e

  pub tree_literal : (v : Bool) → kind_of (rows r).kind ≡ literal v → tree rows r ≡ lit v (rows r).a (base_of (rows r).b) (rows r).c
  unfolding decode
  tree_literal v e = decoded (literal v) e

  -- the parts are smaller rows, whatever else the row is
  pub junction_tree : (o : Op) → kind_of (rows r).kind ≡ junction o → below r (rows r).a ≡ true → below r (rows r).b ≡ true
      → tree rows r ≡ join o (tree rows (nat (rows r).a)) (tree rows (nat (rows r).b))
  unfolding decode
  junction_tree o e p q =
      decoded (junction o) e
      ∙ ap₂ (join o) (part_of r (tree rows) (rows r).a p) (part_of r (tree rows) (rows r).b q)

  pub iteration_tree : (o : Op) → kind_of (rows r).kind ≡ iteration o → below r (rows r).a ≡ true
      → tree rows r ≡ iter o (tree rows (nat (rows r).a)) (rows r).b (rows r).c
  unfolding decode
  iteration_tree o e p =
      decoded (iteration o) e
      ∙ ap (λ (f : Formula). iter o f (rows r).b (rows r).c) (part_of r (tree rows) (rows r).a p)

  module _ (o : Op) (e : kind_of (rows r).kind ≡ junction o) (h : well_formed rows r ≡ true) where
    pub left_below : below r (rows r).a ≡ true
    unfolding well_formed_as
    left_below = and_left _ _ (formed_as (junction o) e h)

    pub right_below : below r (rows r).b ≡ true
    unfolding well_formed_as
    right_below = and_left _ _ (and_right (below r (rows r).a) _ (formed_as (junction o) e h))

    pub tree_junction : tree rows r ≡ join o (tree rows (nat (rows r).a)) (tree rows (nat (rows r).b))
    tree_junction = junction_tree o e left_below right_below

  module _ (o : Op) (e : kind_of (rows r).kind ≡ iteration o) (h : well_formed rows r ≡ true) where
    pub body_below : below r (rows r).a ≡ true
    unfolding well_formed_as
    body_below = and_left _ _ (formed_as (iteration o) e h)

    pub body_is : is_body (tree rows (nat (rows r).a)) ≡ true
    unfolding well_formed_as
    body_is =
        and_right (offset (rows r).c) _
        (and_right (offset (rows r).b) _ (and_right (below r (rows r).a) _ (formed_as (iteration o) e h)))

    pub tree_iteration : tree rows r ≡ iter o (tree rows (nat (rows r).a)) (rows r).b (rows r).c
    tree_iteration = iteration_tree o e body_below

-- ---- the iterations of well-formed rows have bodies

proper_of : {f g : Formula} → f ≡ g → Proper g → Proper f
proper_of e p = subst Proper (sym e) p

proper_kind : (rows : ℕ → Row) (r : ℕ) (k : Kind) → kind_of (rows r).kind ≡ k → well_formed rows r ≡ true → ((a : ℕ) → a < r → Proper (tree rows a)) → Proper (tree rows r)
unfolding well_formed well_formed_as
proper_kind rows r (constant v) e h below-r = proper_of (tree_constant rows r v e) tt
proper_kind rows r (literal v) e h below-r = proper_of (tree_literal rows r v e) tt
proper_kind rows r (junction o) e h below-r =
    proper_of (tree_junction rows r o e h)
    (below-r _ (below_nat r (rows r).a (left_below rows r o e h)), below-r _ (below_nat r (rows r).b (right_below rows r o e h)))
proper_kind rows r (iteration o) e h below-r = proper_of (tree_iteration rows r o e h) (body_is rows r o e h)
proper_kind rows r unknown e h below-r =
    absurd (false≢true (subst (λ (k : Kind). well_formed_as rows r (rows r) k ≡ true) e h))

pub proper : (rows : ℕ → Row) (n : ℕ) → ((r : ℕ) → r < n → well_formed rows r ≡ true) → (r : ℕ) → r < n → Proper (tree rows r)
proper rows n h r p = go (suc r) r (omega arith) p
  where
    go : (k a : ℕ) → a < k → a < n → Proper (tree rows a)
    go zero a q l = absurd (omega arith)
    go (suc k) a q l = proper_kind rows a (kind_of (rows a).kind) refl (h a l) (λ b m. go k b (omega arith) (omega arith))
