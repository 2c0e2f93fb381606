-- The formula of a wide row is made of the formulas of smaller rows.
use Prim.Native.Nat.{ℕ, zero, suc, ◌<◌}
use native.Mathlib.Omega.{arith}
use mathlib.Core.Path.{◌≡◌, refl, ◌∙◌, ap, ap₂, subst}
use mathlib.Core.Bool.{Bool, true, false}
use lib.IntN.{ℤ, pos}
use Rattle.stab.specs.Basic.{◌and◌, eq_z, nat, below}
use Rattle.stab.specs.Formula.{Row, Op, constant, literal, junction, iteration, unknown, offset}
use Rattle.stab.proofs.Bools.{and_left, and_right, and_both, false_of_not}
use Rattle.stab.proofs.Trees.{below_nat}
use Rattle.wide.specs.WideFormula.{WideKind, plain, negation, implication, equivalence, wide_kind_of, Wide, join, iter, neg, imp, equiv, wide_part_if, wide_part, wide_decode, wide_tree_n, wide_tree, is_wide_body, wide_mixes, two_parts, wide_formed_as, wide_formed}

part_if_same_lem : (v : Bool) (t u : ℕ → Wide) (a : ℕ) → (v ≡ true → t a ≡ u a) → wide_part_if v t a ≡ wide_part_if v u a
unfolding wide_part_if
part_if_same_lem true t u a h = h refl
part_if_same_lem false t u a h = refl

part_same : (r : ℕ) (t u : ℕ → Wide) (z : ℤ) → ((a : ℕ) → a < r → t a ≡ u a) → wide_part r t z ≡ wide_part r u z
unfolding wide_part
part_same r t u z h = part_if_same_lem (below r z) t u (nat z) (λ b. h (nat z) (below_nat r z b))

pub wide_part_of : (r : ℕ) (t : ℕ → Wide) (z : ℤ) → below r z ≡ true → wide_part r t z ≡ t (nat z)
unfolding wide_part wide_part_if
wide_part_of r t z h = ap (λ (v : Bool). wide_part_if v t (nat z)) h

decode_same : (r : ℕ) (w : Row) (k : WideKind) (t u : ℕ → Wide) → ((a : ℕ) → a < r → t a ≡ u a) → wide_decode r w k t ≡ wide_decode r w k u
unfolding wide_decode
decode_same r w (plain (constant v)) t u h = refl
decode_same r w (plain (literal v)) t u h = refl
decode_same r w (plain (junction o)) t u h = ap₂ (join o) (part_same r t u w.a h) (part_same r t u w.b h)
decode_same r w (plain (iteration o)) t u h = ap (λ (f : Wide). iter o f w.b w.c) (part_same r t u w.a h)
decode_same r w (plain unknown) t u h = refl
decode_same r w negation t u h = ap neg (part_same r t u w.a h)
decode_same r w implication t u h = ap₂ imp (part_same r t u w.a h) (part_same r t u w.b h)
decode_same r w (equivalence v) t u h = ap₂ (equiv v) (part_same r t u w.a h) (part_same r t u w.b h)

-- more steps than the row's number make no difference
tree_n_same_lem : (rows : ℕ → Row) (k l r : ℕ) → r < k → r < l → wide_tree_n rows k r ≡ wide_tree_n rows l r
unfolding wide_tree_n
tree_n_same_lem rows zero l r p q = absurd (omega arith)
tree_n_same_lem rows (suc k) zero r p q = absurd (omega arith)
tree_n_same_lem rows (suc k) (suc l) r p q =
    decode_same r (rows r) (wide_kind_of (rows r).kind) (wide_tree_n rows k) (wide_tree_n rows l) (λ a h. tree_n_same_lem rows k l a (omega arith) (omega arith))

-- the formula of row r, by its columns and the formulas of smaller rows
pub wide_tree_is : (rows : ℕ → Row) (r : ℕ) → wide_tree rows r ≡ wide_decode r (rows r) (wide_kind_of (rows r).kind) (wide_tree rows)
unfolding wide_tree wide_tree_n
wide_tree_is rows r =
    decode_same r (rows r) (wide_kind_of (rows r).kind) (wide_tree_n rows r) (wide_tree rows) (λ a h. tree_n_same_lem rows r (suc a) a h (omega arith))

-- the same where the row's kind is known
module _ (rows : ℕ → Row) (r : ℕ) (k : WideKind) (e : wide_kind_of (rows r).kind ≡ k) where
  pub wide_decoded : wide_tree rows r ≡ wide_decode r (rows r) k (wide_tree rows)
  wide_decoded = wide_tree_is rows r ∙ ap (λ (k' : WideKind). wide_decode r (rows r) k' (wide_tree rows)) e

  pub wide_formed_as_lem : wide_formed rows r ≡ true → wide_formed_as rows r (rows r) k ≡ true
  unfolding wide_formed
  wide_formed_as_lem h = subst (λ (k' : WideKind). wide_formed_as rows r (rows r) k' ≡ true) e h

-- ---- a well-formed row with two parts

-- its parts are smaller rows and do not mix
pub record Two (rows : ℕ → Row) (r : ℕ) : Type 0 where
  pub left : below r (rows r).a ≡ true
  pub right : below r (rows r).b ≡ true
  pub unmixed : wide_mixes (wide_tree rows r) ≡ false

module _ (rows : ℕ → Row) (r : ℕ) (h : wide_formed rows r ≡ true) where
  two_of : two_parts rows r (rows r) ≡ true → Two rows r
  unfolding two_parts
  two_of p = record {
    left = and_left _ _ p;
    right = and_left _ _ (and_right (below r (rows r).a) _ p);
    unmixed = false_of_not _ (and_right (eq_z (rows r).c (pos 0)) _ (and_right (below r (rows r).b) _ (and_right (below r (rows r).a) _ p)));
  }

  module _ (o : Op) (e : wide_kind_of (rows r).kind ≡ plain (junction o)) where
    pub junction_two : Two rows r
    unfolding wide_formed_as
    junction_two = two_of (wide_formed_as_lem rows r _ e h)

    pub junction_wide : wide_tree rows r ≡ join o (wide_tree rows (nat (rows r).a)) (wide_tree rows (nat (rows r).b))
    unfolding wide_decode
    junction_wide = wide_decoded rows r _ e ∙ ap₂ (join o) (wide_part_of r _ _ junction_two.left) (wide_part_of r _ _ junction_two.right)

  module _ (e : wide_kind_of (rows r).kind ≡ implication) where
    pub implication_two : Two rows r
    unfolding wide_formed_as
    implication_two = two_of (wide_formed_as_lem rows r _ e h)

    pub implication_wide : wide_tree rows r ≡ imp (wide_tree rows (nat (rows r).a)) (wide_tree rows (nat (rows r).b))
    unfolding wide_decode
    implication_wide = wide_decoded rows r _ e ∙ ap₂ imp (wide_part_of r _ _ implication_two.left) (wide_part_of r _ _ implication_two.right)

  module _ (v : Bool) (e : wide_kind_of (rows r).kind ≡ equivalence v) where
    pub equivalence_two : Two rows r
    unfolding wide_formed_as
    equivalence_two = two_of (wide_formed_as_lem rows r _ e h)

    pub equivalence_wide : wide_tree rows r ≡ equiv v (wide_tree rows (nat (rows r).a)) (wide_tree rows (nat (rows r).b))
    unfolding wide_decode
    equivalence_wide = wide_decoded rows r _ e ∙ ap₂ (equiv v) (wide_part_of r _ _ equivalence_two.left) (wide_part_of r _ _ equivalence_two.right)

  -- ---- one with one part

  module _ (e : wide_kind_of (rows r).kind ≡ negation) where
    pub negation_below : below r (rows r).a ≡ true
    unfolding wide_formed_as
    negation_below = and_left _ _ (wide_formed_as_lem rows r _ e h)

    pub negation_wide : wide_tree rows r ≡ neg (wide_tree rows (nat (rows r).a))
    unfolding wide_decode
    negation_wide = wide_decoded rows r _ e ∙ ap neg (wide_part_of r _ _ negation_below)

  module _ (o : Op) (e : wide_kind_of (rows r).kind ≡ plain (iteration o)) where
    pub body_below : below r (rows r).a ≡ true
    unfolding wide_formed_as
    body_below = and_left _ _ (wide_formed_as_lem rows r _ e h)

    pub limits_fit : (offset (rows r).b and offset (rows r).c) ≡ true
    unfolding wide_formed_as
    limits_fit =
        let p = and_right (below r (rows r).a) _ (wide_formed_as_lem rows r _ e h) in
        and_both _ _ (and_left _ _ p) (and_left _ _ (and_right (offset (rows r).b) _ p))

    pub body_is : is_wide_body (wide_tree rows (nat (rows r).a)) ≡ true
    unfolding wide_formed_as
    body_is =
        let p = and_right (below r (rows r).a) _ (wide_formed_as_lem rows r _ e h) in
        and_right (offset (rows r).c) _ (and_right (offset (rows r).b) _ p)

    pub iteration_wide : wide_tree rows r ≡ iter o (wide_tree rows (nat (rows r).a)) (rows r).b (rows r).c
    unfolding wide_decode
    iteration_wide = wide_decoded rows r _ e ∙ ap (λ (f : Wide). iter o f (rows r).b (rows r).c) (wide_part_of r _ _ body_below)
