-- The formula of a row is made of the formulas of smaller rows.
use Prim.Native.Nat.{ℕ, zero, suc, ◌<◌, ◌≤◌}
use native.Mathlib.Omega.{arith}
use mathlib.Core.Path.{◌≡◌, refl, sym, ◌∙◌, ap, ap₂}
use mathlib.Core.Bool.{Bool, true, false, false≢true}
use lib.IntN.{ℤ, pos}
use lib.Signed.{le_z}
use Rattle.stab.specs.Basic.{nat, below}
use Rattle.stab.specs.Formula.{Row, Kind, constant, literal, junction, iteration, unknown, kind_of, Formula, join, iter, part_if, part, decode, tree_n, tree}
use Rattle.stab.proofs.Bools.{and_left, and_right, and_both}
use Rattle.stab.proofs.Whole.{atom, num, of_lt, le_of, lt_of, plus_nat, nat_pos, nonneg_minus}

-- ---- pointers

pub below_nat : (n : ℕ) (z : ℤ) → below n z ≡ true → nat z < n
unfolding below
below_nat n z h =
    omega (arith, nonneg_minus z (and_left _ _ h), of_lt (atom z) (num n) (and_right (le_z (pos 0) z) _ h), plus_nat z)

pub below_pos : (n : ℕ) (z : ℤ) → below n z ≡ true → pos (nat z) ≡ z
unfolding below
below_pos n z h = nat_pos z (and_left _ _ h)

pub below_of : (n k : ℕ) → k < n → below n (pos k) ≡ true
unfolding below
below_of n k h = and_both _ _ (le_of (num 0) (num k) (omega arith)) (lt_of (num k) (num n) (omega arith))

pub below_more : (n m : ℕ) (z : ℤ) → n ≤ m → below n z ≡ true → below m z ≡ true
unfolding below
below_more n m z le h =
    and_both (le_z (pos 0) z) _ (and_left _ _ h) (lt_of (atom z) (num m) (omega (arith, of_lt (atom z) (num n) (and_right (le_z (pos 0) z) _ h))))

-- ---- what a row's formula is made of

part_if_same_lem : (v : Bool) (t u : ℕ → Formula) (a : ℕ) → (v ≡ true → t a ≡ u a) → part_if v t a ≡ part_if v u a
unfolding part_if
part_if_same_lem true t u a h = h refl
part_if_same_lem false t u a h = refl

part_same : (r : ℕ) (t u : ℕ → Formula) (z : ℤ) → ((a : ℕ) → a < r → t a ≡ u a) → part r t z ≡ part r u z
unfolding part
part_same r t u z h = part_if_same_lem (below r z) t u (nat z) (λ b. h (nat z) (below_nat r z b))

pub part_of : (r : ℕ) (t : ℕ → Formula) (z : ℤ) → below r z ≡ true → part r t z ≡ t (nat z)
unfolding part part_if
part_of r t z h = go (below r z) h
  where
    go : (v : Bool) → v ≡ true → part_if v t (nat z) ≡ t (nat z)
    go true e = refl
    go false e = absurd (false≢true e)

decode_same : (r : ℕ) (w : Row) (k : Kind) (t u : ℕ → Formula) → ((a : ℕ) → a < r → t a ≡ u a) → decode r w k t ≡ decode r w k u
unfolding decode
decode_same r w (constant v) t u h = refl
decode_same r w (literal v) t u h = refl
decode_same r w (junction o) t u h = ap₂ (join o) (part_same r t u w.a h) (part_same r t u w.b h)
decode_same r w (iteration o) t u h = ap (λ (f : Formula). iter o f w.b w.c) (part_same r t u w.a h)
decode_same r w unknown t u h = refl

-- more steps than the row's number make no difference
tree_n_same_lem : (rows : ℕ → Row) (k l r : ℕ) → r < k → r < l → tree_n rows k r ≡ tree_n rows l r
unfolding tree_n
tree_n_same_lem rows zero l r p q = absurd (omega arith)
tree_n_same_lem rows (suc k) zero r p q = absurd (omega arith)
tree_n_same_lem rows (suc k) (suc l) r p q =
    decode_same r (rows r) (kind_of (rows r).kind) (tree_n rows k) (tree_n rows l) (λ a h. tree_n_same_lem rows k l a (omega arith) (omega arith))

-- the formula of row r, by its columns and the formulas of smaller rows
pub tree_is : (rows : ℕ → Row) (r : ℕ) → tree rows r ≡ decode r (rows r) (kind_of (rows r).kind) (tree rows)
unfolding tree tree_n
tree_is rows r =
    decode_same r (rows r) (kind_of (rows r).kind) (tree_n rows r) (tree rows) (λ a h. tree_n_same_lem rows r (suc a) a h (omega arith))

-- two tables that agree up to row r have the same formula there
pub tree_agrees : (rows rows' : ℕ → Row) (r : ℕ) → ((a : ℕ) → a ≤ r → rows a ≡ rows' a) → tree rows r ≡ tree rows' r
tree_agrees rows rows' r h = go (suc r) r (omega arith) (omega arith)
  where
    go : (k a : ℕ) → a < k → a ≤ r → tree rows a ≡ tree rows' a
    go zero a p q = absurd (omega arith)
    go (suc k) a p q =
        tree_is rows a
        ∙ decode_same a (rows a) (kind_of (rows a).kind) (tree rows) (tree rows') (λ b m. go k b (omega arith) (omega arith))
        ∙ ap (λ (w : Row). decode a w (kind_of w.kind) (tree rows')) (h a q)
        ∙ sym (tree_is rows' a)
