-- Every pair that occurs in a well-formed schema lies in a model's range.
use Prim.Native.Nat.{ℕ, zero, suc, ◌<◌, ◌≤◌}
use native.Mathlib.Omega.{arith}
use mathlib.Core.Path.{◌≡◌, refl, sym, subst}
use mathlib.Core.Logic.{inl, inr}
use mathlib.Core.Bool.{true}
use lib.IntN.{ℤ, pos, neg_ℤ, ◌+ℤ◌, ◌-ℤ◌}
use lib.Signed.{◌≤ℤ◌}
use Rattle.stab.specs.Formula.{Row, Kind, constant, literal, junction, iteration, unknown, kind_of, Base, nothing, parameter, index, Formula, const, lit, join, iter, tree, well_formed}
use Rattle.stab.specs.Meaning.{base}
use Rattle.stab.specs.Keeps.{Within, FormedAs, KeepsRow}
use Rattle.stab.specs.Occurs.{Occurs}
use Rattle.stab.proofs.Whole.{atom, num, ◌⊕◌, ◌⊖◌, less, le_of, of_le, of_eq, le_z_of, of_le_z}
use Rattle.stab.proofs.Formed.{formed_tests}
use Rattle.stab.proofs.Trees.{below_nat}
use Rattle.stab.proofs.Decoded.{tree_constant, tree_literal, tree_junction, left_below, right_below, tree_iteration, body_below}

abbrev Offset : ℤ → Type 0
Offset z = Within (neg_ℤ (pos 9999)) (pos 9999) z

-- the numbers in the formula are within the limits of its rows
abbrev Limited : Formula → Type 0
Limited (const v) = Unit {0}
Limited (lit v s x c) = Within (pos 0) (pos 255) s × Offset c
Limited (join o f g) = Limited f × Limited g
Limited (iter o f b c) = Offset b × Offset c × Limited f

limited_kind : (rows : ℕ → Row) (r : ℕ) (k : Kind) → kind_of (rows r).kind ≡ k → well_formed rows r ≡ true → FormedAs rows r (rows r) k → ((a : ℕ) → a < r → Limited (tree rows a)) → Limited (tree rows r)
limited_kind rows r (constant v) e h w smaller = subst Limited (sym (tree_constant rows r v e)) tt
limited_kind rows r (literal v) e h w smaller = subst Limited (sym (tree_literal rows r v e)) (w.0, w.1.1)
limited_kind rows r (junction o) e h w smaller =
    subst Limited (sym (tree_junction rows r o e h))
    (smaller _ (below_nat r (rows r).a (left_below rows r o e h)), smaller _ (below_nat r (rows r).b (right_below rows r o e h)))
limited_kind rows r (iteration o) e h w smaller =
    subst Limited (sym (tree_iteration rows r o e h)) (w.1.0, w.1.1.0, smaller _ (below_nat r (rows r).a (body_below rows r o e h)))
limited_kind rows r unknown e h w smaller = absurd w

pub limited : (rows : ℕ → Row) (n : ℕ) → ((r : ℕ) → r < n → KeepsRow rows r) → (r : ℕ) → r < n → Limited (tree rows r)
limited rows n each r p = go (suc r) r (omega arith) p
  where
    go : (k a : ℕ) → a < k → a < n → Limited (tree rows a)
    go zero a q l = absurd (omega arith)
    go (suc k) a q l =
        let w = (each a l).formed in
        limited_kind rows a (kind_of (rows a).kind) refl ((formed_tests rows a).1 w) w (λ b m. go k b (omega arith) (omega arith))

-- what i and n can be
abbrev Reached : ℤ → Type 0
Reached z = Within (neg_ℤ (pos 9999)) (pos 19998) z

base_reached : (n : ℕ) (i : ℤ) (x : Base) → n ≤ 9999 → Reached i → Reached (base n i x)
unfolding base
base_reached n i nothing h r = (of_le_z refl, of_le_z refl)
base_reached n i parameter h r =
    (of_le_z (le_of (less (num 9999)) (num n) (omega arith)), of_le_z (le_of (num n) (num 19998) (omega arith)))
base_reached n i index h r = r

-- with b from -9999 on and n - c up to 19998
range_reached : (n : ℕ) (b c j : ℤ) → n ≤ 9999 → Offset b → Offset c → b ≤ℤ j → j ≤ℤ (pos n -ℤ c) → Reached j
range_reached n b c j h p q low high = (
  of_le_z (le_of (less (num 9999)) (atom j) (omega (arith, of_le (less (num 9999)) (atom b) (le_z_of p.0), of_le (atom b) (atom j) (le_z_of low)))),
  of_le_z (le_of (atom j) (num 19998) (omega (arith, of_le (less (num 9999)) (atom c) (le_z_of q.0), of_le (atom j) (num n ⊖ atom c) (le_z_of high)))),
)

abbrev InModel : ℤ → ℤ → Type 0
InModel s z = Within (pos 0) (pos 255) s × Within (neg_ℤ (pos 29997)) (pos 29997) z

sum_in_range : (a c z : ℤ) → Reached a → Offset c → z ≡ (a +ℤ c) → Within (neg_ℤ (pos 29997)) (pos 29997) z
sum_in_range a c z r w e =
    let sum = of_eq (atom z) (atom a ⊕ atom c) e in (
      of_le_z (le_of (less (num 29997)) (atom z) (omega (arith, of_le (less (num 9999)) (atom a) (le_z_of r.0), of_le (less (num 9999)) (atom c) (le_z_of w.0)))),
      of_le_z (le_of (atom z) (num 29997) (omega (arith, of_le (atom a) (num 19998) (le_z_of r.1), of_le (atom c) (num 9999) (le_z_of w.1)))),
    )

pub occurs_within : (n : ℕ) → n ≤ 9999 → (f : Formula) → Limited f → (i s z : ℤ) → Reached i → Occurs n f i s z → InModel s z
occurs_within n h (const v) l i s z r o = absurd o
occurs_within n h (lit v t x c) l i s z r o =
    (subst (Within (pos 0) (pos 255)) (sym o.0) l.0, sum_in_range (base n i x) c z (base_reached n i x h r) l.1 o.1)
occurs_within n h (join p f g) l i s z r (inl o) = occurs_within n h f l.0 i s z r o
occurs_within n h (join p f g) l i s z r (inr o) = occurs_within n h g l.1 i s z r o
occurs_within n h (iter p f b c) l i s z r o =
    occurs_within n h f l.2 o.0 s z (range_reached n b c o.0 h l.0 l.1 o.1 o.2) o.3
