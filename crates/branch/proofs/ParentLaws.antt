-- When a parent is right, and what the pass over the parents says of each node.
use Prim.Native.Nat.{ℕ, zero, suc, ◌<◌, ◌≤◌}
use native.Mathlib.Omega.{arith}
use mathlib.Core.Path.{◌≡◌, refl, sym, ◌∙◌, ap}
use mathlib.Core.Bool.{Bool, true, false}
use mathlib.Core.List.{List, [], ◌∷◌}
use lib.Dec.{ltb}
use lib.IntN.{ℤ, pos, negsuc, neg_ℤ}
use lib.Signed.{lt_z}
use lib.ListN.{get_or, length}
use Rattle.stab.specs.Basic.{◌and◌, eq_z, nat, below, same_list, scan}
use Rattle.stab.specs.Node.{Tableau, node, node_at, set, set_of, parent_fits}
use Rattle.stab.specs.Check.{parent_refusal, at_unless}
use Rattle.std.specs.Prelude.{Some}
use Rattle.stab.specs.Finding.{refuse, no_refusal}
use Rattle.stab.specs.declared.Refusal.TheVariants.{Parent}
use Rattle.stab.proofs.Bools.{and_left, and_both, and_first_false, and_second_false, unless_nothing, nothing_unless, found_unless, same_test}
use Rattle.stab.proofs.Whole.{eq_z_true, at_least_0, below_0}
use Rattle.stab.proofs.Scans.{nothing_scan}
use Rattle.stab.proofs.Trees.{below_nat, below_pos}
use Rattle.branch.specs.Parents.{up_fits, is_alone, parent_right, AllUpFit}
use Rattle.branch.specs.Sets.{Within}
use Rattle.branch.proofs.Ascending.{part_length, part_at}
use Rattle.branch.proofs.Parts.{natural_less}

-- ---- parents

pub up_first : (nodes : List ℤ) (j : ℕ) → j ≡ 0 → eq_z (node_at nodes 0).up (negsuc 0) ≡ up_fits nodes j
unfolding up_fits
up_first nodes j e = ap (up_fits nodes) (sym e)

pub up_later : (nodes : List ℤ) (j : ℕ) → (j ≡ 0 → ⊥) → below j (node_at nodes j).up ≡ up_fits nodes j
unfolding up_fits
up_later nodes zero f = absurd (f refl)
up_later nodes (suc i) f = refl

pub below_negative : (n : ℕ) (z : ℤ) → 0 < nat (neg_ℤ z) → false ≡ below n z
unfolding below
below_negative n z h = sym (and_first_false _ _ (below_0 z h))

pub below_natural : (n : ℕ) (z : ℤ) → nat (neg_ℤ z) ≤ 0 → ltb (nat z) n ≡ below n z
unfolding below ◌and◌
below_natural n z h = natural_less z n h ∙ sym (ap (λ (b : Bool). b and lt_z z (pos n)) (at_least_0 z h))

-- ---- a set of one row

same_one : (xs : List ℤ) (z : ℤ) → length xs ≡ 1 → eq_z (get_or xs 0 (pos 0)) z ≡ same_list xs (z ∷ [])
unfolding same_list
same_one [] z e = absurd (omega arith)
same_one (x ∷ []) z e = same_test (eq_z x z) _ (λ h. and_both (eq_z x z) true h refl) (λ h. and_left _ _ h)
same_one (x ∷ (y ∷ ys)) z e = absurd (omega arith)

not_one : (xs : List ℤ) (z : ℤ) → (length xs ≡ 1 → ⊥) → false ≡ same_list xs (z ∷ [])
unfolding same_list
not_one [] z f = refl
not_one (x ∷ []) z f = absurd (f refl)
not_one (x ∷ (y ∷ ys)) z f = sym (and_second_false (eq_z x z) _ refl)

module _ (nodes members : List ℤ) (j : ℕ) (z : ℤ) (within : Within nodes (length members) j) where
  pub alone_not : (nat (node_at nodes j).size ≡ 1 → ⊥) → false ≡ is_alone nodes members j z
  unfolding is_alone set_of
  alone_not f = not_one _ z (λ e. f (sym (part_length members _ _ within) ∙ e))

  pub alone_at : nat (node_at nodes j).size ≡ 1 → eq_z (get_or members (nat (node_at nodes j).start) (pos 0)) z ≡ is_alone nodes members j z
  unfolding is_alone set_of
  alone_at e =
      ap (λ (x : ℤ). eq_z x z) (ap (λ (i : ℕ). get_or members i (pos 0)) (omega arith) ∙ sym (part_at members _ _ within 0 (omega arith)))
      ∙ same_one _ z (part_length members _ _ within ∙ e)

-- ---- in the order of the tests

pub wrong_up : (nodes members : List ℤ) (root : ℤ) (j : ℕ) → up_fits nodes j ≡ false → false ≡ parent_right nodes members root j
unfolding parent_right
wrong_up nodes members root zero h = sym (and_first_false _ _ h)
wrong_up nodes members root (suc i) h = sym h

pub right_first : (nodes members : List ℤ) (root : ℤ) (j : ℕ) → up_fits nodes j ≡ true → j ≡ 0 → is_alone nodes members j root ≡ parent_right nodes members root j
unfolding parent_right ◌and◌
right_first nodes members root zero h e = sym (ap (λ (b : Bool). b and is_alone nodes members zero root) h)
right_first nodes members root (suc i) h e = absurd (omega arith)

pub right_later : (nodes members : List ℤ) (root : ℤ) (j : ℕ) → up_fits nodes j ≡ true → (j ≡ 0 → ⊥) → true ≡ parent_right nodes members root j
unfolding parent_right
right_later nodes members root zero h f = absurd (f refl)
right_later nodes members root (suc i) h f = sym h

-- ---- against the definition of refusal 10

module _ (T : Tableau) where
  same_parent : (j : ℕ) → parent_right T.nodes T.members T.root j ≡ parent_fits T j
  unfolding parent_right up_fits is_alone parent_fits node set
  same_parent zero = refl
  same_parent (suc i) = refl

  pub parent_passes : (j : ℕ) → parent_right T.nodes T.members T.root j ≡ true → parent_refusal T j ≡ no_refusal
  unfolding parent_refusal at_unless
  parent_passes j h = nothing_unless _ _ _ (sym (same_parent j) ∙ h)

  pub parent_refused : (j : ℕ) → parent_right T.nodes T.members T.root j ≡ false → parent_refusal T j ≡ refuse Parent (Some j)
  unfolding parent_refusal at_unless
  parent_refused j h = found_unless _ _ _ (sym (same_parent j) ∙ h)

-- ---- what parents that were not refused are

fits_up : (T : Tableau) (j : ℕ) → parent_fits T j ≡ true → up_fits T.nodes j ≡ true
unfolding parent_fits up_fits node
fits_up T zero h = and_left _ _ h
fits_up T (suc i) h = h

-- what the pass over the parents gives
pub parents_known : (T : Tableau) (k : ℕ) → scan (parent_refusal T) k ≡ no_refusal → AllUpFit T.nodes k
unfolding parent_refusal at_unless
parents_known T k h j p = fits_up T j (unless_nothing _ _ _ (nothing_scan (parent_refusal T) k h j p))

module _ (nodes : List ℤ) where
  pub first_up : up_fits nodes 0 ≡ true → (node_at nodes 0).up ≡ negsuc 0
  unfolding up_fits
  first_up h = eq_z_true (node_at nodes 0).up (negsuc 0) h

  pub later_up : (j : ℕ) → up_fits nodes j ≡ true → 0 < j → below j (node_at nodes j).up ≡ true
  later_up j h p = up_later nodes j (λ e. omega arith) ∙ h

  -- the parent of a later node, as a natural number
  pub parent_less : (j : ℕ) → up_fits nodes j ≡ true → 0 < j → nat (node_at nodes j).up < j
  parent_less j h p = below_nat j (node_at nodes j).up (later_up j h p)

  pub parent_pos : (j : ℕ) → up_fits nodes j ≡ true → 0 < j → pos (nat (node_at nodes j).up) ≡ (node_at nodes j).up
  parent_pos j h p = below_pos j (node_at nodes j).up (later_up j h p)
