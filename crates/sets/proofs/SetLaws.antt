-- When a set is right, step by step as the pass over the sets goes.
use Prim.Native.Nat.{ℕ, zero, suc, ◌+◌, ◌*◌, ◌-◌, ◌<◌, ◌≤◌}
use native.Mathlib.Omega.{arith}
use native.Mathlib.Numerals.{add-one}
use mathlib.Core.Path.{◌≡◌, refl, sym, ◌∙◌, ap, ap₂, subst}
use mathlib.Core.Bool.{Bool, true, false, true≢false}
use mathlib.Core.List.{List, [], ◌∷◌}
use lib.Dec.{eqb, leb}
use lib.IntN.{ℤ, pos, neg_ℤ, ◌+ℤ◌}
use lib.Signed.{le_z, lt_z}
use lib.ListN.{get_or, length, take, drop}
use borrow.Author.Tests.{le-ltb, le-leb, leb-true, eq-eqb, ne_eqb}
use Rattle.stab.specs.Basic.{◌and◌, ◌implies◌, eq_z, nat, below, all_of, ascending}
use Rattle.stab.specs.Node.{node_at, set_of, set_start, set_end, set_follows}
use Rattle.stab.proofs.Bools.{and_left, and_right, and_both, and_first_false, and_second_false, same_test}
use Rattle.stab.proofs.Whole.{eq_z_true, eq_z_of, eq_z_not, nat_pos, nat_of, at_least_0, below_0}
use Rattle.stab.proofs.Trees.{below_of}
use Rattle.branch.specs.Sets.{outer_by, rises_at, member_fits, list_fits, place_fits, set_right}
use Rattle.branch.proofs.Ascending.{part_at, ascending_at}
use Rattle.branch.proofs.Parts.{is_natural_lem}

-- ---- outer rows

module _ (facts : List ℕ) (n : ℕ) (z : ℤ) where
  pub outer_negative : 0 < nat (neg_ℤ z) → false ≡ outer_by facts n z
  unfolding outer_by below
  outer_negative h = sym (and_first_false _ _ (and_first_false _ _ (below_0 z h)))

  pub outer_past : nat (neg_ℤ z) ≤ 0 → n ≤ nat z → false ≡ outer_by facts n z
  unfolding outer_by below
  outer_past h p =
      sym (and_first_false _ _ (and_second_false _ (lt_z z (pos n)) (ap (λ (x : ℤ). lt_z x (pos n)) (sym (is_natural_lem z h)) ∙ le-ltb (nat z) n p)))

  pub outer_row : nat (neg_ℤ z) ≤ 0 → nat z < n → eqb (get_or facts (4 * nat z + 2) 0) 0 ≡ outer_by facts n z
  unfolding outer_by ◌and◌
  outer_row h p =
      sym (ap (λ (b : Bool). b and eqb (get_or facts (4 * nat z + 2) 0) 0) (subst (λ (x : ℤ). below n x ≡ true) (is_natural_lem z h) (below_of n (nat z) p)))

-- ---- lists of members, by places

module _ {A : Type 0} (p : A → Bool) (d : A) where
  pub all_at : (xs : List A) → ((i : ℕ) → i < length xs → p (get_or xs i d) ≡ true) → all_of p xs ≡ true
  unfolding all_of
  all_at [] h = refl
  all_at (x ∷ xs) h = and_both (p x) (all_of p xs) (h zero (omega arith)) (all_at xs (λ i q. h (suc i) (omega arith)))

  pub at_all : (xs : List A) → all_of p xs ≡ true → (i : ℕ) → i < length xs → p (get_or xs i d) ≡ true
  unfolding all_of
  at_all [] h i q = absurd (omega arith)
  at_all (x ∷ xs) h zero q = and_left (p x) (all_of p xs) h
  at_all (x ∷ xs) h (suc i) q = at_all xs (and_right (p x) (all_of p xs) h) i (omega arith)

pub rises_all : (xs : List ℤ) → ((i : ℕ) → i < length xs → rises_at xs i ≡ true) → ascending xs ≡ true
unfolding ascending rises_at
rises_all [] h = refl
rises_all (x ∷ []) h = refl
rises_all (x ∷ (y ∷ ys)) h =
    and_both (lt_z x y) (ascending (y ∷ ys)) (h (suc zero) (omega arith)) (rises_all (y ∷ ys) (λ i q. later i q))
  where
    later : (i : ℕ) → i < length (y ∷ ys) → rises_at (y ∷ ys) i ≡ true
    later zero q = refl
    later (suc i) q = h (suc (suc i)) (omega arith)

pub all_rises : (xs : List ℤ) → ascending xs ≡ true → (i : ℕ) → i < length xs → rises_at xs i ≡ true
unfolding rises_at
all_rises xs h zero q = refl
all_rises xs h (suc i) q = ascending_at xs h i (suc i) (omega arith) q

-- a test that does not pass fails
pub fails : (a : Bool) → (a ≡ true → ⊥) → a ≡ false
fails true f = absurd (f refl)
fails false f = refl

module _ (facts : List ℕ) (n : ℕ) (xs : List ℤ) where
  pub list_fits_lem : ((i : ℕ) → i < length xs → member_fits facts n xs i ≡ true) → list_fits facts n xs ≡ true
  unfolding list_fits member_fits
  list_fits_lem h =
      and_both (ascending xs) _
      (rises_all xs (λ i q. and_right (outer_by facts n (get_or xs i (pos 0))) _ (h i q)))
      (all_at (outer_by facts n) (pos 0) xs (λ i q. and_left _ _ (h i q)))

  pub list_fails : (i : ℕ) → i < length xs → member_fits facts n xs i ≡ false → list_fits facts n xs ≡ false
  unfolding list_fits member_fits
  list_fails i q h =
      fails _ (λ e. true≢false (sym (and_both _ _ (at_all (outer_by facts n) (pos 0) xs (and_right (ascending xs) _ e) i q) (all_rises xs (and_left _ _ e) i q)) ∙ h))

-- member i of a part of the members
module _ (facts : List ℕ) (n : ℕ) (members : List ℤ) (start len : ℕ) (fits : start + len ≤ length members) where
  at_place : (i : ℕ) → i < len → outer_by facts n (get_or (take len (drop start members)) i (pos 0)) ≡ outer_by facts n (get_or members (start + i) (pos 0))
  at_place i q = ap (outer_by facts n) (part_at members start len fits i q)

  pub member_inner : (i : ℕ) → i < len → outer_by facts n (get_or members (start + i) (pos 0)) ≡ false → false ≡ member_fits facts n (take len (drop start members)) i
  unfolding member_fits
  member_inner i q h = sym (and_first_false _ _ (at_place i q ∙ h))

  pub member_first : (i : ℕ) → i < len → outer_by facts n (get_or members (start + i) (pos 0)) ≡ true → i ≡ 0 → true ≡ member_fits facts n (take len (drop start members)) i
  unfolding member_fits rises_at
  member_first zero q h e = sym (and_both _ _ (at_place zero q ∙ h) refl)
  member_first (suc i) q h e = absurd (omega arith)

  pub member_next :
      (i : ℕ)
      → i < len
      → outer_by facts n (get_or members (start + i) (pos 0)) ≡ true
      → (i ≡ 0 → ⊥)
      → lt_z (get_or members (start + i - 1) (pos 0)) (get_or members (start + i) (pos 0)) ≡ member_fits facts n (take len (drop start members)) i
  unfolding member_fits rises_at ◌and◌
  member_next zero q h e = absurd (e refl)
  member_next (suc i) q h e =
      ap₂ lt_z
      (ap (λ (a : ℕ). get_or members a (pos 0)) (omega arith) ∙ sym (part_at members start len fits i (omega arith)))
      (sym (part_at members start len fits (suc i) q))
      ∙ sym (ap (λ (b : Bool). b and rises_at (take len (drop start members)) (suc i)) (at_place (suc i) q ∙ h))

-- ---- where a set lies

module _ (nodes : List ℤ) (m j from : ℕ) (starts : set_start nodes j ≡ pos from) where
  pub place_elsewhere : ((node_at nodes j).start ≡ pos from → ⊥) → false ≡ place_fits nodes m j
  unfolding place_fits set_follows
  place_elsewhere f =
      sym (and_first_false _ _ (and_first_false _ _ (eq_z_not (node_at nodes j).start (set_start nodes j) (λ e. f (e ∙ starts)))))

  pub place_short : 0 < nat (neg_ℤ (node_at nodes j).size) → false ≡ place_fits nodes m j
  unfolding place_fits set_follows
  place_short h = sym (and_first_false _ _ (and_second_false (eq_z (node_at nodes j).start (set_start nodes j)) _ (below_0 (node_at nodes j).size h)))

  -- a set that starts at `from` ends past its members
  pub end_is : (node_at nodes j).start ≡ pos from → nat (neg_ℤ (node_at nodes j).size) ≤ 0 → set_end nodes j ≡ pos (from + nat (node_at nodes j).size)
  unfolding set_end
  end_is e h = ap₂ ◌+ℤ◌ e (sym (is_natural_lem (node_at nodes j).size h))

  pub place_right :
      from ≤ m
      → (node_at nodes j).start ≡ pos from
      → nat (neg_ℤ (node_at nodes j).size) ≤ 0
      → leb (nat (node_at nodes j).size) (m - from) ≡ place_fits nodes m j
  unfolding place_fits set_follows ◌and◌
  place_right p e h =
      left_over
      ∙ ap (λ (z : ℤ). le_z z (pos m)) (sym (end_is e h))
      ∙ sym (ap (λ (b : Bool). b and le_z (set_end nodes j) (pos m)) (and_both _ _ (eq_z_of _ _ (e ∙ sym starts)) (at_least_0 (node_at nodes j).size h)))
    where
      left_over : leb (nat (node_at nodes j).size) (m - from) ≡ leb (from + nat (node_at nodes j).size) m
      left_over =
          same_test
          (leb (nat (node_at nodes j).size) (m - from))
          (leb (from + nat (node_at nodes j).size) m)
          (λ q. le-leb (from + nat (node_at nodes j).size) m (omega (arith, leb-true (nat (node_at nodes j).size) (m - from) q)))
          (λ q. le-leb (nat (node_at nodes j).size) (m - from) (omega (arith, leb-true (from + nat (node_at nodes j).size) m q)))

  -- what a place that fits says
  pub place_start : place_fits nodes m j ≡ true → (node_at nodes j).start ≡ pos from
  unfolding place_fits set_follows
  place_start h = eq_z_true (node_at nodes j).start (set_start nodes j) (and_left _ _ (and_left _ _ h)) ∙ starts

  pub place_size : place_fits nodes m j ≡ true → pos (nat (node_at nodes j).size) ≡ (node_at nodes j).size
  unfolding place_fits set_follows
  place_size h = nat_pos (node_at nodes j).size (and_right (eq_z (node_at nodes j).start (set_start nodes j)) _ (and_left _ _ h))

  pub place_end : place_fits nodes m j ≡ true → set_end nodes j ≡ pos (from + nat (node_at nodes j).size)
  unfolding set_end
  place_end h = ap₂ ◌+ℤ◌ (place_start h) (sym (place_size h))

  pub place_within : place_fits nodes m j ≡ true → from + nat (node_at nodes j).size ≤ m
  unfolding place_fits
  place_within h = leb-true _ m (sym (ap (λ (z : ℤ). le_z z (pos m)) (place_end h)) ∙ and_right (set_follows nodes j) _ h)

  pub place_next : place_fits nodes m j ≡ true → set_start nodes (j + 1) ≡ pos (from + nat (node_at nodes j).size)
  unfolding set_end set_start
  place_next h = ap (set_start nodes) (add-one j) ∙ place_end h

  pub place_part : (members : List ℤ) → place_fits nodes m j ≡ true → set_of members (node_at nodes j) ≡ take (nat (node_at nodes j).size) (drop from members)
  unfolding set_of
  place_part members h = ap (λ (a : ℕ). take (nat (node_at nodes j).size) (drop a members)) (nat_of (node_at nodes j).start from (place_start h))

-- ---- a set, in the order of its tests

module _ (facts : List ℕ) (n : ℕ) (nodes : List ℤ) (k : ℕ) (members : List ℤ) (m j : ℕ) where
  pub right_place : set_right facts n nodes k members m j ≡ true → place_fits nodes m j ≡ true
  unfolding set_right
  right_place h = and_left _ _ (and_left _ _ h)

  pub wrong_place : place_fits nodes m j ≡ false → false ≡ set_right facts n nodes k members m j
  unfolding set_right
  wrong_place h = sym (and_first_false _ _ (and_first_false _ _ h))

  pub wrong_list : list_fits facts n (set_of members (node_at nodes j)) ≡ false → false ≡ set_right facts n nodes k members m j
  unfolding set_right
  wrong_list h = sym (and_first_false _ _ (and_second_false (place_fits nodes m j) _ h))

  module _ (place : place_fits nodes m j ≡ true) (list : list_fits facts n (set_of members (node_at nodes j)) ≡ true) where
    pub right_last : (e : ℕ) → set_end nodes j ≡ pos e → j + 1 ≡ k → eqb e m ≡ set_right facts n nodes k members m j
    unfolding set_right ◌and◌ ◌implies◌ eq_z
    right_last e p q =
        sym (ap (λ (z : ℤ). eq_z z (pos m)) p)
        ∙ sym (ap (λ (b : Bool). b implies eq_z (set_end nodes j) (pos m)) (eq-eqb (suc j) k (omega arith)))
        ∙ sym (ap (λ (b : Bool). b and (eqb (suc j) k implies eq_z (set_end nodes j) (pos m))) (and_both _ _ place list))

    pub right_inner : (j + 1 ≡ k → ⊥) → true ≡ set_right facts n nodes k members m j
    unfolding set_right ◌and◌ ◌implies◌
    right_inner q =
        sym (ap (λ (b : Bool). b implies eq_z (set_end nodes j) (pos m)) (ne_eqb (suc j) k (λ e. q (omega arith))))
        ∙ sym (ap (λ (b : Bool). b and (eqb (suc j) k implies eq_z (set_end nodes j) (pos m))) (and_both _ _ place list))
