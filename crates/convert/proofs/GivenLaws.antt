-- What a wide row gives, by the number of its kind.
use Prim.Native.Nat.{ℕ, zero, suc, ◌+◌, ◌<◌, ◌≤◌}
use native.Mathlib.Omega.{arith}
use mathlib.Core.Path.{◌≡◌, refl, sym, ◌∙◌, ap, ap₂, subst}
use mathlib.Core.Logic.{⊎_elim}
use mathlib.Core.Bool.{true, false}
use mathlib.Core.List.{List, [], ◌∷◌}
use lib.Dec.{eqb}
use lib.IntN.{ℤ, pos}
use borrow.Author.Tests.{eqb-true, eqb-false}
use Rattle.stab.specs.Basic.{◌and◌, eq_z, nat, below}
use Rattle.stab.specs.Formula.{Row, conj, disj, kind_of}
use Rattle.stab.proofs.Bools.{decide, and_left, and_right}
use Rattle.stab.proofs.Whole.{eq_z_true}
use Rattle.stab.proofs.Scans.{below_suc}
use Rattle.stab.proofs.Trees.{below_nat}
use Rattle.wide.specs.WideFormula.{WideKind, wide_kind_of, wide_formed_as, wide_formed, two_parts}
use Rattle.wide.specs.Plain.{rows_given, start_of, image, row, constant_row, literal_row, join_row, iter_row, other, three_rows, given_as, given}
use Rattle.wide.proofs.WideTrees.{wide_formed_as_lem}
use Rattle.widerows.proofs.WideLaws.{TwoKind, joining, implying, comparing, two_formed, other_kind}
use Rattle.convert.specs.Emission.{paired, stands_of, swapped, parts_row, both_rows, six_rows, image_at, Imaged}
use Rattle.convert.specs.declared.rows.Stands.{Stands}

-- one of two numbers
pub each_of : (P : ℕ → Type 0) (n k : ℕ) → n ≤ k → k < n + 2 → P n → P (suc n) → P k
each_of P n k l h p q =
    ⊎_elim
    (λ m. let e : n ≡ k = omega arith in subst P e p)
    (λ e. subst P (sym e) q)
    (below_suc k (suc n) (omega arith))

module _ (rows : ℕ → Row) (r : ℕ) where
  pub given_number : (k : ℕ) → (rows r).kind ≡ pos k → given_as (start_of rows r) (rows r) (wide_kind_of (pos k)) (image rows (nat (rows r).a)) (image rows (nat (rows r).b)) ≡ given rows r
  unfolding given
  given_number k e = ap (λ (z : ℤ). given_as (start_of rows r) (rows r) (wide_kind_of z) (image rows (nat (rows r).a)) (image rows (nat (rows r).b))) (sym e)

  module _ (formed : wide_formed rows r ≡ true) where
    formed_number : (k : ℕ) → (rows r).kind ≡ pos k → wide_formed_as rows r (rows r) (wide_kind_of (pos k)) ≡ true
    formed_number k e = wide_formed_as_lem rows r (wide_kind_of (pos k)) (ap wide_kind_of e) formed

    three_zeros : (eq_z (rows r).a (pos 0) and eq_z (rows r).b (pos 0) and eq_z (rows r).c (pos 0)) ≡ true → ((rows r).a ≡ pos 0) × ((rows r).b ≡ pos 0) × ((rows r).c ≡ pos 0)
    three_zeros h =
        let q = and_right (eq_z (rows r).a (pos 0)) _ h in
        (eq_z_true _ _ (and_left _ _ h), eq_z_true _ _ (and_left _ _ q), eq_z_true _ _ (and_right (eq_z (rows r).b (pos 0)) _ q))

    -- kinds 0 to 3
    pub leaf_given : (k : ℕ) → k < 4 → (rows r).kind ≡ pos k → row k (rows r).a (rows r).b (rows r).c ∷ row (paired k) (rows r).a (rows r).b (rows r).c ∷ [] ≡ given rows r
    unfolding wide_kind_of kind_of eq_z wide_formed_as given_as constant_row literal_row row paired
    leaf_given zero l e =
        let z = three_zeros (formed_number 0 e) in
        (λ i. row 0 (z.0 i) (z.1 i) (z.2 i) ∷ row 1 (z.0 i) (z.1 i) (z.2 i) ∷ []) ∙ given_number 0 e
    leaf_given (suc zero) l e =
        let z = three_zeros (formed_number 1 e) in
        (λ i. row 1 (z.0 i) (z.1 i) (z.2 i) ∷ row 0 (z.0 i) (z.1 i) (z.2 i) ∷ []) ∙ given_number 1 e
    leaf_given (suc (suc zero)) l e = given_number 2 e
    leaf_given (suc (suc (suc zero))) l e = given_number 3 e
    leaf_given (suc (suc (suc (suc k)))) l e = absurd (omega arith)

    -- the parts of a row are smaller rows
    pub parts_below : {K : WideKind} → TwoKind K → wide_kind_of (rows r).kind ≡ K → (below r (rows r).a ≡ true) × (below r (rows r).b ≡ true)
    unfolding two_parts
    parts_below {K} t e =
        let h = sym (two_formed rows r t) ∙ wide_formed_as_lem rows r K e formed in
        (and_left _ _ h, and_left _ _ (and_right (below r (rows r).a) _ h))

    pub body_below : (k : ℕ) → 6 ≤ k → k < 8 → (rows r).kind ≡ pos k → below r (rows r).a ≡ true
    unfolding wide_kind_of kind_of eq_z wide_formed_as
    body_below k l h = each_of (λ (n : ℕ). (rows r).kind ≡ pos n → below r (rows r).a ≡ true) 6 k l h (λ e. and_left _ _ (formed_number 6 e)) (λ e. and_left _ _ (formed_number 7 e))

    pub negation_below : (rows r).kind ≡ pos 8 → below r (rows r).a ≡ true
    unfolding wide_kind_of eq_z wide_formed_as
    negation_below e = and_left _ _ (formed_number 8 e)

-- ---- the images of the parts

-- plain rows
pub record Plains (m : Stands) : Type 0 where
  pub own : m.own < 1024
  pub negated : m.negated < 1024

module _ {rows : ℕ → Row} {images : List ℕ} {n : ℕ} (imaged : Imaged rows images n) (z : ℤ) (h : below n z ≡ true) where
  pub image_known : image_at images (nat z) ≡ stands_of (image rows (nat z))
  image_known = imaged.known (nat z) (below_nat n z h)

  pub image_plain : Plains (image_at images (nat z))
  unfolding stands_of
  image_plain =
      subst Plains (sym image_known)
      (record { own = imaged.own (nat z) (below_nat n z h); negated = imaged.negated (nat z) (below_nat n z h) })

pub swapped_plain : {m : Stands} → Plains m → Plains (swapped m)
unfolding swapped
swapped_plain p = record { own = p.negated; negated = p.own }

-- ---- what rows with parts give, by the images kept

module _ (rows : ℕ → Row) (r : ℕ) (formed : wide_formed rows r ≡ true) (images : List ℕ) (imaged : Imaged rows images r) where
  abbrev left : Stands
  left = image_at images (nat (rows r).a)

  abbrev right : Stands
  right = image_at images (nat (rows r).b)

  -- by the images of both parts
  both_given : {K : WideKind} → TwoKind K → wide_kind_of (rows r).kind ≡ K → (f : Stands → Stands → List Row)
      → f (stands_of (image rows (nat (rows r).a))) (stands_of (image rows (nat (rows r).b))) ≡ given rows r → f left right ≡ given rows r
  both_given t e f h =
      let p = parts_below rows r formed t e in
      ap₂ f (image_known imaged _ p.0) (image_known imaged _ p.1) ∙ h

  -- kinds 4 and 5
  pub junction_given : (k : ℕ) → 4 ≤ k → k < 6 → (rows r).kind ≡ pos k → both_rows k (paired k) left right ≡ given rows r
  unfolding wide_kind_of kind_of eq_z given_as join_row other row both_rows parts_row paired stands_of
  junction_given k l h =
      each_of (λ (n : ℕ). (rows r).kind ≡ pos n → both_rows n (paired n) left right ≡ given rows r) 4 k l h
      (λ e. both_given (joining conj) (ap wide_kind_of e) (both_rows 4 5) (given_number rows r 4 e))
      (λ e. both_given (joining disj) (ap wide_kind_of e) (both_rows 5 4) (given_number rows r 5 e))

  -- kind 9
  pub implication_given : (rows r).kind ≡ pos 9 → both_rows 5 4 (swapped left) right ≡ given rows r
  unfolding wide_kind_of eq_z given_as join_row row both_rows parts_row stands_of swapped
  implication_given e = both_given implying (ap wide_kind_of e) (λ m n. both_rows 5 4 (swapped m) n) (given_number rows r 9 e)

  -- kinds 10 and 11
  pub equivalent_given : (rows r).kind ≡ pos 10 → six_rows (start_of rows r) left right ≡ given rows r
  unfolding wide_kind_of eq_z given_as three_rows join_row row six_rows both_rows parts_row stands_of swapped
  equivalent_given e =
      both_given (comparing true) (ap wide_kind_of e) (six_rows (start_of rows r)) (given_number rows r 10 e)

  pub exclusive_given : (rows r).kind ≡ pos 11 → six_rows (start_of rows r) left (swapped right) ≡ given rows r
  unfolding wide_kind_of eq_z given_as three_rows join_row row six_rows both_rows parts_row stands_of swapped
  exclusive_given e =
      both_given (comparing false) (ap wide_kind_of e) (λ m n. six_rows (start_of rows r) m (swapped n)) (given_number rows r 11 e)

  -- kinds 6 and 7
  pub iteration_given : (k : ℕ) → 6 ≤ k → k < 8 → (rows r).kind ≡ pos k
      → row k (pos left.own) (rows r).b (rows r).c ∷ row (paired k) (pos left.negated) (rows r).b (rows r).c ∷ [] ≡ given rows r
  unfolding wide_kind_of kind_of eq_z given_as iter_row other row paired stands_of
  iteration_given k l h =
      each_of (λ (n : ℕ). (rows r).kind ≡ pos n → row n (pos left.own) (rows r).b (rows r).c ∷ row (paired n) (pos left.negated) (rows r).b (rows r).c ∷ [] ≡ given rows r) 6 k l h
      (λ e. ap (λ (m : Stands). row 6 (pos m.own) (rows r).b (rows r).c ∷ row 7 (pos m.negated) (rows r).b (rows r).c ∷ []) (image_known imaged _ (body_below rows r formed 6 (omega arith) (omega arith) e)) ∙ given_number rows r 6 e)
      (λ e. ap (λ (m : Stands). row 7 (pos m.own) (rows r).b (rows r).c ∷ row 6 (pos m.negated) (rows r).b (rows r).c ∷ []) (image_known imaged _ (body_below rows r formed 7 (omega arith) (omega arith) e)) ∙ given_number rows r 7 e)

-- ---- how many rows a kind gives

pub two_given : (k : ℕ) → (k ≡ 8 → ⊥) → (k ≡ 10 → ⊥) → (k ≡ 11 → ⊥) → rows_given (wide_kind_of (pos k)) ≡ 2
unfolding rows_given wide_kind_of eq_z
two_given k a b c =
    ⊎_elim
    (λ e. ap (λ (n : ℕ). rows_given (wide_kind_of (pos n))) (eqb-true k 9 e))
    (λ e. ap rows_given (other_kind k a (eqb-false k 9 e) b c))
    (decide (eqb k 9))

pub six_given : (k : ℕ) → 10 ≤ k → k < 12 → rows_given (wide_kind_of (pos k)) ≡ 6
unfolding rows_given wide_kind_of eq_z
six_given k l h = each_of (λ (n : ℕ). rows_given (wide_kind_of (pos n)) ≡ 6) 10 k l h refl refl

-- ---- kinds with two parts

pub join_kind : (k : ℕ) → 4 ≤ k → k < 6 → TwoKind (wide_kind_of (pos k))
unfolding wide_kind_of kind_of eq_z
join_kind k l h = each_of (λ (n : ℕ). TwoKind (wide_kind_of (pos n))) 4 k l h (joining conj) (joining disj)
