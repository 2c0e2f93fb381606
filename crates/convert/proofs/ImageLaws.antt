-- What is kept of each wide row, one row after the other.
use Prim.Native.Nat.{ℕ, suc, ◌+◌, ◌*◌, ◌<◌, ◌≤◌}
use native.Mathlib.Omega.{arith}
use mathlib.Core.Path.{◌≡◌, refl, sym, ◌∙◌, ap, subst}
use mathlib.Core.Logic.{⊎_elim}
use mathlib.Core.Bool.{true, false≢true}
use mathlib.Core.List.{List, []}
use lib.Dec.{eqb, ltb}
use lib.IntN.{ℤ, pos, negsuc}
use lib.ListN.{length, get_or, set, length-set}
use lib.Seq.{get_or-set_same, get_or-set_other}
use borrow.Author.Tests.{eqb-true, eqb-false, ltb-true, ltb-false}
use Rattle.stab.specs.Basic.{eq_z, nat}
use Rattle.stab.specs.Formula.{Row, kind_of}
use Rattle.stab.proofs.Bools.{decide}
use Rattle.wide.specs.WideFormula.{WideKind, plain, negation, implication, equivalence, wide_kind_of, wide_formed, wide_formed_as}
use Rattle.wide.specs.Plain.{rows_given, start_of, image_as, image, given_as, given}
use Rattle.wide.proofs.Images.{image_is}
use Rattle.wide.proofs.WideTrees.{wide_formed_as_lem}
use Rattle.formula.proofs.RowLaws.{each_more}
use Rattle.widerows.proofs.WideLaws.{other_kind, no_kind}
use Rattle.convert.specs.Emission.{stands_of, swapped, image_kept, image_at, Imaged}
use Rattle.convert.specs.declared.rows.Stands.{Stands}
use Rattle.convert.proofs.GivenLaws.{each_of, given_number, Plains}

-- ---- the number of a well-formed row's kind

module _ (rows : ℕ → Row) (r : ℕ) (formed : wide_formed rows r ≡ true) where
  pub kind_number : (rows r).kind ≡ pos (nat (rows r).kind)
  unfolding wide_kind_of kind_of eq_z wide_formed_as nat
  kind_number = go (rows r).kind refl
    where
      go : (z : ℤ) → (rows r).kind ≡ z → z ≡ pos (nat z)
      go (pos n) e = refl
      go (negsuc n) e = absurd (false≢true (wide_formed_as_lem rows r (wide_kind_of (negsuc n)) (ap wide_kind_of e) formed))

  pub kind_known : nat (rows r).kind < 12
  unfolding wide_formed_as
  kind_known =
      ⊎_elim
      (λ e. ltb-true _ 12 e)
      (λ e. absurd (false≢true (wide_formed_as_lem rows r _ (ap wide_kind_of kind_number ∙ no_kind (nat (rows r).kind) (ltb-false _ 12 e)) formed)))
      (decide (ltb (nat (rows r).kind) 12))

pub given_most : (k : WideKind) → rows_given k ≤ 6
unfolding rows_given
given_most (plain k) = omega arith
given_most negation = omega arith
given_most implication = omega arith
given_most (equivalence v) = omega arith

-- ---- the image of a row, by its kind

module _ (rows : ℕ → Row) (r : ℕ) (formed : (a : ℕ) → a < suc r → wide_formed rows a ≡ true) where
  image_as_lem : (k : WideKind) → wide_kind_of (rows r).kind ≡ k → image rows r ≡ image_as (start_of rows r) k (image rows (nat (rows r).a))
  image_as_lem k e = image_is rows (suc r) formed r (omega arith) k e

  pub image_two : (k : ℕ) → (rows r).kind ≡ pos k → (k ≡ 8 → ⊥) → (k ≡ 10 → ⊥) → (k ≡ 11 → ⊥) → stands_of (image rows r) ≡ record { own = start_of rows r; negated = start_of rows r + 1 }
  unfolding stands_of image_as wide_kind_of eq_z
  image_two k e a b c =
      ⊎_elim
      (λ h. ap stands_of (image_as_lem implication (ap wide_kind_of (e ∙ ap pos (eqb-true k 9 h)))))
      (λ h. ap stands_of (image_as_lem (plain (kind_of (pos k))) (ap wide_kind_of e ∙ other_kind k a (eqb-false k 9 h) b c)))
      (decide (eqb k 9))

  pub image_six : (k : ℕ) → 10 ≤ k → k < 12 → (rows r).kind ≡ pos k → stands_of (image rows r) ≡ record { own = start_of rows r + 2; negated = start_of rows r + 5 }
  unfolding stands_of image_as wide_kind_of eq_z
  image_six k l h =
      each_of (λ (n : ℕ). (rows r).kind ≡ pos n → stands_of (image rows r) ≡ record { own = start_of rows r + 2; negated = start_of rows r + 5 }) 10 k l h
      (λ e. ap stands_of (image_as_lem _ (ap wide_kind_of e)))
      (λ e. ap stands_of (image_as_lem _ (ap wide_kind_of e)))

  pub image_not : (rows r).kind ≡ pos 8 → stands_of (image rows r) ≡ swapped (stands_of (image rows (nat (rows r).a)))
  unfolding stands_of swapped image_as wide_kind_of eq_z
  image_not e = ap stands_of (image_as_lem negation (ap wide_kind_of e))

  -- a not gives no row
  pub not_given : (rows r).kind ≡ pos 8 → [] ≡ given rows r
  unfolding given_as wide_kind_of eq_z
  not_given e = given_number rows r 8 e

-- ---- one row more

module _ (images : List ℕ) (r : ℕ) (m : Stands) where
  kept_other : (a : ℕ) → a < r → image_at (image_kept images r m) a ≡ image_at images a
  unfolding image_at image_kept
  kept_other a l = λ i. record {
    own = past (2 * a) (omega arith) i;
    negated = past (2 * a + 1) (omega arith) i;
  }
    where
      past : (x : ℕ) → x < 2 * r → get_or (set (set images (2 * r) m.own) (2 * r + 1) m.negated) x 0 ≡ get_or images x 0
      past x h =
          get_or-set_other (set images (2 * r) m.own) (2 * r + 1) x m.negated 0 (λ q. omega arith)
          ∙ get_or-set_other images (2 * r) x m.own 0 (λ q. omega arith)

  kept_here : 2 * r + 1 < length images → image_at (image_kept images r m) r ≡ m
  unfolding image_at image_kept
  kept_here h = λ i. record {
    own = (get_or-set_other (set images (2 * r) m.own) (2 * r + 1) (2 * r) m.negated 0 (λ q. omega arith) ∙ get_or-set_same images (2 * r) m.own 0 (omega arith)) i;
    negated = get_or-set_same (set images (2 * r) m.own) (2 * r + 1) m.negated 0 (simp length-set (omega arith)) i;
  }

pub imaged_none : (rows : ℕ → Row) (images : List ℕ) → Imaged rows images 0
imaged_none rows images =
    record { known = λ a l. absurd (omega arith); own = λ a l. absurd (omega arith); negated = λ a l. absurd (omega arith) }

pub imaged_more : (rows : ℕ → Row) (images : List ℕ) (r : ℕ) (m : Stands) → Imaged rows images r → 2 * r + 1 < length images
    → stands_of (image rows r) ≡ m → Plains m → Imaged rows (image_kept images r m) (suc r)
unfolding stands_of
imaged_more rows images r m imaged room e p =
    let p' = subst Plains (sym e) p in
    record {
      known = λ a l. each_more r (λ a' h. kept_other images r m a' h ∙ imaged.known a' h) (kept_here images r m room ∙ sym e) a (omega arith);
      own = λ a l. each_more r imaged.own p'.own a (omega arith);
      negated = λ a l. each_more r imaged.negated p'.negated a (omega arith);
    }
