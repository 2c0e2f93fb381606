-- Well-formed wide rows give well-formed plain rows.
use Prim.Native.Nat.{ℕ, zero, suc, ◌+◌, ◌<◌, ◌≤◌}
use native.Mathlib.Omega.{arith}
use mathlib.Core.Path.{◌≡◌, refl, sym, ◌∙◌, ap, ap₂}
use mathlib.Core.Bool.{Bool, true, false, not, false≢true}
use Rattle.stab.specs.Basic.{◌and◌, ◌or◌, nat}
use Rattle.stab.specs.Formula.{Row, Op, conj, disj, constant, literal, junction, iteration, unknown, Formula, join, tree, loose, fixed, is_body, is_outer, mixes, well_formed}
use Rattle.stab.specs.Meaning.{signed}
use Rattle.stab.proofs.Trees.{below_nat}
use Rattle.wide.specs.WideFormula.{WideKind, plain, negation, implication, equivalence, wide_kind_of, Wide, wide_tree, wide_loose, wide_fixed, is_wide_body, is_wide_outer, wide_mixes, wide_formed_as, wide_formed}
use Rattle.wide.specs.Plain.{rows_given, start_of, image, join_row}
use Rattle.wide.proofs.Places.{given_below}
use Rattle.wide.proofs.WideTrees.{wide_formed_as_lem, junction_two, implication_two, equivalence_two, equivalence_wide, body_below, limits_fit, body_is}
use Rattle.wide.proofs.PlainForms.{turned, plain_form, plain_loose, plain_fixed}
use Rattle.wide.proofs.PlainRows.{constant_formed, literal_formed, join_tree, join_formed, iter_formed}
use Rattle.wide.proofs.Images.{side, of_two, of_six, image_plain, image_implication, image_equivalence, Stand, left_of, right_of, constant_stands, literal_stands, junction_stands, iteration_stands, implication_stands, both_stand, neither_stands, or_stands}
use Rattle.wide.proofs.ImageTrees.{two_from, six_from, part_before, image_tree}

-- ---- mixing

plain_mixes : (v : Bool) (f : Wide) → mixes (plain_form v f) ≡ wide_mixes f
unfolding mixes wide_mixes
plain_mixes v f = ap₂ ◌and◌ (plain_loose v f) (plain_fixed v f)

-- an and of the plain forms of two sides mixes what the sides mix
sides_mix : (o : Op) (u v : Bool) (f g : Wide) → mixes (join o (plain_form u f) (plain_form v g)) ≡ ((wide_loose f or wide_loose g) and (wide_fixed f or wide_fixed g))
unfolding mixes loose fixed
sides_mix o u v f g =
    ap₂ ◌and◌ (ap₂ ◌or◌ (plain_loose u f) (plain_loose v g)) (ap₂ ◌or◌ (plain_fixed u f) (plain_fixed v g))

-- ---- which of its rows

record OfTwo (s p : ℕ) : Type 0 where
  which : Bool
  place : p ≡ of_two which s

of_two_lem : (s p k : ℕ) → p ≡ s + k → k < 2 → OfTwo s p
unfolding of_two
of_two_lem s p zero e l = record { which = true; place = omega arith }
of_two_lem s p (suc k) e l = record { which = false; place = omega arith }

record OfSix (s p : ℕ) : Type 0 where
  which : Bool
  among : ℕ
  few : among < 3
  place : p ≡ of_six which s + among

of_six_lem : (s p k : ℕ) → p ≡ s + k → k < 6 → OfSix s p
unfolding of_six
of_six_lem s p zero e l = record { which = true; among = 0; few = omega arith; place = omega arith }
of_six_lem s p (suc zero) e l = record { which = true; among = 1; few = omega arith; place = omega arith }
of_six_lem s p (suc (suc zero)) e l = record { which = true; among = 2; few = omega arith; place = omega arith }
of_six_lem s p (suc (suc (suc k))) e l = record { which = false; among = k; few = omega arith; place = omega arith }

module _ (rows : ℕ → Row) (n : ℕ) (plains : ℕ → Row) (formed : (r : ℕ) → r < n → wide_formed rows r ≡ true) (stand : Stand rows n plains) where
  module _ (r : ℕ) (l : r < n) where
    -- a row's image does not mix where the row does not
    image_unmixed : (v : Bool) → wide_mixes (wide_tree rows r) ≡ false → not (mixes (tree plains (side v (image rows r)))) ≡ true
    image_unmixed v h =
        ap not (ap mixes (image_tree rows n plains formed stand v r l) ∙ plain_mixes v (wide_tree rows r) ∙ h)

    at_unmixed : (v : Bool) (p : ℕ) → side v (image rows r) ≡ p → wide_mixes (wide_tree rows r) ≡ false → not (mixes (tree plains p)) ≡ true
    at_unmixed v p e h = ap (λ (q : ℕ). not (mixes (tree plains q))) (sym e) ∙ image_unmixed v h

    two_formed : (v : Bool) (K : WideKind) → wide_kind_of (rows r).kind ≡ K → rows_given K ≡ 2 → well_formed plains (of_two v (start_of rows r)) ≡ true
    unfolding wide_formed_as rows_given is_body is_wide_body
    two_formed v (plain (constant w)) e q = constant_formed plains _ (signed v w) (constant_stands rows n plains stand r l v w e)
    two_formed v (plain (literal w)) e q =
        literal_formed plains _ (signed v w) (rows r) (literal_stands rows n plains stand r l v w e) (wide_formed_as_lem rows r _ e (formed r l))
    two_formed v (plain (junction o)) e q =
        let parts = junction_two rows r (formed r l) o e in
        join_formed plains _ (turned v o) _ _ (junction_stands rows n plains stand r l v o e)
        (omega (arith, two_from v (start_of rows r), part_before rows n plains formed stand v r (rows r).a l parts.left))
        (omega (arith, two_from v (start_of rows r), part_before rows n plains formed stand v r (rows r).b l parts.right))
        (at_unmixed v _ (image_plain rows n formed r l v _ e) parts.unmixed)
    two_formed v (plain (iteration o)) e q =
        let part = body_below rows r (formed r l) o e in
        iter_formed plains _ (turned v o) _ _ _ (iteration_stands rows n plains stand r l v o e)
        (omega (arith, two_from v (start_of rows r), part_before rows n plains formed stand v r (rows r).a l part))
        (limits_fit rows r (formed r l) o e)
        (let p = below_nat r (rows r).a part in
        ap is_body (image_tree rows n plains formed stand v (nat (rows r).a) (omega arith))
        ∙ ap not (plain_fixed v (wide_tree rows (nat (rows r).a)))
        ∙ body_is rows r (formed r l) o e)
    two_formed v (plain unknown) e q = absurd (false≢true (wide_formed_as_lem rows r (plain unknown) e (formed r l)))
    two_formed v negation e q = absurd (omega arith)
    two_formed v implication e q =
        let parts = implication_two rows r (formed r l) e in
        join_formed plains _ (turned v disj) _ _ (implication_stands rows n plains stand r l v e)
        (omega (arith, two_from v (start_of rows r), part_before rows n plains formed stand (not v) r (rows r).a l parts.left))
        (omega (arith, two_from v (start_of rows r), part_before rows n plains formed stand v r (rows r).b l parts.right))
        (at_unmixed v _ (image_implication rows n formed r l v e) parts.unmixed)
    two_formed v (equivalence w) e q = absurd (omega arith)

    module _ (w : Bool) (e : wide_kind_of (rows r).kind ≡ equivalence w) where
      sides_unmixed : (o : Op) (u v : Bool) → not (mixes (join o (plain_form u (wide_tree rows (nat (rows r).a))) (plain_form v (wide_tree rows (nat (rows r).b))))) ≡ true
      unfolding wide_mixes wide_loose wide_fixed
      sides_unmixed o u v =
          ap not
          (sides_mix o u v _ _
          ∙ ap wide_mixes (sym (equivalence_wide rows r (formed r l) w e))
          ∙ (equivalence_two rows r (formed r l) w e).unmixed)

      -- one of the two ands
      and_formed : (p : ℕ) (u v : Bool) → plains p ≡ join_row conj (side u (left_of rows r)) (side v (right_of rows r)) → start_of rows r ≤ p → well_formed plains p ≡ true
      and_formed p u v q s =
          let parts = equivalence_two rows r (formed r l) w e in
          let a = below_nat r (rows r).a parts.left in
          let b = below_nat r (rows r).b parts.right in
          let f : side u (left_of rows r) < p = omega (arith, part_before rows n plains formed stand u r (rows r).a l parts.left) in
          let g : side v (right_of rows r) < p = omega (arith, part_before rows n plains formed stand v r (rows r).b l parts.right) in
          let t = join_tree plains p conj _ _ q f g in
          join_formed plains p conj _ _ q f g
          (ap (λ (x : Formula). not (mixes x))
          (t
          ∙ ap₂ (join conj)
          (image_tree rows n plains formed stand u (nat (rows r).a) (omega arith))
          (image_tree rows n plains formed stand v (nat (rows r).b) (omega arith)))
          ∙ sides_unmixed conj u v)

      three_formed : (v : Bool) (j : ℕ) → j < 3 → well_formed plains (of_six v (start_of rows r) + j) ≡ true
      three_formed v zero h =
          let z : of_six v (start_of rows r) + 0 ≡ of_six v (start_of rows r) = omega arith in
          ap (well_formed plains) z ∙ and_formed _ _ _ (both_stand rows n plains stand r l v w e) (six_from v (start_of rows r))
      three_formed v (suc zero) h =
          and_formed _ _ _ (neither_stands rows n plains stand r l v w e) (omega (arith, six_from v (start_of rows r)))
      three_formed v (suc (suc zero)) h =
          join_formed plains _ disj _ _ (or_stands rows n plains stand r l v w e) (omega arith) (omega arith)
          (at_unmixed v _ (image_equivalence rows n formed r l v w e) (equivalence_two rows r (formed r l) w e).unmixed)
      three_formed v (suc (suc (suc j))) h = absurd (omega arith)

    given_formed : (K : WideKind) → wide_kind_of (rows r).kind ≡ K → (p k : ℕ) → p ≡ start_of rows r + k → k < rows_given K → well_formed plains p ≡ true
    unfolding rows_given
    given_formed (plain x) e p k q h =
        let t = of_two_lem (start_of rows r) p k q h in
        ap (well_formed plains) t.place ∙ two_formed t.which (plain x) e refl
    given_formed negation e p k q h = absurd (omega arith)
    given_formed implication e p k q h =
        let t = of_two_lem (start_of rows r) p k q h in
        ap (well_formed plains) t.place ∙ two_formed t.which implication e refl
    given_formed (equivalence w) e p k q h =
        let t = of_six_lem (start_of rows r) p k q h in
        ap (well_formed plains) t.place ∙ three_formed w e t.which t.among t.few

  -- every plain row is well formed
  pub rows_formed : (p : ℕ) → p < start_of rows n → well_formed plains p ≡ true
  rows_formed p h =
      let g = given_below rows n p h in
      given_formed g.source g.before _ refl p g.among g.place g.is_given

  -- the row that stands for a wide row, or for its negation, is outer exactly if the wide row is
  pub image_outer : (v : Bool) (r : ℕ) → r < n → is_outer (tree plains (side v (image rows r))) ≡ is_wide_outer (wide_tree rows r)
  unfolding is_outer is_wide_outer
  image_outer v r l =
      ap (λ (f : Formula). not (loose f)) (image_tree rows n plains formed stand v r l) ∙ ap not (plain_loose v (wide_tree rows r))
