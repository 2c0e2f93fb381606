-- The formulas of a wide row's image.
use Prim.Native.Nat.{ℕ, zero, suc, ◌+◌, ◌<◌, ◌≤◌}
use native.Mathlib.Omega.{arith}
use mathlib.Core.Path.{◌≡◌, refl, sym, ◌∙◌, ap, ap₂, fun_ext}
use mathlib.Core.Bool.{Bool, true, false, not, false≢true}
use lib.IntN.{ℤ}
use Rattle.stab.specs.Basic.{nat, below}
use Rattle.stab.specs.Formula.{Row, conj, disj, constant, literal, junction, iteration, unknown, Formula, join, iter, tree}
use Rattle.stab.specs.Meaning.{signed}
use Rattle.stab.proofs.Trees.{below_nat}
use Rattle.wide.specs.WideFormula.{WideKind, plain, negation, implication, equivalence, wide_kind_of, wide_decode, wide_tree, wide_formed_as, wide_formed}
use Rattle.wide.specs.Plain.{start_of, image}
use Rattle.wide.proofs.Places.{start_rises}
use Rattle.wide.proofs.WideTrees.{wide_decoded, wide_formed_as_lem, junction_two, junction_wide, implication_two, implication_wide, equivalence_two, equivalence_wide, negation_below, negation_wide, body_below, iteration_wide}
use Rattle.wide.proofs.PlainForms.{turned, three_forms, plain_form}
use Rattle.wide.proofs.PlainRows.{constant_tree, literal_tree, join_tree, iter_tree}
use Rattle.wide.proofs.Images.{side, of_two, of_six, image_plain, image_implication, image_equivalence, image_negation, image_below, Stand, left_of, right_of, constant_stands, literal_stands, junction_stands, iteration_stands, implication_stands, both_stand, neither_stands, or_stands}

pub two_from : (v : Bool) (s : ℕ) → s ≤ of_two v s
unfolding of_two
two_from true s = omega arith
two_from false s = omega arith

pub six_from : (v : Bool) (s : ℕ) → s ≤ of_six v s
unfolding of_six
six_from true s = omega arith
six_from false s = omega arith

module _ (rows : ℕ → Row) (n : ℕ) (plains : ℕ → Row) (formed : (r : ℕ) → r < n → wide_formed rows r ≡ true) (stand : Stand rows n plains) where
  -- the image of a smaller row is before the rows that row r gives
  pub part_before : (v : Bool) (r : ℕ) (z : ℤ) → r < n → below r z ≡ true → side v (image rows (nat z)) < start_of rows r
  part_before v r z l b =
      let p = below_nat r z b in
      omega (arith, image_below rows n formed v (nat z) (omega arith), start_rises rows (suc (nat z)) r p)

  module _ (r : ℕ) (l : r < n) where
    -- the three rows of an equivalence
    three_tree : (v w : Bool) → wide_kind_of (rows r).kind ≡ equivalence w → tree plains (of_six v (start_of rows r) + 2) ≡ three_forms (signed v w) (λ u. tree plains (side u (left_of rows r))) (λ u. tree plains (side u (right_of rows r)))
    unfolding three_forms
    three_tree v w e =
        let t : ℕ = of_six v (start_of rows r) in
        let parts = equivalence_two rows r (formed r l) w e in
        let s = six_from v (start_of rows r) in
        join_tree plains (t + 2) disj t (t + 1) (or_stands rows n plains stand r l v w e) (omega arith) (omega arith)
        ∙ ap₂ (join disj)
        (join_tree plains t conj _ _ (both_stand rows n plains stand r l v w e)
        (omega (arith, part_before true r (rows r).a l parts.left))
        (omega (arith, part_before (signed v w) r (rows r).b l parts.right)))
        (join_tree plains (t + 1) conj _ _ (neither_stands rows n plains stand r l v w e)
        (omega (arith, part_before false r (rows r).a l parts.left))
        (omega (arith, part_before (not (signed v w)) r (rows r).b l parts.right)))

    module _ (smaller : (u : Bool) (z : ℤ) → below r z ≡ true → tree plains (side u (image rows (nat z))) ≡ plain_form u (wide_tree rows (nat z))) where
      tree_kind : (v : Bool) (K : WideKind) → wide_kind_of (rows r).kind ≡ K → tree plains (side v (image rows r)) ≡ plain_form v (wide_tree rows r)
      unfolding plain_form wide_decode wide_formed_as
      tree_kind v (plain (constant w)) e =
          ap (tree plains) (image_plain rows n formed r l v _ e)
          ∙ constant_tree plains _ (signed v w) (constant_stands rows n plains stand r l v w e)
          ∙ ap (plain_form v) (sym (wide_decoded rows r _ e))
      tree_kind v (plain (literal w)) e =
          ap (tree plains) (image_plain rows n formed r l v _ e)
          ∙ literal_tree plains _ (signed v w) (rows r) (literal_stands rows n plains stand r l v w e)
          ∙ ap (plain_form v) (sym (wide_decoded rows r _ e))
      tree_kind v (plain (junction o)) e =
          let parts = junction_two rows r (formed r l) o e in
          ap (tree plains) (image_plain rows n formed r l v _ e)
          ∙ join_tree plains _ (turned v o) _ _ (junction_stands rows n plains stand r l v o e)
          (omega (arith, two_from v (start_of rows r), part_before v r (rows r).a l parts.left))
          (omega (arith, two_from v (start_of rows r), part_before v r (rows r).b l parts.right))
          ∙ ap₂ (join (turned v o)) (smaller v (rows r).a parts.left) (smaller v (rows r).b parts.right)
          ∙ ap (plain_form v) (sym (junction_wide rows r (formed r l) o e))
      tree_kind v (plain (iteration o)) e =
          let part = body_below rows r (formed r l) o e in
          ap (tree plains) (image_plain rows n formed r l v _ e)
          ∙ iter_tree plains _ (turned v o) _ _ _ (iteration_stands rows n plains stand r l v o e)
          (omega (arith, two_from v (start_of rows r), part_before v r (rows r).a l part))
          ∙ ap (λ (f : Formula). iter (turned v o) f (rows r).b (rows r).c) (smaller v (rows r).a part)
          ∙ ap (plain_form v) (sym (iteration_wide rows r (formed r l) o e))
      tree_kind v (plain unknown) e = absurd (false≢true (wide_formed_as_lem rows r (plain unknown) e (formed r l)))
      tree_kind v negation e =
          ap (tree plains) (image_negation rows n formed r l v e)
          ∙ smaller (not v) (rows r).a (negation_below rows r (formed r l) e)
          ∙ ap (plain_form v) (sym (negation_wide rows r (formed r l) e))
      tree_kind v implication e =
          let parts = implication_two rows r (formed r l) e in
          ap (tree plains) (image_implication rows n formed r l v e)
          ∙ join_tree plains _ (turned v disj) _ _ (implication_stands rows n plains stand r l v e)
          (omega (arith, two_from v (start_of rows r), part_before (not v) r (rows r).a l parts.left))
          (omega (arith, two_from v (start_of rows r), part_before v r (rows r).b l parts.right))
          ∙ ap₂ (join (turned v disj)) (smaller (not v) (rows r).a parts.left) (smaller v (rows r).b parts.right)
          ∙ ap (plain_form v) (sym (implication_wide rows r (formed r l) e))
      tree_kind v (equivalence w) e =
          let parts = equivalence_two rows r (formed r l) w e in
          ap (tree plains) (image_equivalence rows n formed r l v w e)
          ∙ three_tree v w e
          ∙ ap₂ (three_forms (signed v w)) (fun_ext (λ u. smaller u (rows r).a parts.left)) (fun_ext (λ u. smaller u (rows r).b parts.right))
          ∙ ap (plain_form v) (sym (equivalence_wide rows r (formed r l) w e))

  -- the tree of a wide row's image is the plain form of its formula, and the tree of its negation's that of its negation
  pub image_tree : (v : Bool) (r : ℕ) → r < n → tree plains (side v (image rows r)) ≡ plain_form v (wide_tree rows r)
  image_tree v r l = go (suc r) v r (omega arith) l
    where
      go : (k : ℕ) (v : Bool) (r : ℕ) → r < k → r < n → tree plains (side v (image rows r)) ≡ plain_form v (wide_tree rows r)
      go zero v r p l = absurd (omega arith)
      go (suc k) v r p l =
          tree_kind r l (λ u z b. let h = below_nat r z b in go k u (nat z) (omega arith) (omega arith)) v (wide_kind_of (rows r).kind) refl
