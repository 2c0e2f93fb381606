-- Outer rows of one class and one shift are alike.
use Prim.Native.Nat.{ℕ, ◌+◌, ◌*◌, ◌<◌}
use mathlib.Core.Path.{◌≡◌, sym, ◌∙◌, ap, ap₂}
use mathlib.Core.Bool.{true, false}
use mathlib.Core.List.{List}
use lib.IntN.{pos}
use lib.ListN.{get_or}
use Rattle.stab.specs.Formula.{Row, tree, loose}
use Rattle.stab.specs.Alike.{alike}
use Rattle.stab.proofs.Alikes.{lower_zero}
use Rattle.classes.specs.Class.{off, shift_of, Ready}
use Rattle.classes.proofs.Slides.{down, outer_ground, akin_alike}
use Rattle.classes.proofs.Least.{class_akin}
use Rattle.classes.proofs.Shifts.{coded_same}
use Rattle.classes.proofs.ByKind.{has_shift}

module _ (rows : ℕ → Row) (forms : List ℕ) (n : ℕ) (ready : Ready rows forms n) (y z : ℕ) (ly : y < n) (lz : z < n) where
  same_shift : get_or forms (4 * y + 1) 0 ≡ get_or forms (4 * z + 1) 0 → off (tree rows y) ≡ off (tree rows z)
  unfolding shift_of
  same_shift e =
      coded_same _ _ (has_shift rows n ready.formed y ly) (has_shift rows n ready.formed z lz)
      (sym (ready.worked y ly).shift ∙ e ∙ (ready.worked z lz).shift)

  pub twins_alike : loose (tree rows y) ≡ false → loose (tree rows z) ≡ false → get_or forms (4 * y) 0 ≡ get_or forms (4 * z) 0 → get_or forms (4 * y + 1) 0 ≡ get_or forms (4 * z + 1) 0 → alike (tree rows y) (tree rows z) ≡ true
  twins_alike p q c s =
      ap₂ alike (sym (lower_zero _ ∙ outer_ground _ p)) (sym (lower_zero _ ∙ outer_ground _ q))
      ∙ akin_alike _ _ (pos 0) (pos 0) (class_akin rows y z (sym (ready.worked y ly).class ∙ c ∙ (ready.worked z lz).class)) (ap (down (pos 0)) (same_shift s))
