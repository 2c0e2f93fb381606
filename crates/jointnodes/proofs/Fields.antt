-- The nodes that a moved node names.
use Prim.Native.Nat.{ℕ, ◌+◌}
use native.Mathlib.Omega.{arith}
use mathlib.Core.Path.{◌≡◌, sym, ◌∙◌, ap}
use mathlib.Core.Bool.{true, false}
use lib.IntN.{ℤ, pos, ◌+ℤ◌}
use lib.Signed.{le_z, lt_z}
use Rattle.stab.specs.Basic.{nat}
use Rattle.stab.proofs.Bools.{if_true, if_false}
use Rattle.stab.proofs.Whole.{atom, num, of_lt, of_not_lt, le_of, not_le_of, nat_pos}
use Rattle.joint.specs.Joint.{parent_of, further}

module _ (d : ℕ) (z : ℤ) where
  none_named : lt_z z (pos 0) ≡ true → le_z (pos 0) z ≡ false
  none_named h = not_le_of (num 0) (atom z) (omega (arith, of_lt (atom z) (num 0) h))

  named : lt_z z (pos 0) ≡ false → le_z (pos 0) z ≡ true
  named h = le_of (num 0) (atom z) (omega (arith, of_not_lt (atom z) (num 0) h))

  pub parent_none : lt_z z (pos 0) ≡ true → pos 0 ≡ parent_of d z
  unfolding parent_of
  parent_none h = sym (if_false (le_z (pos 0) z) _ _ (none_named h))

  pub further_none : lt_z z (pos 0) ≡ true → z ≡ further d z
  unfolding further
  further_none h = sym (if_false (le_z (pos 0) z) _ _ (none_named h))

  pub parent_moved : lt_z z (pos 0) ≡ false → pos (nat z + d) ≡ parent_of d z
  unfolding parent_of
  parent_moved h = ap (λ (y : ℤ). y +ℤ pos d) (nat_pos z (named h)) ∙ sym (if_true (le_z (pos 0) z) _ _ (named h))

  pub further_moved : lt_z z (pos 0) ≡ false → pos (nat z + d) ≡ further d z
  unfolding further
  further_moved h = ap (λ (y : ℤ). y +ℤ pos d) (nat_pos z (named h)) ∙ sym (if_true (le_z (pos 0) z) _ _ (named h))
