-- The tests on a node's fields, answer by answer as the code finds them.
use Prim.Native.Nat.{ℕ, zero, suc}
use native.Mathlib.Omega.{arith}
use mathlib.Core.Path.{◌≡◌, refl, sym, ◌∙◌}
use mathlib.Core.Bool.{true, false}
use lib.Dec.{eqb, ltb}
use lib.IntN.{ℤ, pos, negsuc, neg_ℤ}
use lib.Signed.{le_z}
use borrow.Author.Tests.{le-leb, ne_eqb}
use Rattle.stab.specs.Basic.{◌and◌, eq_z, nat, below}
use Rattle.stab.specs.Formula.{Row}
use Rattle.stab.specs.Rule.{unused}
use Rattle.stab.proofs.Bools.{and_first_false, if_true, if_false, and_first_true}
use Rattle.branch.specs.Lent.{fits_kind}

-- ---- kinds

module _ (rows : ℕ → Row) (n : ℕ) (need z : ℤ) where
  pub kind_unused : eq_z need unused ≡ true → eq_z z unused ≡ fits_kind rows n need z
  unfolding fits_kind
  kind_unused h = sym (if_true (eq_z need unused) _ _ h)

  kind_used : eq_z need unused ≡ false → (below n z and eq_z (rows (nat z)).kind need) ≡ fits_kind rows n need z
  unfolding fits_kind
  kind_used h = sym (if_false (eq_z need unused) _ _ h)

  pub kind_none : eq_z need unused ≡ false → below n z ≡ false → false ≡ fits_kind rows n need z
  kind_none h l = sym (and_first_false _ _ l) ∙ kind_used h

  pub kind_row : eq_z need unused ≡ false → below n z ≡ true → eq_z (rows (nat z)).kind need ≡ fits_kind rows n need z
  kind_row h l = sym (and_first_true _ _ l) ∙ kind_used h

-- ---- links

pub at_least_1 : (z : ℤ) → ltb 0 (nat z) ≡ le_z (pos 1) z
unfolding nat
at_least_1 (pos n) = refl
at_least_1 (negsuc n) = refl

pub not_negative : (z : ℤ) → eqb (nat (neg_ℤ z)) 0 ≡ le_z (pos 0) z
unfolding nat
not_negative (pos zero) = refl
not_negative (pos (suc n)) = sym (le-leb 0 (suc n) (omega arith))
not_negative (negsuc n) = ne_eqb (suc n) 0 (λ e. omega arith)
