-- How far a number of 32 bits lies above the least of them, worked out in 64 bits.
use Prim.Native.Nat.{ℕ, suc, ◌-◌, ◌<◌, ◌^◌}
use native.Mathlib.Omega.{arith}
use mathlib.Core.Path.{◌≡◌, refl, sym, ◌∙◌, ap}
use mathlib.Core.Bool.{Bool, cond}
use lib.IntN.{ℤ, pos, negsuc, ◌+ℤ◌}
use mir.Syntax.{w32, w64}
use mir.Val.{SFits, of_z, to_z}
use mir.Facts.{to_z-of_z}
use borrow.Author.Tests.{le-ltb}
use Rattle.stab.specs.Basic.{nat}
use Rattle.signed.specs.Numbers.{rank_of}

from_least : (n : ℕ) → n < 2 ^ 31 → (negsuc n +ℤ pos 2147483648) ≡ pos (2147483648 - suc n)
from_least n l =
    ap (λ (t : Bool). cond t (negsuc (suc n - suc 2147483648)) (pos (2147483648 - suc n))) (le-ltb 2147483648 (suc n) (omega arith))

rank_pos : (z : ℤ) → SFits w32 z → (z +ℤ pos 2147483648) ≡ pos (rank_of z)
unfolding rank_of nat
rank_pos (pos n) f = refl
rank_pos (negsuc n) f = let e = from_least n f.sfits in e ∙ sym (ap (λ (z : ℤ). pos (nat z)) e)

pub rank_small : (z : ℤ) → SFits w32 z → rank_of z < 2 ^ 32
unfolding rank_of nat
rank_small (pos n) f = omega (arith, f.sfits)
rank_small (negsuc n) f = omega (arith, ap nat (from_least n f.sfits))

module _ (z : ℤ) (f : SFits w32 z) where
  -- the number as it is read
  abbrev read : ℤ
  read = to_z w32 (of_z w32 z)

  pub read_fits : SFits w64 read
  read_fits = rw (to_z-of_z f) (record { sfits = omega (arith, f.sfits) })

  is_rank : (to_z w64 (of_z w64 read) +ℤ pos 2147483648) ≡ pos (rank_of z)
  is_rank = ap (λ (x : ℤ). x +ℤ pos 2147483648) (to_z-of_z read_fits ∙ to_z-of_z f) ∙ rank_pos z f

  pub sum_fits : SFits w64 (to_z w64 (of_z w64 read) +ℤ pos 2147483648)
  sum_fits = rw is_rank (record { sfits = omega (arith, rank_small z f) })

  pub sum_is : to_z w64 (of_z w64 (to_z w64 (of_z w64 read) +ℤ pos 2147483648)) ≡ pos (rank_of z)
  sum_is = to_z-of_z sum_fits ∙ is_rank
