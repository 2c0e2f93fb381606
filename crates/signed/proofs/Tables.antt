-- Lent tables: 0 from a place on, and 0 past what was read.
use Prim.Native.Nat.{ℕ, ◌-◌, ◌≤◌}
use native.Mathlib.Omega.{arith}
use mathlib.Core.Path.{◌≡◌, ap}
use mathlib.Core.List.{List, ◌++◌}
use lib.IntN.{ℤ, pos}
use lib.ListN.{length, take, replicate}
use lib.Seq.{length-take-le}
use Rattle.stab.specs.Text.{padded}
use Rattle.signed.specs.Numbers.{cleared}

-- what was read stands in front
pub cleared_padded : (t : List ℤ) (i n : ℕ) → i ≤ length t → length t ≡ n → cleared t i ≡ padded (pos 0) n (take i t)
unfolding cleared padded
cleared_padded t i n l h =
    let a : length t - i ≡ n - length (take i t) = omega (arith, length-take-le i t l) in
    ap (λ (m : ℕ). take i t ++ replicate m (pos 0)) a

pub cleared_all : (t : List ℤ) → cleared t 0 ≡ replicate (length t) (pos 0)
unfolding cleared
cleared_all t = let all : length t - 0 ≡ length t = omega arith in ap (λ (n : ℕ). replicate n (pos 0)) all
