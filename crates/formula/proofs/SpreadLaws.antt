-- How large the number made of four can be.
use Prim.Native.Nat.{ℕ, ◌<◌, ◌^◌}
use native.Mathlib.Omega.{arith}
use Rattle.formula.specs.Spread.{spread_of}

pub spread_small : (a b c d : ℕ) → spread_of a b c d < 2 ^ 30
unfolding spread_of
spread_small a b c d = omega arith
