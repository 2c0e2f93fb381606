-- Numbers with a sign, and lent tables of them.
use Rattle.std.specs.Prelude.{ℕ, ◌-◌, Bool, true, false, List, ◌++◌, ℤ, pos, neg_ℤ, ◌+ℤ◌, length, take, replicate}
use Rattle.stab.specs.Basic.{nat}

-- v with its sign
unfoldable pub signed_of : ℕ → Bool → ℤ
signed_of v true = neg_ℤ (pos v)
signed_of v false = pos v

-- how far z lies above the least number of 32 bits
unfoldable pub rank_of : ℤ → ℕ
rank_of z = nat (z +ℤ pos 2147483648)

-- a table with 0 from a place on
unfoldable pub cleared : List ℤ → ℕ → List ℤ
cleared t i = take i t ++ replicate (length t - i) (pos 0)
