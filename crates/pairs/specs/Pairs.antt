-- Pairs in range and in order, and the one number that stands for a pair.
use Rattle.std.specs.Prelude.{ℕ, ◌+◌, ◌*◌, ◌<◌, ◌≡◌, true, List, ltb, ℤ, pos, ◌+ℤ◌}
use Rattle.stab.specs.Basic.{nat, count}
use Rattle.stab.specs.Model.{pair_symbol, pair_index, pair_in_range, pair_follows}

-- the first n pairs are in range
abbrev pub AllInRange : List ℤ → ℕ → Type 0
AllInRange t n = (k : ℕ) → k < n → pair_in_range t k ≡ true

-- the first n pairs are in range and strictly ascending
pub record Sorted (t : List ℤ) (n : ℕ) : Type 0 where
  pub in_range : AllInRange t n
  pub follows : (k : ℕ) → k < n → pair_follows t k ≡ true

-- pair k as one number, whose order is that of pairs in range
unfoldable pub key_at : List ℤ → ℕ → ℕ
key_at t k = nat (pair_symbol t k) * 131072 + nat (pair_index t k +ℤ pos 65536)

-- how many of the first n pairs have a key smaller than this one
unfoldable pub keys_below : List ℤ → ℕ → ℕ → ℕ
keys_below t n key = count (λ k. ltb (key_at t k) key) n
