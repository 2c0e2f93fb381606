-- Whole numbers that can be negative, carried as naturals: x stands for x - 65536.
use Rattle.std.specs.Prelude.{ℕ, ◌+◌, ◌≤◌, ℤ, pos, neg_ℤ, ◌-ℤ◌}
use Rattle.stab.specs.Basic.{nat}

unfoldable pub unbiased : ℕ → ℤ
unbiased x = pos x -ℤ pos 65536

-- z can be added to what x stands for
pub record Movable (x : ℕ) (z : ℤ) : Type 0 where
  pub start : x ≤ 131072
  pub up : nat z ≤ 65536
  pub down : nat (neg_ℤ z) ≤ x

-- x stands for one of -9999 .. 19998: "i from b up to n - c", where b and c are -9999..9999 and n is at most 9999
pub record Reached (x : ℕ) : Type 0 where
  pub low : 55537 ≤ x
  pub high : x ≤ 85534

-- x, x + 1, .. x + (k - 1) are reached, and x + k is at most one further
pub record ReachedRange (x k : ℕ) : Type 0 where
  pub low : 55537 ≤ x
  pub high : x + k ≤ 85535

-- x, x + 1, .. x + (w - 1) are reached, as many as a word has digits
pub record ReachedWord (x w : ℕ) : Type 0 where
  pub low : 55537 ≤ x
  pub high : x + w ≤ 85535
  pub some : 1 ≤ w
  pub few : w ≤ 63
