-- A hash chain: rows in buckets, each row linked to the one before it in its bucket.
use Rattle.std.specs.Prelude.{ℕ, zero, suc, ◌+◌, ◌*◌, ◌/◌, ◌<◌, ◌≡◌, List, eqb, length, get_or, set, if◌then◌else◌}

-- the bucket of a hash below 2 ^ 30, one of m: by its high bits
unfoldable pub bucket_of : ℕ → ℕ → ℕ
bucket_of m hash = hash * m / 1073741824

-- one more than the last row below n in bucket h, 0 where there is none
unfoldable pub latest : (ℕ → ℕ) → ℕ → ℕ → ℕ
latest bucket h zero = zero
latest bucket h (suc n) = if eqb (bucket n) h then suc n else latest bucket h n

-- the tables after n rows: each bucket leads to its last row, and each row to the one before it in its bucket, by one more than its
-- number; 0 leads to none
pub record Chained (bucket next : ℕ → ℕ) (heads : List ℕ) (n : ℕ) : Type 0 where
  pub first : (h : ℕ) → h < length heads → get_or heads h 0 ≡ latest bucket h n
  pub onward : (q : ℕ) → q < n → next q ≡ latest bucket (bucket q) q

-- the two tables with n rows put into their buckets, one after another
unfoldable pub next_with : (ℕ → ℕ) → List ℕ → ℕ → List ℕ
next_with bucket next zero = next
next_with bucket next (suc n) = set (next_with bucket next n) n (latest bucket (bucket n) n)

unfoldable pub heads_with : (ℕ → ℕ) → List ℕ → ℕ → List ℕ
heads_with bucket heads zero = heads
heads_with bucket heads (suc n) = set (heads_with bucket heads n) (bucket n) (n + 1)
