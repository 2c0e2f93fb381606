-- One number made of four, by which a table finds what may be equal.
use Rattle.std.specs.Prelude.{ℕ, ◌+◌, ◌*◌, ◌%◌}

-- the factors are 2 ^ 30 over the first four powers of 1.1673.., the root of x ^ 5 = x + 1, made odd: where the four run in even steps, as
-- the columns of rows do, the high bits of the sum lie far apart
unfoldable pub spread_of : ℕ → ℕ → ℕ → ℕ → ℕ
spread_of a b c d = ((919847653 * a + 788010381 * b) + (675068701 * c + 578314401 * d)) % 1073741824
