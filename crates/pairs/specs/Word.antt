-- Many tests at once, as the digits of one number.
use Rattle.std.specs.Prelude.{ℕ, zero, suc, ◌+◌, ◌^◌, Bool, true, false, not, eqb, ℤ, if◌then◌else◌}
use Rattle.std.specs.Int.Bits.{bit_and, bit_or}
use Rattle.pairs.specs.Index.{unbiased}

-- digit j of a word of w digits is set where j passes
unfoldable pub word : (ℕ → Bool) → ℕ → ℕ
word p zero = 0
word p (suc w) = if p w then word p w + 2 ^ w else word p w

-- the tests of what x, x + 1, .. x + (w - 1) stand for
unfoldable pub word_at : (ℤ → Bool) → ℕ → ℕ → ℕ
word_at p x w = word (λ j. p (unbiased (x + j))) w

-- two words, digit by digit: by or where `any`, else by and
unfoldable pub combined_word : Bool → ℕ → ℕ → ℕ
combined_word true v w = bit_or v w
combined_word false v w = bit_and v w

-- the digits of a word of n digits: one of them is set where `any`, else all
unfoldable pub whole_word : Bool → ℕ → ℕ → Bool
whole_word true w n = not (eqb w 0)
whole_word false w n = eqb (w + 1) (2 ^ n)
