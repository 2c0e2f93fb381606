-- Many tests at once, as the digits of several words of 64 digits each.
use Rattle.std.specs.Prelude.{ℕ, zero, suc, ◌+◌, ◌-◌, ◌/◌, ◌%◌, ◌^◌, Bool, true, false, List, [], ◌∷◌, eqb, get_or}
use Rattle.pairs.specs.Word.{word, combined_word}

-- digit b of m, by its weight 2 ^ b
unfoldable pub digit : ℕ → ℕ → Bool
digit m b = eqb (m / 2 ^ b % 2) 1

-- the tests of 0, 1, .. as the digits of k words
unfoldable pub words : (ℕ → Bool) → ℕ → List ℕ
words p zero = []
words p (suc k) = word p 64 ∷ words (λ j. p (64 + j)) k

-- the digit of such words that stands for j
unfoldable pub digit_of : List ℕ → ℕ → Bool
digit_of ws j = digit (get_or ws (j / 64) 0) (j % 64)

-- a word as it is, or with each digit the other way
unfoldable pub turned_word : Bool → ℕ → ℕ
turned_word true w = w
turned_word false w = 18446744073709551615 - w

-- words and words, digit by digit: by or where `any`, else by and
unfoldable pub combined_words : Bool → List ℕ → List ℕ → List ℕ
combined_words any [] ws = []
combined_words any (v ∷ vs) [] = []
combined_words any (v ∷ vs) (w ∷ ws) = combined_word any v w ∷ combined_words any vs ws
