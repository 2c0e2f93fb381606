-- Assignments by number, to pairs that are given by their keys.
use Rattle.std.specs.Prelude.{ℕ, suc, ◌+◌, ◌%◌, ◌≤◌, ◌<◌, min, ◌≡◌, false, List, [], ◌∷◌, eqb, ℤ, length, take, if◌then◌else◌}
use Rattle.stab.specs.Formula.{Formula, row_at, tree}
use Rattle.stab.specs.Meaning.{Assignment, value}
use Rattle.stab.specs.Occurs.{occurring}
use Rattle.formula.specs.Facts.{AllFormed}
use Rattle.formula.specs.Rows.{Passed}
use Rattle.found.specs.Keys.{key_of, keys_of}
use Rattle.assigned.specs.Words.{digit, words}

-- where a key stands, or how many there are
unfoldable pub place_of : ℕ → List ℕ → ℕ
place_of key [] = 0
place_of key (k ∷ ks) = if eqb k key then 0 else suc (place_of key ks)

-- assignment number m to the pairs with these keys: its digits, the first pair's the most significant; every other pair is false
unfoldable pub keyed : List ℕ → ℕ → Assignment
keyed [] m s z = false
keyed (k ∷ ks) m s z = if eqb k (key_of (record { symbol = s; index = z })) then digit m (length ks) else keyed ks m s z

-- the value of f at n and i under assignment number m, m + 1, .. m + 4095
unfoldable pub values_from : List ℕ → ℕ → ℕ → Formula → ℤ → List ℕ
values_from keys m n f i = words (λ j. value (keyed keys (m + j)) n f i) 64

-- what the values of a row ask: the rows up to it are well formed, n is not over 9999, there are at most 16 keys, and the first
-- assignment starts a word
pub record Evaluable (schema : List ℤ) (f n : ℕ) (keys : List ℕ) (count m : ℕ) : Type 0 where
  pub row : f < 1024
  pub formed : AllFormed (row_at schema) (f + 1)
  pub width : n ≤ 9999
  pub few : count ≤ 16
  pub held : count ≤ length keys
  pub whole : m % 64 ≡ 0
  pub start : m ≤ 65536

-- how many values of i are looked at, of `left`: the first stands for all where no literal on i stands in the body
unfoldable pub looked_at : ℕ → ℕ → ℕ
looked_at loose left = if eqb loose 0 then min 1 left else left

-- what the search asks: the rows up to the root passed, and the keys are those of the pairs that occur, at most 16
pub record Searchable (schema : List ℤ) (facts : List ℕ) (root n : ℕ) (keys : List ℕ) (count : ℕ) : Type 0 where
  pub row : root < 1024
  pub passed : Passed (row_at schema) facts (root + 1)
  pub width : n ≤ 9999
  pub few : count ≤ 16
  pub counted : count ≡ length (occurring n (tree (row_at schema) root))
  pub listed : take count keys ≡ keys_of (occurring n (tree (row_at schema) root))
