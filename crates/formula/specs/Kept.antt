-- A table that keeps four numbers for each row or node.
use Rattle.std.specs.Prelude.{ℕ, ◌+◌, ◌*◌, List, set}

-- the table with four numbers kept for i
unfoldable pub kept : List ℕ → ℕ → ℕ → ℕ → ℕ → ℕ → List ℕ
kept t i a b c d = set (set (set (set t (4 * i) a) (4 * i + 1) b) (4 * i + 2) c) (4 * i + 3) d
