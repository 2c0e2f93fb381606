-- What is worked out once for each row and kept beside the table: four numbers a row.
use Rattle.std.specs.Prelude.{ℕ, ◌+◌, ◌*◌, ◌<◌, ◌≡◌, Bool, true, false, List, get_or}
use Rattle.stab.specs.Formula as F
use Rattle.stab.specs.Formula.{Row, tree, well_formed}

-- 1 for true, 0 for false
unfoldable pub bit : Bool → ℕ
bit true = 1
bit false = 0

-- the four numbers of row r: its size, its depth, and the two facts about mixing
pub record Known (rows : ℕ → Row) (facts : List ℕ) (r : ℕ) : Type 0 where
  pub size : get_or facts (4 * r) 0 ≡ F.size (tree rows r)
  pub depth : get_or facts (4 * r + 1) 0 ≡ F.depth (tree rows r)
  pub loose : get_or facts (4 * r + 2) 0 ≡ bit (F.loose (tree rows r))
  pub fixed : get_or facts (4 * r + 3) 0 ≡ bit (F.fixed (tree rows r))

-- the first n rows are known
abbrev pub AllKnown : (ℕ → Row) → List ℕ → ℕ → Type 0
AllKnown rows facts n = (r : ℕ) → r < n → Known rows facts r

-- the first n rows are well formed
abbrev pub AllFormed : (ℕ → Row) → ℕ → Type 0
AllFormed rows n = (r : ℕ) → r < n → well_formed rows r ≡ true
