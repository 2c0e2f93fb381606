-- Links between rows of one place, each to the one before it.
use Rattle.std.specs.Prelude.{ℕ, ◌-◌, ◌/◌, ◌<◌, ◌≤◌, ◌≡◌, List, get_or}
use Rattle.stab.specs.Formula.{Row}
use Rattle.stab.specs.Check.{stands_before}
use Rattle.signed.specs.Numbers.{rank_of}
use Rattle.formula.specs.Spread.{spread_of}

-- where rows with the columns of w are looked for: 1,024 places, as many as a record can have rows, in a table that is soon cleared
unfoldable pub place_of : Row → ℕ
place_of w = spread_of (rank_of w.kind) (rank_of w.a) (rank_of w.b) (rank_of w.c) / 1048576

-- a row with the columns of w stands below m just if one stands below v, and the last row below v has the place of w
pub record Leads (rows : ℕ → Row) (w : Row) (m v : ℕ) : Type 0 where
  pub within : v ≤ m
  pub of_place : 0 < v → place_of (rows (v - 1)) ≡ place_of w
  pub same : stands_before rows m w ≡ stands_before rows v w

-- the tables after n rows: a place leads to its last row, and a row to the one before it of its place
pub record Linked (rows : ℕ → Row) (next heads : List ℕ) (n : ℕ) : Type 0 where
  pub first : (w : Row) → Leads rows w n (get_or heads (place_of w) 0)
  pub onward : (q : ℕ) → q < n → (w : Row) → place_of (rows q) ≡ place_of w → Leads rows w q (get_or next q 0)
