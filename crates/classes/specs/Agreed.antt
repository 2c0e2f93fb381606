-- What is remembered of comparisons, so that parts that rows share are gone down once: one number a row, 0 at first.
use Rattle.std.specs.Prelude.{ℕ, ◌+◌, ◌-◌, ◌≡◌, true, List, eqb, ltb, get_or, set, if◌then◌else◌}
use Rattle.stab.specs.Formula.{Row, tree}
use Rattle.classes.specs.Class.{akin}

-- the row that stands for row r: one that it was found to agree with, up to their shifts, or else itself
unfoldable pub stand_in : List ℕ → ℕ → ℕ
stand_in agreed r = if eqb (get_or agreed r 0) 0 then r else get_or agreed r 0 - 1

-- rows f and g agree: of the rows that stood for them the smaller one stands for both
unfoldable pub united_in : List ℕ → ℕ → ℕ → List ℕ
united_in agreed f g =
    let p = stand_in agreed f in
    let q = stand_in agreed g in
    if ltb p q then set agreed g (p + 1) else set agreed f (q + 1)

-- what is remembered is so
pub record Remembers (rows : ℕ → Row) (agreed : List ℕ) : Type 0 where
  pub found : (r : ℕ) → akin (tree rows r) (tree rows (stand_in agreed r)) ≡ true
