-- 02, No. 2: a search in a list that ends at the first member not below the number sought.
use Rattle.std.specs.Prelude.{ℕ, zero, suc, Bool, false, List, [], ◌∷◌, ℤ, if◌then◌else◌}
use Rattle.std.specs.Int.Signed.{lt_z}
use Rattle.stab.specs.Basic.{eq_z}

-- "it is to end at the first member not below the row sought, in any list, and give that place, or the list's length if there is none"
unfoldable pub place_of : ℤ → List ℤ → ℕ
place_of z [] = 0
place_of z (x ∷ xs) = if lt_z x z then suc (place_of z xs) else 0

-- z stands at place i
unfoldable pub stands_at : ℤ → List ℤ → ℕ → Bool
stands_at z [] i = false
stands_at z (x ∷ xs) zero = eq_z z x
stands_at z (x ∷ xs) (suc i) = stands_at z xs i
