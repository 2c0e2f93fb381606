-- Assignments to some pairs as numbers: the digits of a number, the first pair's the most significant. The search goes by these.
use Rattle.std.specs.Prelude.{ℕ, ◌/◌, ◌%◌, ◌^◌, Bool, List, [], ◌∷◌, eqb, length, if◌then◌else◌}
use Rattle.std.proofs.Math.Option.{Option, none, some}
use Rattle.stab.specs.Basic.{first}
use Rattle.stab.specs.Occurs.{Wire}

-- the pairs that are true in assignment number m
unfoldable pub numbered : List Wire → ℕ → List Wire
numbered [] m = []
numbered (w ∷ ws) m = if eqb (m / 2 ^ length ws % 2) 1 then w ∷ numbered ws m else numbered ws m

-- the least number below k that passes
unfoldable pub least_below : (ℕ → Bool) → ℕ → Option ℕ
least_below p k = first (λ m. if p m then some m else none) k

-- the least number below k that passes, or k
unfoldable pub least_or : Option ℕ → ℕ → ℕ
least_or none k = k
least_or (some m) k = m
