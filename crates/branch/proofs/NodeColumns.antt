-- Where the nine numbers of a node stand in the table.
use Prim.Native.Nat.{ℕ, zero, suc, ◌+◌, ◌*◌, ◌<◌}
use native.Mathlib.Omega.{arith}
use mathlib.Core.Path.{◌≡◌, refl, ap}
use mathlib.Core.List.{List}
use lib.IntN.{ℤ, pos}
use lib.ListN.{get_or}
use Rattle.stab.specs.Node.{node_at}
use Rattle.branch.specs.NodeColumn.{node_column}

pub column_at : (t : List ℤ) (j k : ℕ) → k < 9 → get_or t (9 * j + k) (pos 0) ≡ node_column (node_at t j) k
unfolding node_at
column_at t j zero h = ap (λ (i : ℕ). get_or t i (pos 0)) (omega arith)
column_at t j (suc zero) h = refl
column_at t j (suc (suc zero)) h = refl
column_at t j (suc (suc (suc zero))) h = refl
column_at t j (suc (suc (suc (suc zero)))) h = refl
column_at t j (suc (suc (suc (suc (suc zero))))) h = refl
column_at t j (suc (suc (suc (suc (suc (suc zero)))))) h = refl
column_at t j (suc (suc (suc (suc (suc (suc (suc zero))))))) h = refl
column_at t j (suc (suc (suc (suc (suc (suc (suc (suc zero)))))))) h = refl
column_at t j (suc (suc (suc (suc (suc (suc (suc (suc (suc k))))))))) h = absurd (omega arith)
