-- What node rows take, and when they can be written.
use Rattle.std.specs.Prelude.{ℕ, zero, suc, ◌+◌, ◌*◌, ◌≤◌, ◌≡◌, true, List, ℤ, length, take, drop}
use Rattle.stab.specs.Basic.{all_of, nat}
use Rattle.stab.specs.Node.{set_start}
use Rattle.stab.specs.Text.{five_digits}
use Rattle.stab.specs.Write.{nodes_writable}
use Rattle.digits.specs.Over.{spread}

-- the bytes of the seven numbers of k nodes, with a byte after each
unfoldable pub columns_width : List ℤ → ℕ → ℕ
columns_width nodes zero = 0
columns_width nodes (suc k) = columns_width nodes k + length (spread (take 7 (drop (9 * k) nodes)))

-- k nodes stand in the table, their sets follow one another among the members, and all can be written
pub record NodesWritable (nodes : List ℤ) (k : ℕ) (members : List ℤ) : Type 0 where
  pub held : 9 * k ≤ length nodes
  pub sets : nodes_writable nodes k ≡ true
  pub inside : nat (set_start nodes k) ≤ length members
  pub digits : all_of five_digits (take (nat (set_start nodes k)) members) ≡ true
