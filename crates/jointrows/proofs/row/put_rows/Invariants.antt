use Rattle.std.proofs.Common.{◌≡◌, ◌+◌, ◌*◌, ◌++◌, take}
use Rattle.joint.specs.Joint.{moved_rows}
use Rattle.tidied.specs.Tidied.{new_number}
use Rattle.jointrows.proofs.row.put_rows.Given as goal

abbrev pub invariant-loop-k : goal.invariant-loop-k
invariant-loop-k l = take (4 * (l.at + l.k)) l.table ≡ take (4 * l.at) l.initial.table ++ moved_rows (new_number 0 l.numbers) l.rows l.k
