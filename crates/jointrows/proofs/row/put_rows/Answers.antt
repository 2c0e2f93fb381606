use Rattle.std.proofs.Common.{◌*◌, take, arith}
use Rattle.tidied.specs.Tidied.{new_number}
use Rattle.jointrows.proofs.Rows.{rows_none, rows_more}
use Rattle.jointrows.proofs.row.put_rows.Goals as goal

pub loop-k-init : goal.loop-k-init
loop-k-init c = let a = c.args in rows_none a.table.now a.rows.now a.at (new_number 0 a.numbers.now)

pub loop-k-preserved : goal.loop-k-preserved
loop-k-preserved c =
    let l = c.loop-k in
    let a = c.args in
    rows_more l.table _ a.rows.now (take (4 * a.at) a.table.now) a.at l.k (new_number 0 a.numbers.now) l.invariant (omega (arith, c.requires.2)) c.put.ensures
