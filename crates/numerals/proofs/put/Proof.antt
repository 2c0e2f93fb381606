use borrow.Author.Rules.{rules}
use mathlib.Core.Path.{sym}
use lib.Seq.{set_out}
use Rattle.numerals.proofs.put.Statement.{statement}
use Rattle.numerals.proofs.put.Tie as tie

offset_bounds-table-k : tie.Need-offset_bounds-table-k
offset_bounds-table-k c = search rules

bounds-table-k : tie.Need-bounds-table-k
bounds-table-k c = search rules

shape_of-table : tie.Need-shape_of-table
shape_of-table c = search rules

returns-then-k-table : tie.Need-returns-then-k-table
returns-then-k-table c = search rules

returns-else-k-table : tie.Need-returns-else-k-table
returns-else-k-table c = let a = c.args in sym (set_out a.table.now a.k a.z c.if-k-table.false)

pub put_spec : {M : Type 1} → statement M
put_spec = tie.close (tie.spec offset_bounds-table-k bounds-table-k shape_of-table returns-then-k-table returns-else-k-table)
