use borrow.Author.Rules.{rules}
use native.Mathlib.Omega.{arith}
use Prim.Native.Nat.{◌*◌}
use mathlib.Core.Path.{sym, ◌∙◌}
use lib.ListN.{length-set}
use Rattle.stab.specs.Formula.{row_at}
use Rattle.tidied.specs.Tidied.{new_number}
use Rattle.tidied.proofs.Moves.{renumbered_kind}
use Rattle.signed.proofs.Signs.{read_back}
use Rattle.folds.proofs.Parts.{limit_plain}
use Rattle.folds.proofs.Fronts.{put_columns}
use Rattle.folds.proofs.row.put.Statement.{statement}
use Rattle.folds.proofs.row.put.Tie as tie

overflow_mul-at : tie.Need-overflow_mul-at
overflow_mul-at c = search rules

overflow_mul-from : tie.Need-overflow_mul-from
overflow_mul-from c = search rules

at-requires : tie.Need-at-requires
at-requires c κs = search rules

offset_bounds-table-at : tie.Need-offset_bounds-table-at
offset_bounds-table-at c = search rules

bounds-table-at : tie.Need-bounds-table-at
bounds-table-at c = search rules

left-requires : tie.Need-left-requires
left-requires c κs = search rules

overflow_add-table : tie.Need-overflow_add-table
overflow_add-table c = search rules

offset_bounds-table-at-2 : tie.Need-offset_bounds-table-at-2
offset_bounds-table-at-2 c = search rules

bounds-table-at-2 : tie.Need-bounds-table-at-2
bounds-table-at-2 c = simp length-set (omega arith)

right-requires : tie.Need-right-requires
right-requires c κs = search rules

overflow_add-table-2 : tie.Need-overflow_add-table-2
overflow_add-table-2 c = search rules

offset_bounds-table-at-3 : tie.Need-offset_bounds-table-at-3
offset_bounds-table-at-3 c = search rules

bounds-table-at-3 : tie.Need-bounds-table-at-3
bounds-table-at-3 c = simp length-set (omega arith)

overflow_add-from : tie.Need-overflow_add-from
overflow_add-from c = search rules

at-requires-2 : tie.Need-at-requires-2
at-requires-2 c κs = search rules

overflow_add-at : tie.Need-overflow_add-at
overflow_add-at c = search rules

offset_bounds-table-at-4 : tie.Need-offset_bounds-table-at-4
offset_bounds-table-at-4 c = search rules

bounds-table-at-4 : tie.Need-bounds-table-at-4
bounds-table-at-4 c = search rules

shape_of-table : tie.Need-shape_of-table
shape_of-table c = search rules

returns : tie.Need-returns
unfolding row_at
returns c =
    let a = c.args in
    put_columns a.table.now (4 * a.to) _
    (read_back _ c.at.type_inv ∙ c.at.ensures ∙ sym (renumbered_kind (new_number a.s a.numbers.now) (row_at a.proof.now a.k)))
    (read_back _ c.left.type_inv ∙ c.left.ensures)
    (read_back _ c.right.type_inv ∙ c.right.ensures)
    (read_back _ c.at-2.type_inv ∙ c.at-2.ensures ∙ sym (limit_plain (new_number a.s a.numbers.now) (row_at a.proof.now a.k)))

pub put_spec : {M : Type 1} → statement M
put_spec =
    tie.close
    (tie.spec
    overflow_mul-at
    overflow_mul-from
    at-requires
    offset_bounds-table-at
    bounds-table-at
    left-requires
    overflow_add-table
    offset_bounds-table-at-2
    bounds-table-at-2
    right-requires
    overflow_add-table-2
    offset_bounds-table-at-3
    bounds-table-at-3
    overflow_add-from
    at-requires-2
    overflow_add-at
    offset_bounds-table-at-4
    bounds-table-at-4
    shape_of-table
    returns)
