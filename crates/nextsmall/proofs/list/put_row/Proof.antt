use Prim.Native.Nat.{◌+◌, ◌*◌}
use native.Mathlib.Omega.{arith}
use mathlib.Core.Path.{◌∙◌}
use mathlib.Core.List.{◌++◌, [], ◌∷◌}
use lib.ListN.{take, drop, length-set}
use borrow.Author.Rules.{rules}
use Rattle.signed.proofs.Signs.{read_back}
use Rattle.nextsmall.proofs.TablePlaces.{row_put}
use Rattle.nextsmall.proofs.list.put_row.Statement.{statement}
use Rattle.nextsmall.proofs.list.put_row.Tie as tie

overflow_mul-at : tie.Need-overflow_mul-at
overflow_mul-at c = search rules

offset_bounds-table-at : tie.Need-offset_bounds-table-at
offset_bounds-table-at c = search rules

bounds-table-at : tie.Need-bounds-table-at
bounds-table-at c = search rules

overflow_add-a : tie.Need-overflow_add-a
overflow_add-a c = search rules

offset_bounds-table-at-2 : tie.Need-offset_bounds-table-at-2
offset_bounds-table-at-2 c = search rules

bounds-table-at-2 : tie.Need-bounds-table-at-2
bounds-table-at-2 c = simp length-set (omega (arith, c.requires.1))

overflow_add-b : tie.Need-overflow_add-b
overflow_add-b c = search rules

offset_bounds-table-at-3 : tie.Need-offset_bounds-table-at-3
offset_bounds-table-at-3 c = search rules

bounds-table-at-3 : tie.Need-bounds-table-at-3
bounds-table-at-3 c = simp length-set (omega (arith, c.requires.1))

overflow_add-c : tie.Need-overflow_add-c
overflow_add-c c = search rules

offset_bounds-table-at-4 : tie.Need-offset_bounds-table-at-4
offset_bounds-table-at-4 c = search rules

bounds-table-at-4 : tie.Need-bounds-table-at-4
bounds-table-at-4 c = simp length-set (omega (arith, c.requires.1))

shape_of-table : tie.Need-shape_of-table
shape_of-table c = search rules

returns : tie.Need-returns
returns c =
    let t = c.args.table.now in
    let w = c.args.w in
    let at = 4 * c.args.r in
    row_put t at _ _ _ _ c.requires.1
    ∙ (λ i. take at t ++ (read_back w.kind c.struct_told-1.given.0.1 i ∷ read_back w.a c.struct_told-2-1.given.1.0.1 i ∷ read_back w.b c.struct_told-3-1.given.1.1.0.1 i ∷ read_back w.c c.struct_told-4-1.given.1.1.1.0.1 i ∷ []) ++ drop (at + 4) t)

pub put_row_spec : {M : Type 1} → statement M
put_row_spec =
    tie.close
    (tie.spec
    overflow_mul-at
    offset_bounds-table-at
    bounds-table-at
    overflow_add-a
    offset_bounds-table-at-2
    bounds-table-at-2
    overflow_add-b
    offset_bounds-table-at-3
    bounds-table-at-3
    overflow_add-c
    offset_bounds-table-at-4
    bounds-table-at-4
    shape_of-table
    returns)
