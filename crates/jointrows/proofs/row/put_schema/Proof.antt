use Rattle.jointrows.proofs.Rows.{two_blocks, row_last}
use Rattle.jointrows.specs.Kept.{both_schemata, or_of}
use Rattle.joint.specs.Joint.{moved_rows}
use Rattle.tidied.specs.Tidied.{through, new_number, columns}
use Rattle.signed.proofs.Signs.{read_back}
use mir.Facts.{to_z-of_z}
use lib.Seq.{sets}
use lib.ListN.{length}
use lib.IntN.{pos}
use mathlib.Core.List.{[], ◌∷◌, ◌++◌}
use mathlib.Core.Path.{refl, ◌∙◌, ap}
use Prim.Native.Nat.{◌+◌, ◌*◌}
use native.Mathlib.Omega.{arith}
use borrow.Author.Rules.{rules}
use Rattle.jointrows.proofs.row.put_schema.Statement.{statement}
use Rattle.jointrows.proofs.row.put_schema.Tie as tie

put_rows-requires : tie.Need-put_rows-requires
put_rows-requires c κs = search rules

put_rows-requires-2 : tie.Need-put_rows-requires-2
put_rows-requires-2 c κs = search rules

through-requires : tie.Need-through-requires
through-requires c κs = search rules

through-requires-2 : tie.Need-through-requires-2
through-requires-2 c κs = search rules

overflow_add-at : tie.Need-overflow_add-at
overflow_add-at c = search rules

overflow_mul-at : tie.Need-overflow_mul-at
overflow_mul-at c = search rules

slice_bounds-copy-end : tie.Need-slice_bounds-copy-end
slice_bounds-copy-end c = search rules

copy-requires : tie.Need-copy-requires
copy-requires c κs = search rules

overflow_add-at-2 : tie.Need-overflow_add-at-2
overflow_add-at-2 c = search rules

clear-requires : tie.Need-clear-requires
clear-requires c κs = search rules

shape_of-table : tie.Need-shape_of-table
shape_of-table c = search rules

returns : tie.Need-returns
unfolding both_schemata columns or_of
returns c =
    let a = c.args in
    let f₁ = new_number 0 a.first_numbers.now in
    let f₂ = new_number 0 a.second_numbers.now in
    let X = moved_rows f₁ a.first.now a.first_rows in
    let Y = moved_rows f₂ a.second.now a.second_rows in
    let same = c.put_rows-2.auto.table ∙ c.put_rows.auto.table in
    row_last c.put_rows-2.new.table _ _ (X ++ Y) (pos 5 ∷ through f₁ a.first_root ∷ through f₂ a.second_root ∷ pos 0 ∷ []) (4 * (a.first_rows + a.second_rows)) (length a.table.now)
    (two_blocks a.table.now c.put_rows.new.table _ X Y a.first_rows a.second_rows c.put_rows.ensures c.put_rows-2.ensures)
    (c.copy.ensures
    ∙ ap (sets c.put_rows-2.new.table (4 * (a.first_rows + a.second_rows)))
    (λ x.
    pos 5
    ∷ (read_back _ c.through.type_inv ∙ c.through.ensures ∙ ap (through f₁) (to_z-of_z c.ranges.first_root)) x
    ∷ (read_back _ c.through-2.type_inv ∙ c.through-2.ensures ∙ ap (through f₂) (to_z-of_z c.ranges.second_root)) x
    ∷ pos 0
    ∷ []))
    refl
    (omega (arith, c.requires.0, c.requires.1, same))
    same
    c.clear.ensures

pub put_schema_spec : {M : Type 1} → statement M
put_schema_spec =
    tie.close
    (tie.spec
    put_rows-requires
    put_rows-requires-2
    through-requires
    through-requires-2
    overflow_add-at
    overflow_mul-at
    slice_bounds-copy-end
    copy-requires
    overflow_add-at-2
    clear-requires
    shape_of-table
    returns)
