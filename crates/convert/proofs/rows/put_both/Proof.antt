use Prim.Native.Nat.{◌+◌}
use mathlib.Core.List.{[], ◌∷◌}
use mathlib.Core.Path.{refl}
use borrow.Author.Rules.{rules}
use Rattle.convert.specs.Emission.{parts_row, both_rows}
use Rattle.convert.proofs.WriteLaws.{then_written}
use Rattle.convert.proofs.rows.put_both.Statement.{statement}
use Rattle.convert.proofs.rows.put_both.Tie as tie

put_parts-requires : tie.Need-put_parts-requires
put_parts-requires c κs = search rules

overflow_add-s : tie.Need-overflow_add-s
overflow_add-s c = search rules

put_parts-requires-2 : tie.Need-put_parts-requires-2
put_parts-requires-2 c κs = search rules

shape_of-t : tie.Need-shape_of-t
shape_of-t c = search rules

returns : tie.Need-returns
unfolding both_rows
returns c =
    let a = c.args in
    then_written _ a.s (a.s + 1) (parts_row a.kind a.f.own a.g.own ∷ []) (parts_row a.turned a.f.negated a.g.negated ∷ []) c.put_parts.ensures c.put_parts-2.ensures refl refl

pub put_both_spec : {M : Type 1} → statement M
put_both_spec =
    tie.close (tie.spec put_parts-requires overflow_add-s put_parts-requires-2 shape_of-t returns)
