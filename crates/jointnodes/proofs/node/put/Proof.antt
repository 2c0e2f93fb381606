use Rattle.jointnodes.specs.Kept.{placed_node}
use Rattle.joint.specs.Joint.{parent_of, further}
use Rattle.stab.specs.Basic.{nat}
use Rattle.signed.proofs.Signs.{read_back}
use lib.Seq.{sets}
use mathlib.Core.List.{◌∷◌, []}
use mathlib.Core.Path.{◌∙◌, ap}
use Prim.Native.Nat.{◌+◌, ◌*◌}
use native.Mathlib.Omega.{arith}
use borrow.Author.Rules.{rules}
use Rattle.jointnodes.proofs.node.put.Statement.{statement}
use Rattle.jointnodes.proofs.node.put.Tie as tie

number_of-requires : tie.Need-number_of-requires
number_of-requires c κs = search rules

parent-requires : tie.Need-parent-requires
parent-requires c κs =
    (omega (arith, ap nat (read_back _ c.number_of.type_inv ∙ c.number_of.ensures), c.requires.5), omega (arith, c.requires.0))

number_of-requires-2 : tie.Need-number_of-requires-2
number_of-requires-2 c κs = search rules

field-requires : tie.Need-field-requires
field-requires c κs = search rules

field-requires-2 : tie.Need-field-requires-2
field-requires-2 c κs = search rules

field-requires-3 : tie.Need-field-requires-3
field-requires-3 c κs = search rules

number_of-requires-3 : tie.Need-number_of-requires-3
number_of-requires-3 c κs = search rules

onward-requires : tie.Need-onward-requires
onward-requires c κs =
    (omega (arith, ap nat (read_back _ c.number_of-3.type_inv ∙ c.number_of-3.ensures), c.requires.6), omega (arith, c.requires.0))

number_of-requires-4 : tie.Need-number_of-requires-4
number_of-requires-4 c κs = search rules

of-requires : tie.Need-of-requires
of-requires c κs = search rules

of-requires-2 : tie.Need-of-requires-2
of-requires-2 c κs = search rules

overflow_add-d : tie.Need-overflow_add-d
overflow_add-d c = search rules

overflow_mul-d : tie.Need-overflow_mul-d
overflow_mul-d c = search rules

slice_bounds-copy-end : tie.Need-slice_bounds-copy-end
slice_bounds-copy-end c = search rules

copy-requires : tie.Need-copy-requires
copy-requires c κs = search rules

shape_of-table : tie.Need-shape_of-table
shape_of-table c = search rules

returns : tie.Need-returns
unfolding placed_node
returns c =
    let a = c.args in
    c.copy.ensures
    ∙ ap (sets a.table.now (9 * (a.d + a.j)))
    (λ x.
    (read_back _ c.parent.type_inv ∙ c.parent.ensures ∙ ap (parent_of a.d) (read_back _ c.number_of.type_inv ∙ c.number_of.ensures)) x
    ∷ (read_back _ c.number_of-2.type_inv ∙ c.number_of-2.ensures) x
    ∷ (read_back _ c.field.type_inv ∙ c.field.ensures) x
    ∷ (read_back _ c.field-2.type_inv ∙ c.field-2.ensures) x
    ∷ (read_back _ c.field-3.type_inv ∙ c.field-3.ensures) x
    ∷ (read_back _ c.onward.type_inv ∙ c.onward.ensures ∙ ap (further a.d) (read_back _ c.number_of-3.type_inv ∙ c.number_of-3.ensures)) x
    ∷ (read_back _ c.number_of-4.type_inv ∙ c.number_of-4.ensures) x
    ∷ (read_back _ c.of.type_inv ∙ c.of.ensures) x
    ∷ (read_back _ c.of-2.type_inv ∙ c.of-2.ensures) x
    ∷ [])

pub put_spec : {M : Type 1} → statement M
put_spec =
    tie.close
    (tie.spec
    number_of-requires
    parent-requires
    number_of-requires-2
    field-requires
    field-requires-2
    field-requires-3
    number_of-requires-3
    onward-requires
    number_of-requires-4
    of-requires
    of-requires-2
    overflow_add-d
    overflow_mul-d
    slice_bounds-copy-end
    copy-requires
    shape_of-table
    returns)
