use Prim.Native.Nat.{◌+◌, ◌*◌}
use native.Mathlib.Omega.{arith}
use mathlib.Core.Path.{◌∙◌}
use lib.ListN.{set, length-set}
use mir.Facts.{to_z-of_z}
use borrow.Author.Rules.{rules}
use Rattle.signed.proofs.Signs.{read_back}
use Rattle.convert.proofs.WriteLaws.{four_stores}
use Rattle.convert.proofs.rows.put.Statement.{statement}
use Rattle.convert.proofs.rows.put.Tie as tie

overflow_mul-at : tie.Need-overflow_mul-at
overflow_mul-at c = search rules

of-requires : tie.Need-of-requires
of-requires c κs = search rules

offset_bounds-t-at : tie.Need-offset_bounds-t-at
offset_bounds-t-at c = search rules

bounds-t-at : tie.Need-bounds-t-at
bounds-t-at c = search rules

overflow_add-a : tie.Need-overflow_add-a
overflow_add-a c = search rules

offset_bounds-t-at-2 : tie.Need-offset_bounds-t-at-2
offset_bounds-t-at-2 c = search rules

bounds-t-at-2 : tie.Need-bounds-t-at-2
bounds-t-at-2 c = simp length-set (omega arith)

overflow_add-b : tie.Need-overflow_add-b
overflow_add-b c = search rules

offset_bounds-t-at-3 : tie.Need-offset_bounds-t-at-3
offset_bounds-t-at-3 c = search rules

bounds-t-at-3 : tie.Need-bounds-t-at-3
bounds-t-at-3 c = simp length-set (omega arith)

overflow_add-c : tie.Need-overflow_add-c
overflow_add-c c = search rules

offset_bounds-t-at-4 : tie.Need-offset_bounds-t-at-4
offset_bounds-t-at-4 c = search rules

bounds-t-at-4 : tie.Need-bounds-t-at-4
bounds-t-at-4 c = search rules

shape_of-t : tie.Need-shape_of-t
shape_of-t c = search rules

returns : tie.Need-returns
returns c =
    (λ i. set (set (set (set c.args.t.now (4 * c.args.s) ((read_back _ c.of.type_inv ∙ c.of.ensures) i)) (4 * c.args.s + 1) (to_z-of_z c.ranges.a i)) (4 * c.args.s + 2) (to_z-of_z c.ranges.b i)) (4 * c.args.s + 3) (to_z-of_z c.ranges.c i))
    ∙ four_stores c.args.t.now c.args.s c.args.kind c.args.a c.args.b c.args.c

pub put_spec : {M : Type 1} → statement M
put_spec =
    tie.close
    (tie.spec
    overflow_mul-at
    of-requires
    offset_bounds-t-at
    bounds-t-at
    overflow_add-a
    offset_bounds-t-at-2
    bounds-t-at-2
    overflow_add-b
    offset_bounds-t-at-3
    bounds-t-at-3
    overflow_add-c
    offset_bounds-t-at-4
    bounds-t-at-4
    shape_of-t
    returns)
