use native.Mathlib.Omega.{arith}
use mathlib.Core.Path.{refl}
use borrow.Author.Rules.{rules}
use lib.ListN.{length-set}
use Rattle.classes.specs.Key.{forms_with, sides_with}
use Rattle.classes.proofs.chain.keep.Statement.{statement}
use Rattle.classes.proofs.chain.keep.Tie as tie

overflow_mul-i : tie.Need-overflow_mul-i
overflow_mul-i c = search rules

overflow_cast-forms : tie.Need-overflow_cast-forms
overflow_cast-forms c = search rules

offset_bounds-forms-i : tie.Need-offset_bounds-forms-i
offset_bounds-forms-i c = search rules

bounds-forms-i : tie.Need-bounds-forms-i
bounds-forms-i c = search rules

overflow_cast-forms-2 : tie.Need-overflow_cast-forms-2
overflow_cast-forms-2 c = search rules

overflow_add-forms : tie.Need-overflow_add-forms
overflow_add-forms c = search rules

offset_bounds-forms-i-2 : tie.Need-offset_bounds-forms-i-2
offset_bounds-forms-i-2 c = search rules

bounds-forms-i-2 : tie.Need-bounds-forms-i-2
bounds-forms-i-2 c = simp length-set (omega arith)

overflow_cast-forms-3 : tie.Need-overflow_cast-forms-3
overflow_cast-forms-3 c = search rules

overflow_add-forms-2 : tie.Need-overflow_add-forms-2
overflow_add-forms-2 c = search rules

offset_bounds-forms-i-3 : tie.Need-offset_bounds-forms-i-3
offset_bounds-forms-i-3 c = search rules

bounds-forms-i-3 : tie.Need-bounds-forms-i-3
bounds-forms-i-3 c = simp length-set (omega arith)

offset_bounds-heads-h : tie.Need-offset_bounds-heads-h
offset_bounds-heads-h c = search rules

bounds-heads-h : tie.Need-bounds-heads-h
bounds-heads-h c = search rules

overflow_cast-forms-4 : tie.Need-overflow_cast-forms-4
overflow_cast-forms-4 c = omega (arith, c.slice_known-1.given c.args.h)

overflow_add-forms-3 : tie.Need-overflow_add-forms-3
overflow_add-forms-3 c = search rules

offset_bounds-forms-i-4 : tie.Need-offset_bounds-forms-i-4
offset_bounds-forms-i-4 c = search rules

bounds-forms-i-4 : tie.Need-bounds-forms-i-4
bounds-forms-i-4 c = search rules

overflow_mul-k : tie.Need-overflow_mul-k
overflow_mul-k c = search rules

overflow_cast-sides : tie.Need-overflow_cast-sides
overflow_cast-sides c = search rules

offset_bounds-sides-k : tie.Need-offset_bounds-sides-k
offset_bounds-sides-k c = search rules

bounds-sides-k : tie.Need-bounds-sides-k
bounds-sides-k c = search rules

overflow_cast-sides-2 : tie.Need-overflow_cast-sides-2
overflow_cast-sides-2 c = search rules

overflow_add-sides : tie.Need-overflow_add-sides
overflow_add-sides c = search rules

offset_bounds-sides-k-2 : tie.Need-offset_bounds-sides-k-2
offset_bounds-sides-k-2 c = search rules

bounds-sides-k-2 : tie.Need-bounds-sides-k-2
bounds-sides-k-2 c = search rules

overflow_add-heads : tie.Need-overflow_add-heads
overflow_add-heads c = search rules

overflow_cast-heads : tie.Need-overflow_cast-heads
overflow_cast-heads c = search rules

offset_bounds-heads-h-2 : tie.Need-offset_bounds-heads-h-2
offset_bounds-heads-h-2 c = search rules

bounds-heads-h-2 : tie.Need-bounds-heads-h-2
bounds-heads-h-2 c = search rules

shape_of-forms : tie.Need-shape_of-forms
shape_of-forms c = search rules

shape_of-sides : tie.Need-shape_of-sides
shape_of-sides c = search rules

shape_of-heads : tie.Need-shape_of-heads
shape_of-heads c = search rules

returns : tie.Need-returns
unfolding forms_with sides_with
returns c = (refl, (refl, refl))

pub keep_spec : {M : Type 1} → statement M
keep_spec =
    tie.close
    (tie.spec
    overflow_mul-i
    overflow_cast-forms
    offset_bounds-forms-i
    bounds-forms-i
    overflow_cast-forms-2
    overflow_add-forms
    offset_bounds-forms-i-2
    bounds-forms-i-2
    overflow_cast-forms-3
    overflow_add-forms-2
    offset_bounds-forms-i-3
    bounds-forms-i-3
    offset_bounds-heads-h
    bounds-heads-h
    overflow_cast-forms-4
    overflow_add-forms-3
    offset_bounds-forms-i-4
    bounds-forms-i-4
    overflow_mul-k
    overflow_cast-sides
    offset_bounds-sides-k
    bounds-sides-k
    overflow_cast-sides-2
    overflow_add-sides
    offset_bounds-sides-k-2
    bounds-sides-k-2
    overflow_add-heads
    overflow_cast-heads
    offset_bounds-heads-h-2
    bounds-heads-h-2
    shape_of-forms
    shape_of-sides
    shape_of-heads
    returns)
