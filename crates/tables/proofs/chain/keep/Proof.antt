use borrow.Author.Rules.{rules}
use mathlib.Core.Path.{refl}
use Rattle.tables.proofs.chain.keep.Statement.{statement}
use Rattle.tables.proofs.chain.keep.Tie as tie

offset_bounds-heads-h : tie.Need-offset_bounds-heads-h
offset_bounds-heads-h c = search rules

bounds-heads-h : tie.Need-bounds-heads-h
bounds-heads-h c = search rules

offset_bounds-next-r : tie.Need-offset_bounds-next-r
offset_bounds-next-r c = search rules

bounds-next-r : tie.Need-bounds-next-r
bounds-next-r c = search rules

overflow_add-heads : tie.Need-overflow_add-heads
overflow_add-heads c = search rules

overflow_cast-heads : tie.Need-overflow_cast-heads
overflow_cast-heads c = search rules

offset_bounds-heads-h-2 : tie.Need-offset_bounds-heads-h-2
offset_bounds-heads-h-2 c = search rules

bounds-heads-h-2 : tie.Need-bounds-heads-h-2
bounds-heads-h-2 c = search rules

shape_of-next : tie.Need-shape_of-next
shape_of-next c = search rules

shape_of-heads : tie.Need-shape_of-heads
shape_of-heads c = search rules

returns : tie.Need-returns
returns c = (refl, refl)

pub keep_spec : {M : Type 1} → statement M
keep_spec =
    tie.close
    (tie.spec
    offset_bounds-heads-h
    bounds-heads-h
    offset_bounds-next-r
    bounds-next-r
    overflow_add-heads
    overflow_cast-heads
    offset_bounds-heads-h-2
    bounds-heads-h-2
    shape_of-next
    shape_of-heads
    returns)
