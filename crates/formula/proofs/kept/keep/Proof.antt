use native.Mathlib.Omega.{arith}
use mathlib.Core.Path.{refl}
use lib.ListN.{length-set}
use Rattle.formula.specs.Kept.{kept}
use borrow.Author.Rules.{rules}
use Rattle.formula.proofs.kept.keep.Statement.{statement}
use Rattle.formula.proofs.kept.keep.Tie as tie

overflow_mul-at : tie.Need-overflow_mul-at
overflow_mul-at c = search rules

offset_bounds-t-at : tie.Need-offset_bounds-t-at
offset_bounds-t-at c = search rules

bounds-t-at : tie.Need-bounds-t-at
bounds-t-at c = search rules

overflow_add-t : tie.Need-overflow_add-t
overflow_add-t c = search rules

offset_bounds-t-at-2 : tie.Need-offset_bounds-t-at-2
offset_bounds-t-at-2 c = search rules

bounds-t-at-2 : tie.Need-bounds-t-at-2
bounds-t-at-2 c = simp length-set (omega arith)

overflow_add-t-2 : tie.Need-overflow_add-t-2
overflow_add-t-2 c = search rules

offset_bounds-t-at-3 : tie.Need-offset_bounds-t-at-3
offset_bounds-t-at-3 c = search rules

bounds-t-at-3 : tie.Need-bounds-t-at-3
bounds-t-at-3 c = simp length-set (omega arith)

overflow_add-t-3 : tie.Need-overflow_add-t-3
overflow_add-t-3 c = search rules

offset_bounds-t-at-4 : tie.Need-offset_bounds-t-at-4
offset_bounds-t-at-4 c = search rules

bounds-t-at-4 : tie.Need-bounds-t-at-4
bounds-t-at-4 c = search rules

shape_of-t : tie.Need-shape_of-t
shape_of-t c = search rules

returns : tie.Need-returns
unfolding kept
returns c = refl

pub keep_spec : {M : Type 1} → statement M
keep_spec =
    tie.close
    (tie.spec
    overflow_mul-at
    offset_bounds-t-at
    bounds-t-at
    overflow_add-t
    offset_bounds-t-at-2
    bounds-t-at-2
    overflow_add-t-2
    offset_bounds-t-at-3
    bounds-t-at-3
    overflow_add-t-3
    offset_bounds-t-at-4
    bounds-t-at-4
    shape_of-t
    returns)
