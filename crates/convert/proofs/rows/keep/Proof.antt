use mathlib.Core.Path.{refl}
use borrow.Author.Rules.{rules}
use Rattle.convert.specs.Emission.{image_kept}
use Rattle.convert.proofs.rows.keep.Statement.{statement}
use Rattle.convert.proofs.rows.keep.Tie as tie

overflow_mul-at : tie.Need-overflow_mul-at
overflow_mul-at c = search rules

overflow_cast-images : tie.Need-overflow_cast-images
overflow_cast-images c = search rules

offset_bounds-images-at : tie.Need-offset_bounds-images-at
offset_bounds-images-at c = search rules

bounds-images-at : tie.Need-bounds-images-at
bounds-images-at c = search rules

overflow_cast-images-2 : tie.Need-overflow_cast-images-2
overflow_cast-images-2 c = search rules

overflow_add-images : tie.Need-overflow_add-images
overflow_add-images c = search rules

offset_bounds-images-at-2 : tie.Need-offset_bounds-images-at-2
offset_bounds-images-at-2 c = search rules

bounds-images-at-2 : tie.Need-bounds-images-at-2
bounds-images-at-2 c = search rules

shape_of-images : tie.Need-shape_of-images
shape_of-images c = search rules

returns : tie.Need-returns
unfolding image_kept
returns c = refl

pub keep_spec : {M : Type 1} → statement M
keep_spec =
    tie.close
    (tie.spec
    overflow_mul-at
    overflow_cast-images
    offset_bounds-images-at
    bounds-images-at
    overflow_cast-images-2
    overflow_add-images
    offset_bounds-images-at-2
    bounds-images-at-2
    shape_of-images
    returns)
