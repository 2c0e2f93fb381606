use mathlib.Core.Path.{refl}
use borrow.Author.Rules.{rules}
use Rattle.digits.proofs.Overs.{padded_rest}
use Rattle.writing.proofs.finish.Statement.{statement}
use Rattle.writing.proofs.finish.Tie as tie

slice_bounds-clear-count : tie.Need-slice_bounds-clear-count
slice_bounds-clear-count c = search rules

slice_bounds-clear-start : tie.Need-slice_bounds-clear-start
slice_bounds-clear-start c = search rules

slice_bounds-clear-end : tie.Need-slice_bounds-clear-end
slice_bounds-clear-end c = search rules

clear-requires : tie.Need-clear-requires
clear-requires c κs = search rules

shape_of-out : tie.Need-shape_of-out
shape_of-out c = search rules

returns : tie.Need-returns
returns c =
    (refl, padded_rest c.args.bytes c.args.out.now c.clear.new.out c.requires c.clear.ensures)

pub finish_spec : {M : Type 1} → statement M
finish_spec =
    tie.close
    (tie.spec slice_bounds-clear-count slice_bounds-clear-start slice_bounds-clear-end clear-requires shape_of-out returns)
