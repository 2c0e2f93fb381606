use mathlib.Core.Path.{ap}
use mathlib.Core.List.{[], ◌∷◌}
use borrow.Author.Rules.{rules}
use lib.IntN.{ℤ}
use lib.ListN.{length}
use mir.Facts.{to_z-of_z}
use Rattle.stab.specs.Text.{bytes, model_heading, pair_heading}
use Rattle.output.proofs.HeadedTexts.{model_headed}
use Rattle.writing.proofs.Writings.{answered}
use Rattle.writing.proofs.write_model.Statement.{statement}
use Rattle.writing.proofs.write_model.Tie as tie

slice_bounds-write_headed-end-2 : tie.Need-slice_bounds-write_headed-end-2
slice_bounds-write_headed-end-2 c = search rules

write_headed-requires : tie.Need-write_headed-requires
write_headed-requires c κs = search rules

shape_of-out : tie.Need-shape_of-out
shape_of-out c = search rules

returns : tie.Need-returns
unfolding bytes model_heading pair_heading
returns c =
    answered (length c.args.out.now)
    (model_headed c.args.n c.args.pairs.now c.args.pair_rows (length c.args.out.now) _ (ap (λ (a : ℤ). a ∷ []) (to_z-of_z c.ranges.n)))
    c.write_headed.ensures

pub write_model_spec : {M : Type 1} → statement M
write_model_spec =
    tie.close
    (tie.spec
    slice_bounds-write_headed-end-2
    write_headed-requires
    shape_of-out
    returns)
