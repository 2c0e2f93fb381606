use mathlib.Core.Path.{ap₂}
use mathlib.Core.List.{[], ◌∷◌}
use borrow.Author.Rules.{rules}
use lib.IntN.{ℤ}
use lib.ListN.{length}
use mir.Facts.{to_z-of_z}
use Rattle.stab.specs.Text.{bytes, schema_heading, row_heading}
use Rattle.output.proofs.HeadedTexts.{schema_headed}
use Rattle.writing.proofs.Writings.{answered}
use Rattle.writing.proofs.write_schema.Statement.{statement}
use Rattle.writing.proofs.write_schema.Tie as tie

slice_bounds-write_headed-end-2 : tie.Need-slice_bounds-write_headed-end-2
slice_bounds-write_headed-end-2 c = search rules

write_headed-requires : tie.Need-write_headed-requires
write_headed-requires c κs = search rules

shape_of-out : tie.Need-shape_of-out
shape_of-out c = search rules

returns : tie.Need-returns
unfolding bytes schema_heading row_heading
returns c =
    answered (length c.args.out.now)
    (schema_headed c.args.table.now c.args.rows c.args.root c.args.least (length c.args.out.now) _
    (ap₂ (λ (a b : ℤ). a ∷ b ∷ []) (to_z-of_z c.ranges.root) (to_z-of_z c.ranges.least)))
    c.write_headed.ensures

pub write_schema_spec : {M : Type 1} → statement M
write_schema_spec =
    tie.close
    (tie.spec
    slice_bounds-write_headed-end-2
    write_headed-requires
    shape_of-out
    returns)
