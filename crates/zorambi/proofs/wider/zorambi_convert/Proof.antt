use mathlib.Core.Path.{sym, ◌∙◌, ap, subst}
use mir.Facts.{to_z-of_z}
use borrow.Author.Rules.{rules}
use Rattle.stab.specs.Entry.{schema_packed, schema_results, SchemaFits}
use Rattle.wide.proofs.ConvertFits.{converted_fits}
use Rattle.zorambi.proofs.wider.zorambi_convert.Statement.{statement}
use Rattle.zorambi.proofs.wider.zorambi_convert.Tie as tie

convert-requires : tie.Need-convert-requires
convert-requires c κs = tt

schema-requires : tie.Need-schema-requires
schema-requires c κs = subst SchemaFits (sym c.convert.ensures.0) (converted_fits _)

shape_of-plain : tie.Need-shape_of-plain
shape_of-plain c = search rules

returns : tie.Need-returns
returns c =
    -- a signed number is kept as bits, and read back from them
    let e = rw (to_z-of_z c.ranges.root, to_z-of_z c.ranges.least) at c.convert.ensures in
    (c.schema.ensures.0 ∙ ap schema_packed e.0, (c.schema.ensures.1 ∙ ap schema_results e.0, e.1))

pub zorambi_convert_spec : {M : Type 1} → statement M
zorambi_convert_spec =
    tie.close (tie.spec convert-requires schema-requires shape_of-plain returns)
