use mathlib.Core.Path.{sym, ◌∙◌, ap, subst}
use borrow.Author.Rules.{rules}
use Rattle.stab.specs.Entry.{schema_packed, schema_results, SchemaFits}
use Rattle.stab.proofs.Entries.{schema_fits}
use Rattle.zorambi.proofs.texts.zorambi_read_schema.Statement.{statement}
use Rattle.zorambi.proofs.texts.zorambi_read_schema.Tie as tie

read_schema-requires : tie.Need-read_schema-requires
read_schema-requires c κs = tt

schema-requires : tie.Need-schema-requires
schema-requires c κs = subst SchemaFits (sym c.read_schema.ensures.0) (schema_fits _ _)

shape_of-table : tie.Need-shape_of-table
shape_of-table c = search rules

returns : tie.Need-returns
returns c =
    let e = c.read_schema.ensures in
    (c.schema.ensures.0 ∙ ap schema_packed e.0, (c.schema.ensures.1 ∙ ap schema_results e.0, e.1))

pub zorambi_read_schema_spec : {M : Type 1} → statement M
zorambi_read_schema_spec =
    tie.close (tie.spec read_schema-requires schema-requires shape_of-table returns)
