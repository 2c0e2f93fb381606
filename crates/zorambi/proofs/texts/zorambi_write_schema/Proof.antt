use mathlib.Core.Path.{sym, ◌∙◌, ap, subst}
use mir.Facts.{to_z-of_z}
use borrow.Author.Rules.{rules}
use Rattle.stab.specs.Entry.{written_packed, WrittenFits}
use Rattle.stab.specs.Write.{write_schema}
use Rattle.stab.proofs.Entries.{written_fits, write_near}
use Rattle.zorambi.proofs.texts.zorambi_write_schema.Statement.{statement}
use Rattle.zorambi.proofs.texts.zorambi_write_schema.Tie as tie

write_schema-requires : tie.Need-write_schema-requires
write_schema-requires c κs = tt

written-requires : tie.Need-written-requires
unfolding write_schema
written-requires c κs = subst WrittenFits (sym c.write_schema.ensures.0) (written_fits _ _ _ (write_near _ _ _))

shape_of-out : tie.Need-shape_of-out
shape_of-out c = search rules

returns : tie.Need-returns
returns c =
    -- a signed number is kept as bits, and read back from them
    let e = rw (to_z-of_z c.ranges.root, to_z-of_z c.ranges.least) at c.write_schema.ensures in
    (c.written.ensures ∙ ap written_packed e.0, e.1)

pub zorambi_write_schema_spec : {M : Type 1} → statement M
zorambi_write_schema_spec =
    tie.close (tie.spec write_schema-requires written-requires shape_of-out returns)
