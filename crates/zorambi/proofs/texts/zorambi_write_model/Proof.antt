use mathlib.Core.Path.{sym, ◌∙◌, ap, subst}
use mir.Facts.{to_z-of_z}
use borrow.Author.Rules.{rules}
use Rattle.stab.specs.Entry.{written_packed, WrittenFits}
use Rattle.stab.specs.Write.{write_model}
use Rattle.stab.proofs.Entries.{written_fits, write_near}
use Rattle.zorambi.proofs.texts.zorambi_write_model.Statement.{statement}
use Rattle.zorambi.proofs.texts.zorambi_write_model.Tie as tie

write_model-requires : tie.Need-write_model-requires
write_model-requires c κs = tt

written-requires : tie.Need-written-requires
unfolding write_model
written-requires c κs = subst WrittenFits (sym c.write_model.ensures.0) (written_fits _ _ _ (write_near _ _ _))

shape_of-out : tie.Need-shape_of-out
shape_of-out c = search rules

returns : tie.Need-returns
returns c =
    -- a signed number is kept as bits, and read back from them
    let e = rw (to_z-of_z c.ranges.n) at c.write_model.ensures in
    (c.written.ensures ∙ ap written_packed e.0, e.1)

pub zorambi_write_model_spec : {M : Type 1} → statement M
zorambi_write_model_spec =
    tie.close (tie.spec write_model-requires written-requires shape_of-out returns)
