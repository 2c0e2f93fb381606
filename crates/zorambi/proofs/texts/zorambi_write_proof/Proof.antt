use mathlib.Core.Path.{sym, ◌∙◌, ap, subst}
use borrow.Author.Rules.{rules}
use Rattle.stab.specs.Entry.{written_packed, WrittenFits}
use Rattle.stab.specs.Write.{write_proof}
use Rattle.stab.proofs.Entries.{written_fits, write_near}
use Rattle.zorambi.proofs.texts.zorambi_write_proof.Statement.{statement}
use Rattle.zorambi.proofs.texts.zorambi_write_proof.Tie as tie

write_proof-requires : tie.Need-write_proof-requires
write_proof-requires c κs = tt

written-requires : tie.Need-written-requires
unfolding write_proof
written-requires c κs = subst WrittenFits (sym c.write_proof.ensures.0) (written_fits _ _ _ (write_near _ _ _))

shape_of-out : tie.Need-shape_of-out
shape_of-out c = search rules

returns : tie.Need-returns
returns c =
    (c.written.ensures ∙ ap written_packed c.write_proof.ensures.0, c.write_proof.ensures.1)

pub zorambi_write_proof_spec : {M : Type 1} → statement M
zorambi_write_proof_spec =
    tie.close (tie.spec write_proof-requires written-requires shape_of-out returns)
