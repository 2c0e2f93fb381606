use mathlib.Core.Bool.{not}
use borrow.Author.Rules.{rules}
use mathlib.Core.Path.{sym, ◌∙◌, ap}
use lib.Dec.{ltb}
use Rattle.stab.specs.Rule.{unused}
use Rattle.stab.proofs.Bools.{if_true, if_false, asked_false, asked_true}
use Rattle.branch.specs.Lent.{link_fits}
use Rattle.fields.proofs.Answers.{first_fails, second_decides}
use Rattle.fields.proofs.FieldLaws.{at_least_1}
use Rattle.fields.proofs.link_fits.Statement.{statement}
use Rattle.fields.proofs.link_fits.Tie as tie

natural_of-requires : tie.Need-natural_of-requires
natural_of-requires c κs = search rules

returns-then-link : tie.Need-returns-then-link
unfolding link_fits
returns-then-link c = ap (ltb 0) c.natural_of.ensures.0 ∙ at_least_1 _ ∙ sym (if_true _ _ _ c.if-link.true)

is_of-requires : tie.Need-is_of-requires
is_of-requires c κs = search rules

returns-then-not-is_of : tie.Need-returns-then-not-is_of
unfolding link_fits unused
returns-then-not-is_of c = first_fails _ _ (asked_false c.is_of.ensures (ap not c.if-not-is_of.true)) ∙ sym (if_false _ _ _ c.if-link.false)

by_fits-requires : tie.Need-by_fits-requires
by_fits-requires c κs = search rules

returns : tie.Need-returns
unfolding link_fits unused
returns c =
    c.by_fits.ensures
    ∙ second_decides _ _ (asked_true c.is_of.ensures (ap not c.if-not-is_of.false))
    ∙ sym (if_false _ _ _ c.if-link.false)

pub link_fits_spec : {M : Type 1} → statement M
link_fits_spec =
    tie.close
    (tie.spec natural_of-requires returns-then-link is_of-requires returns-then-not-is_of by_fits-requires returns)
