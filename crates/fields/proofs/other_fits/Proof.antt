use borrow.Author.Rules.{rules}
use mathlib.Core.Path.{sym, ◌∙◌}
use Rattle.stab.specs.Rule.{unused}
use Rattle.stab.proofs.Bools.{if_true, if_false}
use Rattle.branch.specs.Lent.{other_fits}
use Rattle.fields.proofs.other_fits.Statement.{statement}
use Rattle.fields.proofs.other_fits.Tie as tie

overflow_add-h : tie.Need-overflow_add-h
overflow_add-h c = search rules

is_below-requires : tie.Need-is_below-requires
is_below-requires c κs = search rules

returns-then-used : tie.Need-returns-then-used
unfolding other_fits
returns-then-used c = c.is_below.ensures ∙ sym (if_true _ _ _ c.if-used.true)

is_of-requires : tie.Need-is_of-requires
is_of-requires c κs = search rules

returns : tie.Need-returns
unfolding other_fits unused
returns c = c.is_of.ensures ∙ sym (if_false _ _ _ c.if-used.false)

pub other_fits_spec : {M : Type 1} → statement M
other_fits_spec = tie.close (tie.spec overflow_add-h is_below-requires returns-then-used is_of-requires returns)
