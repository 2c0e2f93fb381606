use mathlib.Core.Path.{sym, ◌∙◌}
use borrow.Author.Rules.{rules}
use Rattle.stab.specs.Check.{check_as}
use Rattle.stab.proofs.Bools.{if_true, if_false}
use Rattle.tableau.proofs.check.check_as.Statement.{statement}
use Rattle.tableau.proofs.check.check_as.Tie as tie

check_older-requires : tie.Need-check_older-requires
check_older-requires c κs = search rules

returns-then-older : tie.Need-returns-then-older
unfolding check_as
returns-then-older c = c.check_older.ensures.0 ∙ sym (if_true _ _ _ c.if-older.true)

check-requires : tie.Need-check-requires
check-requires c κs = search rules

returns : tie.Need-returns
unfolding check_as
returns c = c.check.ensures.0 ∙ sym (if_false _ _ _ c.if-older.false)

pub check_as_spec : {M : Type 1} → statement M
check_as_spec = tie.close (tie.spec check_older-requires returns-then-older check-requires returns)
