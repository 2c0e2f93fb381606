use mathlib.Core.Path.{sym, ◌∙◌}
use borrow.Author.Rules.{rules}
use borrow.Author.Tests.{le-leb, lt-leb}
use Rattle.stab.proofs.Bools.{and_first_true, and_first_false}
use Rattle.repeats.specs.Repeated.{repeated}
use Rattle.repeats.proofs.again.Statement.{statement}
use Rattle.repeats.proofs.again.Tie as tie

returns-then-r-from : tie.Need-returns-then-r-from
unfolding repeated
returns-then-r-from c = sym (and_first_false _ _ (lt-leb _ _ c.if-r-from.true))

stands-requires : tie.Need-stands-requires
stands-requires c κs = search rules

returns : tie.Need-returns
unfolding repeated
returns c = c.stands.ensures ∙ sym (and_first_true _ _ (le-leb _ _ c.if-r-from.false))

pub again_spec : {M : Type 1} → statement M
again_spec = tie.close (tie.spec returns-then-r-from stands-requires returns)
