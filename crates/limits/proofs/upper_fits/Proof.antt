use borrow.Author.Rules.{rules}
use Rattle.limits.proofs.LimitLaws.{no_upper, leaf_open, upper_test}
use Rattle.limits.proofs.upper_fits.Statement.{statement}
use Rattle.limits.proofs.upper_fits.Tie as tie

returns-then-target-eq0 : tie.Need-returns-then-target-eq0
returns-then-target-eq0 c = no_upper _ _ _ c.if-target-eq0.true

returns-then-h-eq0 : tie.Need-returns-then-h-eq0
returns-then-h-eq0 c = leaf_open _ _ _ c.if-target-eq0.false c.if-h-eq0.true

overflow_add-result : tie.Need-overflow_add-result
overflow_add-result c = search rules

returns : tie.Need-returns
returns c = upper_test _ _ _ c.if-target-eq0.false c.if-h-eq0.false

pub upper_fits_spec : {M : Type 1} → statement M
upper_fits_spec = tie.close (tie.spec returns-then-target-eq0 returns-then-h-eq0 overflow_add-result returns)
