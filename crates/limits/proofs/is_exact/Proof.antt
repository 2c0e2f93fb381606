use borrow.Author.Rules.{rules}
use Rattle.limits.proofs.LimitLaws.{exact_test}
use Rattle.limits.proofs.is_exact.Statement.{statement}
use Rattle.limits.proofs.is_exact.Tie as tie

overflow_add-result : tie.Need-overflow_add-result
overflow_add-result c = search rules

returns : tie.Need-returns
returns c = exact_test _ _

pub is_exact_spec : {M : Type 1} → statement M
is_exact_spec = tie.close (tie.spec overflow_add-result returns)
