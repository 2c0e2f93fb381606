use Rattle.formula.specs.Rows.{over_facts}
use mathlib.Core.Path.{refl}
use borrow.Author.Rules.{rules}
use Rattle.formula.proofs.rows.over.Statement.{statement}
use Rattle.formula.proofs.rows.over.Tie as tie

overflow_add-result : tie.Need-overflow_add-result
overflow_add-result c = search rules

overflow_add-result-2 : tie.Need-overflow_add-result-2
overflow_add-result-2 c = search rules

returns : tie.Need-returns
unfolding over_facts
returns c = refl

pub over_spec : {M : Type 1} → statement M
over_spec = tie.close (tie.spec overflow_add-result overflow_add-result-2 returns)
