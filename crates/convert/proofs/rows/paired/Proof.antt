use mathlib.Core.Path.{sym}
use borrow.Author.Tests.{eq-eqb, ne_eqb}
use borrow.Author.Rules.{rules}
use Rattle.stab.proofs.Bools.{if_true, if_false}
use Rattle.convert.specs.Emission.{paired}
use Rattle.convert.proofs.rows.paired.Statement.{statement}
use Rattle.convert.proofs.rows.paired.Tie as tie

overflow_add-result : tie.Need-overflow_add-result
overflow_add-result c = search rules

overflow_sub-result : tie.Need-overflow_sub-result
overflow_sub-result c = search rules

returns-then-k-eq0 : tie.Need-returns-then-k-eq0
unfolding paired
returns-then-k-eq0 c = (sym (if_true _ _ _ (eq-eqb _ 0 c.if-k-eq0.true)), search rules)

returns-else-k-eq0 : tie.Need-returns-else-k-eq0
unfolding paired
returns-else-k-eq0 c = (sym (if_false _ _ _ (ne_eqb _ 0 c.if-k-eq0.false)), search rules)

pub paired_spec : {M : Type 1} → statement M
paired_spec = tie.close (tie.spec overflow_add-result overflow_sub-result returns-then-k-eq0 returns-else-k-eq0)
