use mathlib.Core.Path.{refl}
use borrow.Author.Rules.{rules}
use Rattle.stab.specs.LineNumber.{node_line}
use Rattle.line.proofs.node_line.Statement.{statement}
use Rattle.line.proofs.node_line.Tie as tie

overflow_add-result : tie.Need-overflow_add-result
overflow_add-result c = search rules

overflow_add-result-2 : tie.Need-overflow_add-result-2
overflow_add-result-2 c = search rules

returns : tie.Need-returns
unfolding node_line
returns c = refl

pub node_line_spec : {M : Type 1} → statement M
node_line_spec = tie.close (tie.spec overflow_add-result overflow_add-result-2 returns)
