use native.Mathlib.Omega.{arith}
use mathlib.Core.Path.{refl}
use borrow.Author.Rules.{rules}
use Rattle.stab.specs.LineNumber.{proof_row_line}
use Rattle.line.proofs.proof_row_line.Statement.{statement}
use Rattle.line.proofs.proof_row_line.Tie as tie

overflow_add-r : tie.Need-overflow_add-r
overflow_add-r c = search rules

returns-then-r-s : tie.Need-returns-then-r-s
unfolding proof_row_line
returns-then-r-s c = omega arith

overflow_add-result : tie.Need-overflow_add-result
overflow_add-result c = search rules

overflow_sub-result : tie.Need-overflow_sub-result
overflow_sub-result c = search rules

returns : tie.Need-returns
unfolding proof_row_line
returns c = refl

pub proof_row_line_spec : {M : Type 1} → statement M
proof_row_line_spec = tie.close (tie.spec overflow_add-r returns-then-r-s overflow_add-result overflow_sub-result returns)
