use mathlib.Core.Path.{refl}
use borrow.Author.Rules.{rules}
use Rattle.stab.specs.LineNumber.{schema_row_line}
use Rattle.line.proofs.schema_row_line.Statement.{statement}
use Rattle.line.proofs.schema_row_line.Tie as tie

overflow_add-result : tie.Need-overflow_add-result
overflow_add-result c = search rules

returns : tie.Need-returns
unfolding schema_row_line
returns c = refl

pub schema_row_line_spec : {M : Type 1} → statement M
schema_row_line_spec = tie.close (tie.spec overflow_add-result returns)
