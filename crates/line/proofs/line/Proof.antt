use mathlib.Core.Bool.{true, false}
use borrow.Author.Rules.{rules}
use Rattle.line.proofs.LineSpans.{handed}
use Rattle.line.proofs.line.Statement.{statement}
use Rattle.line.proofs.line.Tie as tie

line_in-requires : tie.Need-line_in-requires
line_in-requires c κs = search rules

line_in-requires-else-of_proof : tie.Need-line_in-requires-else-of_proof
line_in-requires-else-of_proof c κs = search rules

returns-then-of_proof : tie.Need-returns-then-of_proof
returns-then-of_proof c =
    let a = c.args in
    handed a.of_proof true a.schema a.proof c.line_in.result a.k c.if-of_proof.true c.line_in.ensures

returns-else-of_proof : tie.Need-returns-else-of_proof
returns-else-of_proof c =
    let a = c.args in
    handed a.of_proof false a.schema a.proof c.line_in-else-of_proof.result a.k c.if-of_proof.false c.line_in-else-of_proof.ensures

pub line_spec : {M : Type 1} → statement M
line_spec = tie.close (tie.spec line_in-requires line_in-requires-else-of_proof returns-then-of_proof returns-else-of_proof)
