use borrow.Author.Rules.{rules}
use mathlib.Core.Path.{◌∙◌, ap}
use Rattle.stab.specs.Basic.{nat}
use Rattle.formula.proofs.Columns.{schema_column, proof_column}
use Rattle.formula.proofs.natural_in.Statement.{statement}
use Rattle.formula.proofs.natural_in.Tie as tie

overflow_mul-r : tie.Need-overflow_mul-r
overflow_mul-r c = search rules

overflow_add-r : tie.Need-overflow_add-r
overflow_add-r c = search rules

natural_at-requires : tie.Need-natural_at-requires
natural_at-requires c κs = search rules

overflow_mul-r-else-r-s : tie.Need-overflow_mul-r-else-r-s
overflow_mul-r-else-r-s c = search rules

overflow_add-r-else-r-s : tie.Need-overflow_add-r-else-r-s
overflow_add-r-else-r-s c = search rules

natural_at-requires-else-r-s : tie.Need-natural_at-requires-else-r-s
natural_at-requires-else-r-s c κs = search rules

returns-then-r-s : tie.Need-returns-then-r-s
returns-then-r-s c =
    let a = c.args in
    c.natural_at.ensures.0 ∙ ap nat (schema_column a.schema.now a.s a.proof.now a.r a.k c.if-r-s.true c.requires.1)

returns-else-r-s : tie.Need-returns-else-r-s
returns-else-r-s c =
    let a = c.args in
    c.natural_at-else-r-s.ensures.0 ∙ ap nat (proof_column a.schema.now a.s a.proof.now a.r a.k c.if-r-s.false c.requires.1)

pub natural_in_spec : {M : Type 1} → statement M
natural_in_spec =
    tie.close
    (tie.spec
    overflow_mul-r
    overflow_add-r
    natural_at-requires
    overflow_mul-r-else-r-s
    overflow_add-r-else-r-s
    natural_at-requires-else-r-s
    returns-then-r-s
    returns-else-r-s)
