use borrow.Author.Rules.{rules}
use mathlib.Core.Path.{◌∙◌, ap}
use Rattle.stab.specs.Basic.{eq_z}
use Rattle.formula.proofs.Columns.{schema_column, proof_column}
use Rattle.leaves.proofs.same_as.Statement.{statement}
use Rattle.leaves.proofs.same_as.Tie as tie

overflow_mul-q : tie.Need-overflow_mul-q
overflow_mul-q c = search rules

overflow_add-q : tie.Need-overflow_add-q
overflow_add-q c = search rules

same_at-requires : tie.Need-same_at-requires
same_at-requires c κs = search rules

overflow_mul-q-else-q-s : tie.Need-overflow_mul-q-else-q-s
overflow_mul-q-else-q-s c = search rules

overflow_add-q-else-q-s : tie.Need-overflow_add-q-else-q-s
overflow_add-q-else-q-s c = search rules

same_at-requires-else-q-s : tie.Need-same_at-requires-else-q-s
same_at-requires-else-q-s c κs = search rules

returns-then-q-s : tie.Need-returns-then-q-s
returns-then-q-s c =
    let a = c.args in
    c.same_at.ensures ∙ ap (eq_z _) (schema_column a.schema.now a.s a.proof.now a.q a.l c.if-q-s.true c.requires.1)

returns-else-q-s : tie.Need-returns-else-q-s
returns-else-q-s c =
    let a = c.args in
    c.same_at-else-q-s.ensures ∙ ap (eq_z _) (proof_column a.schema.now a.s a.proof.now a.q a.l c.if-q-s.false c.requires.1)

pub same_as_spec : {M : Type 1} → statement M
same_as_spec =
    tie.close
    (tie.spec
    overflow_mul-q
    overflow_add-q
    same_at-requires
    overflow_mul-q-else-q-s
    overflow_add-q-else-q-s
    same_at-requires-else-q-s
    returns-then-q-s
    returns-else-q-s)
