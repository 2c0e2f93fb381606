use borrow.Author.Rules.{rules}
use mathlib.Core.Path.{◌∙◌, ap₂, refl}
use Rattle.stab.specs.Basic.{eq_z}
use Rattle.formula.proofs.Columns.{schema_column, proof_column}
use Rattle.leaves.proofs.same_in.Statement.{statement}
use Rattle.leaves.proofs.same_in.Tie as tie

overflow_mul-r : tie.Need-overflow_mul-r
overflow_mul-r c = search rules

overflow_add-r : tie.Need-overflow_add-r
overflow_add-r c = search rules

same_as-requires : tie.Need-same_as-requires
same_as-requires c κs = search rules

overflow_mul-r-else-r-s : tie.Need-overflow_mul-r-else-r-s
overflow_mul-r-else-r-s c = search rules

overflow_add-r-else-r-s : tie.Need-overflow_add-r-else-r-s
overflow_add-r-else-r-s c = search rules

same_as-requires-else-r-s : tie.Need-same_as-requires-else-r-s
same_as-requires-else-r-s c κs = search rules

returns-then-r-s : tie.Need-returns-then-r-s
returns-then-r-s c =
    let a = c.args in
    c.same_as.ensures ∙ ap₂ eq_z (schema_column a.schema.now a.s a.proof.now a.r a.k c.if-r-s.true c.requires.0.1) refl

returns-else-r-s : tie.Need-returns-else-r-s
returns-else-r-s c =
    let a = c.args in
    c.same_as-else-r-s.ensures ∙ ap₂ eq_z (proof_column a.schema.now a.s a.proof.now a.r a.k c.if-r-s.false c.requires.0.1) refl

pub same_in_spec : {M : Type 1} → statement M
same_in_spec =
    tie.close
    (tie.spec
    overflow_mul-r
    overflow_add-r
    same_as-requires
    overflow_mul-r-else-r-s
    overflow_add-r-else-r-s
    same_as-requires-else-r-s
    returns-then-r-s
    returns-else-r-s)
