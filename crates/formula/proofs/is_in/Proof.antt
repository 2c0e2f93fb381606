use borrow.Author.Rules.{rules}
use mathlib.Core.Path.{◌∙◌, ap}
use lib.IntN.{ℤ}
use mir.Facts.{to_z-of_z}
use Rattle.stab.specs.Basic.{eq_z}
use Rattle.formula.proofs.Columns.{schema_column, proof_column}
use Rattle.formula.proofs.is_in.Statement.{statement}
use Rattle.formula.proofs.is_in.Tie as tie

overflow_mul-r : tie.Need-overflow_mul-r
overflow_mul-r c = search rules

overflow_add-r : tie.Need-overflow_add-r
overflow_add-r c = search rules

is_at-requires : tie.Need-is_at-requires
is_at-requires c κs = search rules

overflow_mul-r-else-r-s : tie.Need-overflow_mul-r-else-r-s
overflow_mul-r-else-r-s c = search rules

overflow_add-r-else-r-s : tie.Need-overflow_add-r-else-r-s
overflow_add-r-else-r-s c = search rules

is_at-requires-else-r-s : tie.Need-is_at-requires-else-r-s
is_at-requires-else-r-s c κs = search rules

returns-then-r-s : tie.Need-returns-then-r-s
returns-then-r-s c =
    let a = c.args in
    c.is_at.ensures ∙ ap (eq_z _) (to_z-of_z c.ranges.z) ∙ ap (λ (z : ℤ). eq_z z a.z) (schema_column a.schema.now a.s a.proof.now a.r a.k c.if-r-s.true c.requires.1)

returns-else-r-s : tie.Need-returns-else-r-s
returns-else-r-s c =
    let a = c.args in
    c.is_at-else-r-s.ensures ∙ ap (eq_z _) (to_z-of_z c.ranges.z) ∙ ap (λ (z : ℤ). eq_z z a.z) (proof_column a.schema.now a.s a.proof.now a.r a.k c.if-r-s.false c.requires.1)

pub is_in_spec : {M : Type 1} → statement M
is_in_spec =
    tie.close
    (tie.spec
    overflow_mul-r
    overflow_add-r
    is_at-requires
    overflow_mul-r-else-r-s
    overflow_add-r-else-r-s
    is_at-requires-else-r-s
    returns-then-r-s
    returns-else-r-s)
