use Rattle.std.proofs.Common.{◌∙◌}
use Rattle.stab.specs.Read.{read_schema, read_proof}
use Rattle.outcome.specs.Outcomes.{check_after, check_outcome}
use Rattle.outcome.proofs.Afters.{schema_read_lem, schema_refused}
use Rattle.outcome.proofs.check_outcome.Goals as goal

pub returns-in-Ok : goal.returns-in-Ok
unfolding check_outcome
returns-in-Ok c =
    let a = c.args in
    let h = c.in-Ok.h in
    let e = c.in-Ok.ensures in
    let second = read_proof 4096 9216 8192 a.proof.now in
    c.check_after.ensures
    ∙ schema_read_lem (check_after a.older second) (read_schema 4096 a.schema.now) c.read_schema.new.table h e.answer e.rows

pub returns-in-Err : goal.returns-in-Err
unfolding check_outcome
returns-in-Err c =
    let a = c.args in
    schema_refused (check_after a.older (read_proof 4096 9216 8192 a.proof.now)) (read_schema 4096 a.schema.now) _ _ c.in-Err.ensures.answer
