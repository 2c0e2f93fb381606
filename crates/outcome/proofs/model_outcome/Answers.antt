use Rattle.std.proofs.Common.{◌∙◌}
use Rattle.stab.specs.Read.{read_schema, read_model}
use Rattle.outcome.specs.Outcomes.{model_after, model_outcome}
use Rattle.outcome.proofs.Afters.{schema_read_lem, schema_refused}
use Rattle.outcome.proofs.model_outcome.Goals as goal

pub returns-in-Ok : goal.returns-in-Ok
unfolding model_outcome
returns-in-Ok c =
    let a = c.args in
    let h = c.in-Ok.h in
    let e = c.in-Ok.ensures in
    let second = read_model 8192 a.model.now in
    c.model_after.ensures
    ∙ schema_read_lem (model_after second) (read_schema 4096 a.schema.now) c.read_schema.new.table h e.answer e.rows

pub returns-in-Err : goal.returns-in-Err
unfolding model_outcome
returns-in-Err c =
    let a = c.args in
    schema_refused (model_after (read_model 8192 a.model.now)) (read_schema 4096 a.schema.now) _ _ c.in-Err.ensures.answer
