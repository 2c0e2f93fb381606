use mathlib.Core.Path.{◌∙◌}
use lib.ListN.{length}
use Rattle.stab.specs.Read.{read_model}
use Rattle.text.proofs.SchemaLaws.{model_answer_lem, model_rows_kept, model_none_kept}
use Rattle.text.proofs.read.read_model.Goals as goal

pub returns-in-Ok : goal.returns-in-Ok
returns-in-Ok c =
    let a = c.args in
    let t = c.model_text-read.new.table in
    let whole = read_model (length a.table.now) a.text.now in
    record {
      answer = model_answer_lem whole t _ c.in-Ok.ensures;
      pairs = c.clear.ensures ∙ model_rows_kept whole t _ c.model_text-read.auto.table _ c.in-Ok.ensures;
    }

pub returns-in-Err : goal.returns-in-Err
returns-in-Err c =
    let a = c.args in
    let t = c.model_text-read.new.table in
    let whole = read_model (length a.table.now) a.text.now in
    record {
      answer = model_answer_lem whole t _ c.model_text-read.ensures;
      pairs = c.clear-in-Err.ensures ∙ model_none_kept whole t _ c.model_text-read.auto.table c.in-Err.field-0 c.in-Err.ensures;
    }
