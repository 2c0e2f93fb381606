use mathlib.Core.Path.{◌∙◌}
use lib.ListN.{length}
use Rattle.stab.specs.Read.{read_schema}
use Rattle.text.proofs.SchemaLaws.{schema_answer_lem, schema_rows_kept, schema_none_kept}
use Rattle.text.proofs.read.read_schema.Goals as goal

pub returns-in-Ok : goal.returns-in-Ok
returns-in-Ok c =
    let a = c.args in
    let t = c.schema_text-read.new.table in
    let whole = read_schema (length a.table.now) a.text.now in
    record {
      answer = schema_answer_lem whole t _ c.in-Ok.ensures;
      rows = c.clear.ensures ∙ schema_rows_kept whole t _ c.schema_text-read.auto.table _ c.in-Ok.ensures;
    }

pub returns-in-Err : goal.returns-in-Err
returns-in-Err c =
    let a = c.args in
    let t = c.schema_text-read.new.table in
    let whole = read_schema (length a.table.now) a.text.now in
    record {
      answer = schema_answer_lem whole t _ c.schema_text-read.ensures;
      rows = c.clear-in-Err.ensures ∙ schema_none_kept whole t _ c.schema_text-read.auto.table c.in-Err.field-0 c.in-Err.ensures;
    }
