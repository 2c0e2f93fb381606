use mathlib.Core.Path.{◌≡◌, sym, ◌∙◌, ap}
use lib.IntN.{pos}
use lib.ListN.{length}
use mir.Syntax.{w32}
use mir.Val.{of_z, to_z}
use borrow.Author.Rules.{rules}
use Rattle.stab.specs.Read.{read_schema, schema_table}
use Rattle.stab.specs.Answer.{written_numbers}
use Rattle.stab.specs.Write.{write_schema}
use Rattle.round.specs.Again.{kept}
use Rattle.round.proofs.FromTexts.{schema_again_lem, schema_unread}
use Rattle.round.proofs.schema_again.Goals as goal

-- a signed number is kept as bits, and read back from them
pub returns-in-Ok : goal.returns-in-Ok
returns-in-Ok c =
    let a = c.args in
    let v = c.in-Ok.h in
    let t = c.read_schema.ensures.rows in
    let root : to_z w32 (of_z w32 v.root) ≡ v.root = search rules in
    let least : to_z w32 (of_z w32 v.least) ≡ v.least = search rules in
    let same : write_schema c.read_schema.new.table v.rows (to_z w32 (of_z w32 v.root)) (to_z w32 (of_z w32 v.least)) (length a.out.now)
    ≡ write_schema (schema_table (length a.table.now) (read_schema (length a.table.now) a.text.now)) v.rows v.root v.least (length a.out.now) =
    λ i. write_schema (t i) v.rows (root i) (least i) (length a.out.now) in
    let g = schema_again_lem a.text.now (length a.table.now) (length a.out.now) v (sym c.read_schema.ensures.answer ∙ c.in-Ok.is) _ same in
    record {
      answer = c.write_schema-written.ensures.value ∙ g.0;
      bytes = c.write_schema-written.ensures.out_after ∙ g.1;
      rows = c.keep_table.ensures ∙ ap (kept (pos 0) (written_numbers c.write_schema-written.result).answer) t;
    }

pub returns-in-Err : goal.returns-in-Err
returns-in-Err c =
    let a = c.args in
    let g = schema_unread _ _ (length a.out.now) a.text.now (sym c.read_schema.ensures.answer ∙ c.in-Err.is) in
    record { answer = g.0; bytes = c.clear.ensures ∙ g.1; rows = c.read_schema.ensures.rows ∙ g.2 _ _ }
