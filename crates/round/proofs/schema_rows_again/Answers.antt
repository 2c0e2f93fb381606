use Prim.Native.Nat.{ℕ, ◌*◌}
use mathlib.Core.Path.{◌≡◌, sym, ◌∙◌, ap, ap₂}
use mathlib.Core.List.{List}
use lib.Dec.{leb}
use lib.ListN.{length, take}
use lib.Seq.{length-take-le}
use mir.Facts.{to_z-of_z}
use Rattle.stab.specs.Read.{read_schema, schema_answer, schema_table}
use Rattle.stab.specs.Write.{write_schema, written, output}
use Rattle.signed.proofs.Tables.{cleared_all}
use Rattle.round.specs.Again.{kept}
use Rattle.round.proofs.Kept.{schema_number}
use Rattle.round.proofs.FromRows.{text_within, schema_rows_again_lem, schema_unwritten, table_unwritten, output_unwritten}
use Rattle.round.proofs.schema_rows_again.Goals as goal

-- a signed number is kept as bits, and read back from them
pub slice_bounds-read_schema-end : goal.slice_bounds-read_schema-end
slice_bounds-read_schema-end c =
    let a = c.args in
    let n = length a.out.now in
    let er = to_z-of_z c.ranges.root in
    let el = to_z-of_z c.ranges.least in
    let w = write_schema a.table.now a.rows a.root a.least n in
    let value : c.write_schema.result ≡ written w = c.write_schema.ensures.value ∙ (λ i. written (write_schema a.table.now a.rows (er i) (el i) n)) in
    text_within n w _ _ (c.write_schema.ensures.out_after ∙ (λ i. output n (write_schema a.table.now a.rows (er i) (el i) n))) (sym value ∙ c.in-Ok.is)

pub slice_bounds-read_schema-end-in-Ok : goal.slice_bounds-read_schema-end-in-Ok
slice_bounds-read_schema-end-in-Ok c =
    let a = c.args in
    let n = length a.out.now in
    let er = to_z-of_z c.ranges.root in
    let el = to_z-of_z c.ranges.least in
    let w = write_schema a.table.now a.rows a.root a.least n in
    let value : c.write_schema.result ≡ written w = c.write_schema.ensures.value ∙ (λ i. written (write_schema a.table.now a.rows (er i) (el i) n)) in
    sym (length-take-le _ _ (text_within n w _ _ (c.write_schema.ensures.out_after ∙ (λ i. output n (write_schema a.table.now a.rows (er i) (el i) n))) (sym value ∙ c.in-Ok.is)))

pub returns-in-Ok : goal.returns-in-Ok
returns-in-Ok c =
    let a = c.args in
    let n = length a.out.now in
    let er = to_z-of_z c.ranges.root in
    let el = to_z-of_z c.ranges.least in
    let w = write_schema a.table.now a.rows a.root a.least n in
    let value : c.write_schema.result ≡ written w = c.write_schema.ensures.value ∙ (λ i. written (write_schema a.table.now a.rows (er i) (el i) n)) in
    let out : c.write_schema.new.out ≡ output n w = c.write_schema.ensures.out_after ∙ (λ i. output n (write_schema a.table.now a.rows (er i) (el i) n)) in
    let r = c.read_schema-read in
    let m = length a.back.now in
    let bytes = c.in-Ok.bytes in
    let g = schema_rows_again_lem a.table.now a.rows a.root a.least n m bytes (sym value ∙ c.in-Ok.is) in
    record {
      answer = r.ensures.answer ∙ ap (λ (l : List ℕ). schema_answer (read_schema m (take bytes l))) out ∙ g.0;
      rows = r.ensures.rows ∙ ap (λ (l : List ℕ). schema_table m (read_schema m (take bytes l))) out ∙ g.1;
      bytes = c.keep_output.ensures ∙ ap₂ (kept 0) (schema_number r.result) out;
    }

pub returns-in-Err : goal.returns-in-Err
returns-in-Err c =
    let a = c.args in
    let n = length a.out.now in
    let er = to_z-of_z c.ranges.root in
    let el = to_z-of_z c.ranges.least in
    let w = write_schema a.table.now a.rows a.root a.least n in
    let value : c.write_schema.result ≡ written w = c.write_schema.ensures.value ∙ (λ i. written (write_schema a.table.now a.rows (er i) (el i) n)) in
    let out : c.write_schema.new.out ≡ output n w = c.write_schema.ensures.out_after ∙ (λ i. output n (write_schema a.table.now a.rows (er i) (el i) n)) in
    let none = sym value ∙ c.in-Err.is in
    let m = length a.back.now in
    record {
      answer = schema_unwritten w (leb 4096 m) a.root a.least a.rows _ none;
      rows = c.clear.ensures ∙ cleared_all _ ∙ table_unwritten w (leb 4096 m) m (take (4 * a.rows) a.table.now) _ none;
      bytes = out ∙ output_unwritten w _ _ none _;
    }
