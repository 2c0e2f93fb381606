use Prim.Native.Nat.{ℕ, ◌*◌}
use mathlib.Core.Path.{◌≡◌, sym, ◌∙◌, ap, ap₂}
use mathlib.Core.List.{List}
use lib.Dec.{leb}
use lib.ListN.{length, take}
use lib.Seq.{length-take-le}
use mir.Facts.{to_z-of_z}
use Rattle.stab.specs.Read.{read_model, model_answer, pair_table}
use Rattle.stab.specs.Write.{write_model, written, output}
use Rattle.signed.proofs.Tables.{cleared_all}
use Rattle.round.specs.Again.{kept}
use Rattle.round.proofs.Kept.{model_number}
use Rattle.round.proofs.FromRows.{text_within, model_rows_again_lem, model_unwritten, table_unwritten, output_unwritten}
use Rattle.round.proofs.model_rows_again.Goals as goal

-- a signed number is kept as bits, and read back from them
pub slice_bounds-read_model-end : goal.slice_bounds-read_model-end
slice_bounds-read_model-end c =
    let a = c.args in
    let n = length a.out.now in
    let en = to_z-of_z c.ranges.n in
    let w = write_model a.n a.pairs.now a.pair_rows n in
    let value : c.write_model.result ≡ written w = c.write_model.ensures.value ∙ (λ i. written (write_model (en i) a.pairs.now a.pair_rows n)) in
    text_within n w _ _ (c.write_model.ensures.out_after ∙ (λ i. output n (write_model (en i) a.pairs.now a.pair_rows n))) (sym value ∙ c.in-Ok.is)

pub slice_bounds-read_model-end-in-Ok : goal.slice_bounds-read_model-end-in-Ok
slice_bounds-read_model-end-in-Ok c =
    let a = c.args in
    let n = length a.out.now in
    let en = to_z-of_z c.ranges.n in
    let w = write_model a.n a.pairs.now a.pair_rows n in
    let value : c.write_model.result ≡ written w = c.write_model.ensures.value ∙ (λ i. written (write_model (en i) a.pairs.now a.pair_rows n)) in
    sym (length-take-le _ _ (text_within n w _ _ (c.write_model.ensures.out_after ∙ (λ i. output n (write_model (en i) a.pairs.now a.pair_rows n))) (sym value ∙ c.in-Ok.is)))

pub returns-in-Ok : goal.returns-in-Ok
returns-in-Ok c =
    let a = c.args in
    let n = length a.out.now in
    let en = to_z-of_z c.ranges.n in
    let w = write_model a.n a.pairs.now a.pair_rows n in
    let value : c.write_model.result ≡ written w = c.write_model.ensures.value ∙ (λ i. written (write_model (en i) a.pairs.now a.pair_rows n)) in
    let out : c.write_model.new.out ≡ output n w = c.write_model.ensures.out_after ∙ (λ i. output n (write_model (en i) a.pairs.now a.pair_rows n)) in
    let r = c.read_model-read in
    let m = length a.back.now in
    let bytes = c.in-Ok.bytes in
    let g = model_rows_again_lem a.n a.pairs.now a.pair_rows n m bytes (sym value ∙ c.in-Ok.is) in
    record {
      answer = r.ensures.answer ∙ ap (λ (l : List ℕ). model_answer (read_model m (take bytes l))) out ∙ g.0;
      pairs = r.ensures.pairs ∙ ap (λ (l : List ℕ). pair_table m (read_model m (take bytes l))) out ∙ g.1;
      bytes = c.keep_output.ensures ∙ ap₂ (kept 0) (model_number r.result) out;
    }

pub returns-in-Err : goal.returns-in-Err
returns-in-Err c =
    let a = c.args in
    let n = length a.out.now in
    let en = to_z-of_z c.ranges.n in
    let w = write_model a.n a.pairs.now a.pair_rows n in
    let value : c.write_model.result ≡ written w = c.write_model.ensures.value ∙ (λ i. written (write_model (en i) a.pairs.now a.pair_rows n)) in
    let out : c.write_model.new.out ≡ output n w = c.write_model.ensures.out_after ∙ (λ i. output n (write_model (en i) a.pairs.now a.pair_rows n)) in
    let none = sym value ∙ c.in-Err.is in
    let m = length a.back.now in
    record {
      answer = model_unwritten w (leb 8192 m) a.n a.pair_rows _ none;
      pairs = c.clear.ensures ∙ cleared_all _ ∙ table_unwritten w (leb 8192 m) m (take (2 * a.pair_rows) a.pairs.now) _ none;
      bytes = out ∙ output_unwritten w _ _ none _;
    }
