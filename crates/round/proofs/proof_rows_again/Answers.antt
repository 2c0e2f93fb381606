use Prim.Native.Nat.{ℕ, ◌*◌}
use mathlib.Core.Path.{◌≡◌, sym, ◌∙◌, ap, ap₂}
use mathlib.Core.List.{List}
use lib.Dec.{leb}
use lib.ListN.{length, take}
use lib.Seq.{length-take-le}
use Rattle.stab.specs.Basic.{◌and◌}
use Rattle.stab.specs.Read.{read_proof, proof_answer, proof_table, node_table, member_table}
use Rattle.stab.specs.Write.{write_proof, written, output}
use Rattle.signed.proofs.Tables.{cleared_all}
use Rattle.round.specs.Again.{kept}
use Rattle.round.proofs.Kept.{proof_number}
use Rattle.round.proofs.FromRows.{text_within, proof_rows_again_lem, proof_unwritten, table_unwritten, output_unwritten}
use Rattle.round.proofs.proof_rows_again.Goals as goal

pub slice_bounds-read_proof-end : goal.slice_bounds-read_proof-end
slice_bounds-read_proof-end c =
    let a = c.args in
    let n = length a.out.now in
    let w = write_proof a.table.now a.rows a.nodes.now a.node_rows a.members.now a.member_count n in
    let value : c.write_proof.result ≡ written w = c.write_proof.ensures.value in
    text_within n w _ _ (c.write_proof.ensures.out_after) (sym value ∙ c.in-Ok.is)

pub slice_bounds-read_proof-end-in-Ok : goal.slice_bounds-read_proof-end-in-Ok
slice_bounds-read_proof-end-in-Ok c =
    let a = c.args in
    let n = length a.out.now in
    let w = write_proof a.table.now a.rows a.nodes.now a.node_rows a.members.now a.member_count n in
    let value : c.write_proof.result ≡ written w = c.write_proof.ensures.value in
    sym (length-take-le _ _ (text_within n w _ _ (c.write_proof.ensures.out_after) (sym value ∙ c.in-Ok.is)))

pub returns-in-Ok : goal.returns-in-Ok
returns-in-Ok c =
    let a = c.args in
    let n = length a.out.now in
    let w = write_proof a.table.now a.rows a.nodes.now a.node_rows a.members.now a.member_count n in
    let value : c.write_proof.result ≡ written w = c.write_proof.ensures.value in
    let out : c.write_proof.new.out ≡ output n w = c.write_proof.ensures.out_after in
    let r = c.read_proof-read in
    let m = length a.back_table.now in
    let k = length a.back_nodes.now in
    let d = length a.back_members.now in
    let bytes = c.in-Ok.bytes in
    let g = proof_rows_again_lem a.table.now a.rows a.nodes.now a.node_rows a.members.now a.member_count n m k d bytes (sym value ∙ c.in-Ok.is) in
    let e = r.ensures in
    record {
      answer = e.answer ∙ ap (λ (l : List ℕ). proof_answer (read_proof m k d (take bytes l))) out ∙ g.0;
      rows = e.rows ∙ ap (λ (l : List ℕ). proof_table m (read_proof m k d (take bytes l))) out ∙ g.1;
      nodes = e.nodes ∙ ap (λ (l : List ℕ). node_table k (read_proof m k d (take bytes l))) out ∙ g.2;
      members = e.members ∙ ap (λ (l : List ℕ). member_table d (read_proof m k d (take bytes l))) out ∙ g.3;
      bytes = c.keep_output.ensures ∙ ap₂ (kept 0) (proof_number r.result) out;
    }

pub returns-in-Err : goal.returns-in-Err
returns-in-Err c =
    let a = c.args in
    let n = length a.out.now in
    let w = write_proof a.table.now a.rows a.nodes.now a.node_rows a.members.now a.member_count n in
    let value : c.write_proof.result ≡ written w = c.write_proof.ensures.value in
    let out : c.write_proof.new.out ≡ output n w = c.write_proof.ensures.out_after in
    let none = sym value ∙ c.in-Err.is in
    let m = length a.back_table.now in
    let k = length a.back_nodes.now in
    let d = length a.back_members.now in
    let full = leb 4096 m and leb 9216 k and leb 8192 d in
    record {
      answer = proof_unwritten w full a.rows a.node_rows a.member_count _ none;
      rows = c.clear.ensures ∙ cleared_all _ ∙ table_unwritten w full m (take (4 * a.rows) a.table.now) _ none;
      nodes = c.clear-in-Err.ensures ∙ cleared_all _ ∙ table_unwritten w full k (take (9 * a.node_rows) a.nodes.now) _ none;
      members = c.clear-in-Err-2.ensures ∙ cleared_all _ ∙ table_unwritten w full d (take a.member_count a.members.now) _ none;
      bytes = out ∙ output_unwritten w _ _ none _;
    }
