use mathlib.Core.Path.{◌≡◌, sym, ◌∙◌, ap}
use lib.IntN.{pos}
use lib.ListN.{length}
use Rattle.stab.specs.Read.{read_proof, proof_table, node_table, member_table}
use Rattle.stab.specs.Answer.{written_numbers}
use Rattle.stab.specs.Write.{write_proof}
use Rattle.round.specs.Again.{kept}
use Rattle.round.proofs.FromTexts.{proof_again_lem, proof_unread}
use Rattle.round.proofs.proof_again.Goals as goal

pub returns-in-Ok : goal.returns-in-Ok
returns-in-Ok c =
    let a = c.args in
    let v = c.in-Ok.counts in
    let r = c.read_proof in
    let e = r.ensures in
    let whole = read_proof (length a.table.now) (length a.nodes.now) (length a.members.now) a.text.now in
    let same : write_proof r.new.table v.rows r.new.nodes v.nodes r.new.members v.members (length a.out.now)
    ≡ write_proof (proof_table (length a.table.now) whole) v.rows (node_table (length a.nodes.now) whole) v.nodes (member_table (length a.members.now) whole) v.members (length a.out.now) =
    λ i. write_proof (e.rows i) v.rows (e.nodes i) v.nodes (e.members i) v.members (length a.out.now) in
    let g = proof_again_lem a.text.now (length a.table.now) (length a.nodes.now) (length a.members.now) (length a.out.now) v (sym e.answer ∙ c.in-Ok.is) _ same in
    let w = c.write_proof-written in
    record {
      answer = w.ensures.value ∙ g.0;
      bytes = w.ensures.out_after ∙ g.1;
      rows = c.keep_table.ensures ∙ ap (kept (pos 0) (written_numbers w.result).answer) e.rows;
      nodes = c.keep_table-in-Ok.ensures ∙ ap (kept (pos 0) (written_numbers w.result).answer) e.nodes;
      members = c.keep_table-in-Ok-2.ensures ∙ ap (kept (pos 0) (written_numbers w.result).answer) e.members;
    }

pub returns-in-Err : goal.returns-in-Err
returns-in-Err c =
    let a = c.args in
    let e = c.read_proof.ensures in
    let g = proof_unread _ _ (length a.out.now) a.text.now (sym e.answer ∙ c.in-Err.is) in
    record { answer = g.0; bytes = c.clear.ensures ∙ g.1; rows = e.rows ∙ g.2 _ _; nodes = e.nodes ∙ g.3 _ _; members = e.members ∙ g.4 _ _ }
