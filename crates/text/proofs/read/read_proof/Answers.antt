use mathlib.Core.Path.{◌∙◌}
use lib.ListN.{length}
use Rattle.stab.specs.Read.{read_proof}
use Rattle.text.proofs.ProofLaws.{proof_answer_lem, proof_kept, proof_none_kept}
use Rattle.text.proofs.read.read_proof.Goals as goal

pub returns-in-Ok : goal.returns-in-Ok
returns-in-Ok c =
    let a = c.args in
    let r = c.proof_text-read in
    let whole = read_proof (length a.table.now) (length a.nodes.now) (length a.members.now) a.text.now in
    let k = proof_kept whole r.new.table r.new.nodes r.new.members _ _ _ r.auto.table r.auto.nodes r.auto.members c.in-Ok.counts c.in-Ok.ensures in
    record {
      answer = proof_answer_lem whole r.new.table r.new.nodes r.new.members _ c.in-Ok.ensures;
      rows = c.clear.ensures ∙ k.0;
      nodes = c.clear-in-Ok.ensures ∙ k.1;
      members = c.clear-in-Ok-2.ensures ∙ k.2;
    }

pub returns-in-Err : goal.returns-in-Err
returns-in-Err c =
    let a = c.args in
    let r = c.proof_text-read in
    let whole = read_proof (length a.table.now) (length a.nodes.now) (length a.members.now) a.text.now in
    let k = proof_none_kept whole r.new.table r.new.nodes r.new.members _ _ _ r.auto.table r.auto.nodes r.auto.members c.in-Err.field-0 c.in-Err.ensures in
    record {
      answer = proof_answer_lem whole r.new.table r.new.nodes r.new.members _ r.ensures;
      rows = c.clear-in-Err.ensures ∙ k.0;
      nodes = c.clear-in-Err-2.ensures ∙ k.1;
      members = c.clear-in-Err-3.ensures ∙ k.2;
    }
