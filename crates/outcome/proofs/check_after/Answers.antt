use Rattle.std.proofs.Common.{◌≡◌, ◌∙◌, ap, rules, w32, to_z, of_z}
use Rattle.stab.specs.Read.{read_proof}
use Rattle.stab.specs.Finding.{Verdict}
use Rattle.signed.proofs.Signs.{read_back}
use Rattle.outcome.specs.declared.Outcome.TheVariants.{Judged}
use Rattle.outcome.proofs.Afters.{judged_tableau, proof_read_lem, proof_refused}
use Rattle.outcome.proofs.check_after.Goals as goal

pub returns-in-Ok : goal.returns-in-Ok
returns-in-Ok c =
    let a = c.args in
    let e = c.in-Ok.ensures in
    let n = c.in-Ok.counts in
    let root : to_z w32 (of_z w32 a.h.root) ≡ a.h.root = search (rules, read_back) in
    let least : to_z w32 (of_z w32 a.h.least) ≡ a.h.least = search (rules, read_back) in
    let r = c.read_proof.new in
    ap (λ (v : Verdict). Judged v a.h.rows n.rows) c.check_as.ensures
    ∙ (λ i. judged_tableau a.older a.table.now a.h (root i) (least i) r.table r.nodes r.members n.rows n.nodes n.members)
    ∙ proof_read_lem a.older (read_proof 4096 9216 8192 a.proof.now) a.table.now a.h r.table r.nodes r.members n e.answer e.rows e.nodes e.members

pub returns-in-Err : goal.returns-in-Err
returns-in-Err c =
    let a = c.args in
    proof_refused a.older (read_proof 4096 9216 8192 a.proof.now) a.table.now a.h _ _ c.in-Err.ensures.answer
