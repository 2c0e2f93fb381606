-- No row is changed, and the row waits where the answer is yes.
use Rattle.std.proofs.Common.{◌≡◌, sym, ◌∙◌, rules, arith, length}
use Rattle.stab.specs.Lent.{lent}
use Rattle.signed.proofs.Tables.{cleared_padded}
use Rattle.growing.specs.Growing.{add, call_refusal, tried}
use Rattle.growing.specs.Enquiry.{editor, nothing_waits}
use Rattle.growing.proofs.Enquiries.{accepted_few}
use Rattle.grow.specs.State.{row_from}
use Rattle.enquire.proofs.Edits.{call_held, call_refused, enquiry_answer, enquired_yes, enquired_no}
use Rattle.enquire.proofs.enquire.Goals as goal

pub store-requires : goal.store-requires
unfolding call_refusal row_from
store-requires c =
    let a = c.args in
    let T = lent a.schema.now a.proof.now a.nodes.now a.members.now a.h in
    let w = row_from a.row.now a.set.now in
    let y = call_held T (add w) c.try_row.result.answer c.try_row.ensures.answer (sym c.is_ok.ensures.value ∙ c.if-is_ok.true) in
    (search rules, accepted_few T w y)

pub returns-then-is_ok : goal.returns-then-is_ok
unfolding tried
returns-then-is_ok c =
    let a = c.args in
    let E = editor (lent a.schema.now a.proof.now a.nodes.now a.members.now a.h) a.waiting.now in
    let w = row_from a.row.now a.set.now in
    let e = c.try_row.ensures in
    let y = call_held E.held (add w) c.try_row.result.answer e.answer (sym c.is_ok.ensures.value ∙ c.if-is_ok.true) in
    let same : lent a.schema.now a.proof.now c.try_row.new.nodes c.try_row.new.members a.h ≡ E.held =
    λ i. lent a.schema.now a.proof.now (e.left i).nodes (e.left i).members a.h in
    record {
      answer = e.answer ∙ enquiry_answer E w;
      left = (λ i. record { held = same i; waiting = c.store.ensures i }) ∙ sym (enquired_yes E w y);
    }

pub returns-else-is_ok : goal.returns-else-is_ok
unfolding tried nothing_waits
returns-else-is_ok c =
    let a = c.args in
    let E = editor (lent a.schema.now a.proof.now a.nodes.now a.members.now a.h) a.waiting.now in
    let w = row_from a.row.now a.set.now in
    let e = c.try_row.ensures in
    let r = call_refused E.held (add w) c.try_row.result.answer e.answer (sym c.is_ok.ensures.value ∙ c.if-is_ok.false) in
    let same : lent a.schema.now a.proof.now c.try_row.new.nodes c.try_row.new.members a.h ≡ E.held =
    λ i. lent a.schema.now a.proof.now (e.left i).nodes (e.left i).members a.h in
    let l : length a.waiting.now ≡ 1033 = search rules in
    let empty = c.clear.ensures ∙ cleared_padded a.waiting.now 0 1033 (omega arith) l in
    record {
      answer = e.answer ∙ enquiry_answer E w;
      left = (λ i. record { held = same i; waiting = empty i }) ∙ sym (enquired_no E w r.0 r.1 r.2);
    }
