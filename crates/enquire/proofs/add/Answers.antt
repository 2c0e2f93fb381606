-- The row that waits is dropped where the row is added, and stays where it is refused.
use Rattle.std.proofs.Common.{sym, ◌∙◌}
use Rattle.stab.specs.Lent.{lent}
use Rattle.growing.specs.Growing.{add}
use Rattle.growing.specs.Enquiry.{editor}
use Rattle.grow.specs.State.{row_from}
use Rattle.enquire.proofs.Edits.{call_held, call_refused, call_answer, called_yes, called_no}
use Rattle.enquire.proofs.add.Goals as goal

pub returns-then-is_ok : goal.returns-then-is_ok
returns-then-is_ok c =
    let a = c.args in
    let E = editor (lent a.schema.now a.proof.now a.nodes.now a.members.now a.h) a.waiting.now in
    let call = add (row_from a.row.now a.set.now) in
    let e = c.add-r.ensures in
    let y = call_held E.held call c.add-r.result.answer e.answer (sym c.is_ok.ensures.value ∙ c.if-is_ok.true) in
    record {
      answer = e.answer ∙ call_answer E call;
      left = (λ i. record { held = e.left i; waiting = c.empty.ensures i }) ∙ sym (called_yes E call y);
    }

pub returns-else-is_ok : goal.returns-else-is_ok
returns-else-is_ok c =
    let a = c.args in
    let E = editor (lent a.schema.now a.proof.now a.nodes.now a.members.now a.h) a.waiting.now in
    let call = add (row_from a.row.now a.set.now) in
    let e = c.add-r.ensures in
    let r = call_refused E.held call c.add-r.result.answer e.answer (sym c.is_ok.ensures.value ∙ c.if-is_ok.false) in
    record {
      answer = e.answer ∙ call_answer E call;
      left = (λ i. record { held = e.left i; waiting = a.waiting.now }) ∙ sym (called_no E call r.0 r.1 r.2);
    }
