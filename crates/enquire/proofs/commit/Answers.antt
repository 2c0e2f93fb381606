-- No row waits, or the row that waits is added as any other: it stays where it is refused.
use Rattle.std.proofs.Common.{◌≡◌, sym, ◌∙◌, ap, not, true, None}
use Rattle.stab.specs.Lent.{lent}
use Rattle.stab.specs.declared.Refused.{Refused}
use Rattle.stab.specs.declared.Refusal.TheVariants.{Waiting}
use Rattle.stab.proofs.Bools.{asked_false, asked_true}
use Rattle.growing.specs.Growing.{add, turned_away}
use Rattle.growing.specs.Enquiry.{waits, waiting_row, editor}
use Rattle.growing.specs.Lent.{header_after, reply_of}
use Rattle.growing.specs.declared.Reply.{Reply}
use Rattle.enquire.proofs.Edits.{call_held, call_refused, commit_answer, committed_yes, committed_no, no_commit_answer, no_commit}
use Rattle.enquire.proofs.commit.Goals as goal

pub returns-then-not-waits : goal.returns-then-not-waits
returns-then-not-waits c =
    let a = c.args in
    let T = lent a.schema.now a.proof.now a.nodes.now a.members.now a.h in
    let E = editor T a.waiting.now in
    let h = asked_false c.waits.ensures (ap not c.if-not-waits.true) in
    let said : c.turn_away.result ≡ reply_of a.h (turned_away T Waiting None) =
    c.turn_away.ensures ∙ ap (λ (r : Refused). reply_of a.h (turned_away T r.why r.place)) c.whole.ensures in
    record {
      answer = ap (λ (r : Reply). r.answer) said ∙ no_commit_answer E h;
      left =
          ap (λ (r : Reply). editor (lent a.schema.now a.proof.now a.nodes.now a.members.now (header_after a.h r)) a.waiting.now) said
          ∙ sym (no_commit E h);
    }

pub returns-then-is_ok : goal.returns-then-is_ok
returns-then-is_ok c =
    let a = c.args in
    let E = editor (lent a.schema.now a.proof.now a.nodes.now a.members.now a.h) a.waiting.now in
    let call = add (waiting_row a.waiting.now) in
    let h : waits a.waiting.now ≡ true = asked_true c.waits.ensures (ap not c.if-not-waits.false) in
    let e = c.add_waiting-r.ensures in
    let y = call_held E.held call c.add_waiting-r.result.answer e.answer_value (sym c.is_ok.ensures.value ∙ c.if-is_ok.true) in
    record {
      answer = e.answer_value ∙ commit_answer E h;
      left = (λ i. record { held = e.result_after i; waiting = c.empty.ensures i }) ∙ sym (committed_yes E h y);
    }

pub returns-else-is_ok : goal.returns-else-is_ok
returns-else-is_ok c =
    let a = c.args in
    let E = editor (lent a.schema.now a.proof.now a.nodes.now a.members.now a.h) a.waiting.now in
    let call = add (waiting_row a.waiting.now) in
    let h : waits a.waiting.now ≡ true = asked_true c.waits.ensures (ap not c.if-not-waits.false) in
    let e = c.add_waiting-r.ensures in
    let r = call_refused E.held call c.add_waiting-r.result.answer e.answer_value (sym c.is_ok.ensures.value ∙ c.if-is_ok.false) in
    record {
      answer = e.answer_value ∙ commit_answer E h;
      left = (λ i. record { held = e.result_after i; waiting = a.waiting.now }) ∙ sym (committed_no E h r.0 r.1 r.2);
    }
