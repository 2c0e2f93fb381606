-- There is no row, or the rows held are refused, or the last one is taken back.
use Rattle.std.proofs.Common.{◌≡◌, ◌*◌, ◌-◌, ◌<◌, sym, ◌∙◌, ap, arith, pos, length, take, None}
use Rattle.stab.specs.Node.{node}
use Rattle.stab.specs.Lent.{lent}
use Rattle.stab.specs.Text.{padded}
use Rattle.stab.specs.declared.Header.{Header}
use Rattle.stab.specs.declared.Refused.{Refused}
use Rattle.stab.specs.declared.Refusal.TheVariants.{NoRow}
use Rattle.tidied.proofs.Tables.{set_within}
use Rattle.growing.specs.Growing.{holding, shortened, take_back, changed, turned_away}
use Rattle.growing.specs.Lent.{holding_in, header_after, reply_of}
use Rattle.growing.specs.declared.Reply.{Reply}
use Rattle.growing.proofs.States.{held_clears}
use Rattle.growing.proofs.Held.{holds_shortened}
use Rattle.growing.proofs.Grown.{refused_leaves}
use Rattle.grow.specs.State.{shown}
use Rattle.grow.proofs.Calls.{refused_answer, turned_answer, turned_left, header_of, countable, accepted_answer, accepted_left, no_row, back_refused, back_accepted}
use Rattle.grow.proofs.take_back.Goals as goal

pub returns-then-n-eq0 : goal.returns-then-n-eq0
returns-then-n-eq0 c =
    let a = c.args in
    let T = lent a.schema.now a.proof.now a.nodes.now a.members.now a.h in
    let e = no_row T c.if-n-eq0.true in
    let said : c.turn_away.result ≡ reply_of a.h (turned_away T NoRow None) =
    c.turn_away.ensures ∙ ap (λ (r : Refused). reply_of a.h (turned_away T r.why r.place)) c.whole.ensures in
    record {
      answer = ap (λ (r : Reply). r.answer) said ∙ turned_answer T NoRow None take_back e;
      left = ap (λ (r : Reply). lent a.schema.now a.proof.now a.nodes.now a.members.now (header_after a.h r)) said ∙ sym (turned_left T NoRow None take_back e);
    }

pub natural_of-start-requires : goal.natural_of-start-requires
natural_of-start-requires c =
    let a = c.args in
    let T = lent a.schema.now a.proof.now a.nodes.now a.members.now a.h in
    let H = (held_clears T).0 (sym c.in-Ok.ensures) in
    (omega (arith, H.tables.node_limit), omega arith)

pub settle-requires : goal.settle-requires
unfolding shortened holding node
settle-requires c =
    let a = c.args in
    let T = lent a.schema.now a.proof.now a.nodes.now a.members.now a.h in
    let H = (held_clears T).0 (sym c.in-Ok.ensures) in
    let some_row : 0 < T.node_rows = omega (arith, c.if-n-eq0.false) in
    let fewer : c.holding.result ≡ header_of (shortened T) = c.holding.ensures ∙ ap (holding_in a.h (a.h.node_rows - 1)) c.natural_of-start.ensures.0 in
    let l = set_within T H.sets (T.node_rows - 1) (omega (arith, some_row)) in
    rw fewer (
      omega (arith, H.tables.nodes_held),
      omega (arith, l, H.tables.members_held),
      countable (shortened T) (holds_shortened T H some_row),
    )

pub returns-in-Err : goal.returns-in-Err
returns-in-Err c =
    let a = c.args in
    let T = lent a.schema.now a.proof.now a.nodes.now a.members.now a.h in
    let r = c.in-Err.refused in
    let h = sym c.in-Err.ensures in
    let e = back_refused T r.why r.place h in
    record {
      answer = ap (λ (s : Reply). s.answer) c.reply.ensures ∙ c.open.ensures ∙ refused_answer T take_back r.why r.place h e;
      left =
          ap (λ (s : Reply). lent a.schema.now a.proof.now a.nodes.now a.members.now (header_after a.h s)) c.reply.ensures
          ∙ sym (refused_leaves T take_back r.why r.place e);
    }

pub returns-in-Ok : goal.returns-in-Ok
unfolding changed shortened holding node
returns-in-Ok c =
    let a = c.args in
    let T = lent a.schema.now a.proof.now a.nodes.now a.members.now a.h in
    let some_row : 0 < T.node_rows = omega (arith, c.if-n-eq0.false) in
    let fewer : c.holding.result ≡ header_of (shortened T) = c.holding.ensures ∙ ap (holding_in a.h (a.h.node_rows - 1)) c.natural_of-start.ensures.0 in
    let ok = back_accepted T (sym c.in-Ok.ensures) some_row in
    let nodes = c.settle.ensures.nodes_after ∙ ap (λ (h : Header). padded (pos 0) (length T.nodes) (take (9 * h.node_rows) T.nodes)) fewer in
    let members = c.settle.ensures.members_after ∙ ap (λ (h : Header). padded (pos 0) (length T.members) (take h.member_count T.members)) fewer in
    record {
      answer = ap (λ (r : Reply). r.answer) c.settle.ensures.value ∙ (λ i. shown (nodes i) (fewer i).node_rows) ∙ accepted_answer T take_back ok;
      left =
          ap (λ (r : Reply). lent a.schema.now a.proof.now c.settle.new.nodes c.settle.new.members (header_after a.h r)) c.settle.ensures.value
          ∙ (λ i. lent a.schema.now a.proof.now (nodes i) (members i) (holding_in a.h (fewer i).node_rows (fewer i).member_count))
          ∙ sym (accepted_left T take_back ok);
    }
