-- There is no room, or the row is laid behind the rows held and judged with them; then it is kept or taken out again.
use Rattle.std.proofs.Common.{◌≡◌, ◌+◌, ◌*◌, ℕ, List, ℤ, true, not, sym, ◌∙◌, ap, arith, add-one, pos, length, take, None}
use Rattle.stab.specs.Node.{Tableau}
use Rattle.stab.specs.Lent.{lent}
use Rattle.stab.specs.Check.{refusal, held_mode}
use Rattle.stab.specs.Text.{padded}
use Rattle.stab.specs.Finding.{Finding}
use Rattle.stab.specs.declared.Header.{Header}
use Rattle.stab.specs.declared.Refused.{Refused}
use Rattle.stab.specs.declared.Refusal.TheVariants.{Room}
use Rattle.stab.proofs.Bools.{if_true, if_false, asked_false, asked_true}
use Rattle.growing.specs.Growing.{NodeRow, node_numbers, room_for, call_refusal, turned_away, tried}
use Rattle.growing.specs.Growing.{add as add_row}
use Rattle.growing.specs.Lent.{holding_in, header_after, reply_of}
use Rattle.growing.specs.declared.Reply.{Reply}
use Rattle.growing.proofs.States.{held_clears}
use Rattle.growing.proofs.Held.{fits}
use Rattle.grow.specs.State.{row_from, grown, shown}
use Rattle.grow.specs.Moved.{placed}
use Rattle.grow.proofs.Lists.{restored}
use Rattle.grow.proofs.Laying.{accepted, refused, no_room}
use Rattle.grow.proofs.Calls.{header_of, turned_answer, turned_left, turned_tried, grown_nodes, grown_members, tried_countable, laid_countable, laid_answer, tried_answer, laid_left}
use Rattle.grow.proofs.try_row.Goals as goal

-- what is found in tables that hold the rows with one more
found : (T : Tableau) (w : NodeRow) (nodes members : List ℤ) (h : Header) (x : Finding) → nodes ≡ (grown T w).nodes → members ≡ (grown T w).members → h ≡ holding_in (header_of T) (T.node_rows + 1) (T.member_count + length w.members) → x ≡ refusal held_mode (lent T.schema T.proof nodes members h) → x ≡ refusal held_mode (grown T w)
unfolding grown
found T w nodes members h x e f g k =
    k
    ∙ (λ i. refusal held_mode (lent T.schema T.proof (e i) (f i) (g i)))
    ∙ ap (λ (n : ℕ). refusal held_mode (lent T.schema T.proof (grown T w).nodes (grown T w).members (holding_in (header_of T) n (T.member_count + length w.members)))) (add-one T.node_rows)

-- there is no room
pub returns-then-not-room : goal.returns-then-not-room
unfolding call_refusal room_for row_from
returns-then-not-room c =
    let a = c.args in
    let T = lent a.schema.now a.proof.now a.nodes.now a.members.now a.h in
    let w = row_from a.row.now a.set.now in
    let e = no_room T w (asked_false c.room.ensures (ap not c.if-not-room.true)) in
    let said : c.turn_away.result ≡ reply_of a.h (turned_away T Room None) =
    c.turn_away.ensures ∙ ap (λ (r : Refused). reply_of a.h (turned_away T r.why r.place)) c.whole.ensures in
    record {
      answer = ap (λ (r : Reply). r.answer) said ∙ turned_answer T Room None (add_row w) e;
      left =
          ap (λ (r : Reply). lent a.schema.now a.proof.now a.nodes.now a.members.now (header_after a.h r)) said
          ∙ turned_tried a.keep T w (turned_left T Room None (add_row w) e);
    }

pub lay-requires : goal.lay-requires
unfolding row_from room_for
lay-requires c =
    let a = c.args in
    let T = lent a.schema.now a.proof.now a.nodes.now a.members.now a.h in
    let w = row_from a.row.now a.set.now in
    let f = fits T w (asked_true c.room.ensures (ap not c.if-not-room.false)) in
    (f.0, omega (arith, f.2), f.1, f.3, omega arith, omega (arith, f.1))

pub settle-requires : goal.settle-requires
unfolding grown row_from room_for
settle-requires c =
    let a = c.args in
    let T = lent a.schema.now a.proof.now a.nodes.now a.members.now a.h in
    let w = row_from a.row.now a.set.now in
    let room : room_for T w ≡ true = asked_true c.room.ensures (ap not c.if-not-room.false) in
    let f = fits T w room in
    let y = c.lay.ensures in
    let ok = accepted T w room (sym (found T w _ _ _ _ y.nodes_after y.members_after c.holding-more.ensures c.in-Ok.ensures)) in
    rw c.holding-more.ensures (
      omega (arith, f.2, c.lay.auto.nodes),
      omega (arith, f.3, c.lay.auto.members),
      laid_countable T w room ok c.lay.new.nodes y.nodes_after,
    )

-- the row is kept
pub returns-then-keep : goal.returns-then-keep
unfolding tried grown row_from room_for
returns-then-keep c =
    let a = c.args in
    let T = lent a.schema.now a.proof.now a.nodes.now a.members.now a.h in
    let w = row_from a.row.now a.set.now in
    let room : room_for T w ≡ true = asked_true c.room.ensures (ap not c.if-not-room.false) in
    let y = c.lay.ensures in
    let M = c.holding-more.ensures in
    let ok = accepted T w room (sym (found T w _ _ _ _ y.nodes_after y.members_after M c.in-Ok.ensures)) in
    let nodes = c.settle.ensures.nodes_after ∙ (λ i. padded (pos 0) (length (y.nodes_after i)) (take (9 * (M i).node_rows) (y.nodes_after i))) ∙ grown_nodes T w room in
    let members = c.settle.ensures.members_after ∙ (λ i. padded (pos 0) (length (y.members_after i)) (take (M i).member_count (y.members_after i))) ∙ grown_members T w room in
    record {
      answer = ap (λ (r : Reply). r.answer) c.settle.ensures.value ∙ ap (λ (k : Header). shown c.settle.new.nodes k.node_rows) M ∙ laid_answer T w room ok _ nodes;
      left =
          ap (λ (r : Reply). lent a.schema.now a.proof.now c.settle.new.nodes c.settle.new.members (header_after a.h r)) c.settle.ensures.value
          ∙ ap (λ (k : Header). lent a.schema.now a.proof.now c.settle.new.nodes c.settle.new.members (holding_in a.h k.node_rows k.member_count)) M
          ∙ laid_left T w room ok _ _ nodes members
          ∙ sym (if_true _ _ _ c.if-keep.true);
    }

pub show-answer-requires : goal.show-answer-requires
unfolding grown row_from room_for
show-answer-requires c =
    let a = c.args in
    let T = lent a.schema.now a.proof.now a.nodes.now a.members.now a.h in
    let w = row_from a.row.now a.set.now in
    let room : room_for T w ≡ true = asked_true c.room.ensures (ap not c.if-not-room.false) in
    let y = c.lay.ensures in
    let M = c.holding-more.ensures in
    let H = (held_clears (grown T w)).0 (sym (found T w _ _ _ _ y.nodes_after y.members_after M c.in-Ok.ensures)) in
    rw M (tried_countable T w room H _ y.nodes_after)

pub put_back-requires : goal.put_back-requires
unfolding row_from room_for
put_back-requires c =
    let a = c.args in
    let T = lent a.schema.now a.proof.now a.nodes.now a.members.now a.h in
    let w = row_from a.row.now a.set.now in
    let f = fits T w (asked_true c.room.ensures (ap not c.if-not-room.false)) in
    (f.0, omega (arith, f.2, c.lay.auto.nodes), omega (arith, f.3, c.lay.auto.members), omega arith, omega (arith, f.1))

pub put_back-requires-in-Err : goal.put_back-requires-in-Err
unfolding row_from room_for
put_back-requires-in-Err c =
    let a = c.args in
    let T = lent a.schema.now a.proof.now a.nodes.now a.members.now a.h in
    let w = row_from a.row.now a.set.now in
    let f = fits T w (asked_true c.room.ensures (ap not c.if-not-room.false)) in
    (f.0, omega (arith, f.2, c.lay.auto.nodes), omega (arith, f.3, c.lay.auto.members), omega arith, omega (arith, f.1))

-- the row is not kept
pub returns-else-keep : goal.returns-else-keep
unfolding tried grown row_from room_for node_numbers
returns-else-keep c =
    let a = c.args in
    let T = lent a.schema.now a.proof.now a.nodes.now a.members.now a.h in
    let w = row_from a.row.now a.set.now in
    let room : room_for T w ≡ true = asked_true c.room.ensures (ap not c.if-not-room.false) in
    let f = fits T w room in
    let y = c.lay.ensures in
    let M = c.holding-more.ensures in
    let ok = accepted T w room (sym (found T w _ _ _ _ y.nodes_after y.members_after M c.in-Ok.ensures)) in
    let nodes = restored a.nodes.now (node_numbers w T.member_count) _ _ _ (9 * T.node_rows) (omega (arith, f.2)) y.nodes_after y.saved_node_after c.put_back.ensures.nodes_after in
    let members = restored a.members.now a.set.now _ _ _ T.member_count f.3 y.members_after y.saved_set_after c.put_back.ensures.members_after in
    record {
      answer =
          ap (λ (r : Reply). r.answer) c.reply.ensures
          ∙ c.show-answer.ensures
          ∙ ap (λ (k : Header). shown c.lay.new.nodes k.node_rows) M
          ∙ tried_answer T w room ok _ y.nodes_after;
      left =
          ap (λ (r : Reply). lent a.schema.now a.proof.now c.put_back.new.nodes c.put_back.new.members (header_after a.h r)) c.reply.ensures
          ∙ (λ i. lent a.schema.now a.proof.now (nodes i) (members i) a.h)
          ∙ sym (if_false _ _ _ c.if-keep.false);
    }

-- it is refused
pub returns-in-Err : goal.returns-in-Err
unfolding row_from room_for call_refusal node_numbers grown
returns-in-Err c =
    let a = c.args in
    let T = lent a.schema.now a.proof.now a.nodes.now a.members.now a.h in
    let w = row_from a.row.now a.set.now in
    let room : room_for T w ≡ true = asked_true c.room.ensures (ap not c.if-not-room.false) in
    let f = fits T w room in
    let y = c.lay.ensures in
    let b = c.put_back-in-Err.ensures in
    let nodes = restored a.nodes.now (node_numbers w T.member_count) _ _ _ (9 * T.node_rows) (omega (arith, f.2)) y.nodes_after y.saved_node_after b.nodes_after in
    let members = restored a.members.now a.set.now _ _ _ T.member_count f.3 y.members_after y.saved_set_after b.members_after in
    let rows : lent a.schema.now a.proof.now c.put_back-in-Err.new.nodes c.put_back-in-Err.new.members a.h ≡ T =
    λ i. lent a.schema.now a.proof.now (nodes i) (members i) a.h in
    let why = c.in-Err.refused.why in
    let place = placed T.node_rows why c.in-Err.refused.place in
    let r = refused T w room why c.in-Err.refused.place (sym (found T w _ _ _ _ y.nodes_after y.members_after c.holding-more.ensures c.in-Err.ensures)) in
    record {
      answer =
          ap (λ (s : Reply). s.answer) c.turn_away-in-Err.ensures
          ∙ (λ i. turned_away (rows i) (c.said_of.ensures i).why (c.said_of.ensures i).place)
          ∙ turned_answer T why place (add_row w) r;
      left =
          ap (λ (s : Reply). lent a.schema.now a.proof.now c.put_back-in-Err.new.nodes c.put_back-in-Err.new.members (header_after a.h s)) c.turn_away-in-Err.ensures
          ∙ rows
          ∙ turned_tried a.keep T w (turned_left T why place (add_row w) r);
    }
