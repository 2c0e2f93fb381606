-- No node is held and the tables are 0; what is found then is the answer.
use Rattle.std.proofs.Common.{◌≡◌, sym, ◌∙◌, ap, List, [], ℤ, pos, length}
use Rattle.stab.specs.Node.{Tableau}
use Rattle.stab.specs.Lent.{lent}
use Rattle.stab.specs.Check.{refusal, held_mode}
use Rattle.stab.specs.Text.{padded}
use Rattle.stab.specs.Finding.{Finding}
use Rattle.stab.specs.declared.Header.{Header}
use Rattle.growing.specs.Growing.{holding, begun, begin_refusal}
use Rattle.growing.specs.Lent.{holding_in, header_after, reply_of}
use Rattle.growing.specs.declared.Growth.{Growth}
use Rattle.growing.specs.declared.Reply.{Reply}
use Rattle.grow.proofs.Calls.{begun_answer, begun_refused, header_of}
use Rattle.grow.proofs.begin.Goals as goal

module _ (T : Tableau) (nodes members : List ℤ) (h : Header) (e : nodes ≡ padded (pos 0) (length T.nodes) []) (f : members ≡ padded (pos 0) (length T.members) []) (g : h ≡ holding_in (header_of T) 0 0) where
  -- what is found once no node is held
  found : (x : Finding) → x ≡ refusal held_mode (lent T.schema T.proof nodes members h) → x ≡ begin_refusal T
  unfolding begin_refusal begun holding
  found x k = k ∙ (λ i. refusal held_mode (lent T.schema T.proof (e i) (f i) (g i)))

  -- what is left
  left : (r : Reply) (x : Growth) → r ≡ reply_of h x → lent T.schema T.proof nodes members (header_after (header_of T) r) ≡ begun T
  unfolding begun holding
  left r x k i = lent T.schema T.proof (e i) (f i) (header_after (header_of T) ((k ∙ ap (λ (n : Header). reply_of n x) g) i))

pub returns-in-Err : goal.returns-in-Err
returns-in-Err c =
    let a = c.args in
    let T = lent a.schema.now a.proof.now a.nodes.now a.members.now a.h in
    let r = c.in-Err.refused in
    let x = found T _ _ _ c.hold.ensures.nodes_after c.hold.ensures.members_after c.holding-none.ensures _ c.in-Err.ensures in
    record {
      answer = ap (λ (s : Reply). s.answer) c.reply.ensures ∙ c.open.ensures ∙ sym (begun_refused T r.why r.place (sym x));
      left = left T _ _ _ c.hold.ensures.nodes_after c.hold.ensures.members_after c.holding-none.ensures _ _ c.reply.ensures;
    }

pub returns-in-Ok : goal.returns-in-Ok
returns-in-Ok c =
    let a = c.args in
    let T = lent a.schema.now a.proof.now a.nodes.now a.members.now a.h in
    let x = found T _ _ _ c.hold.ensures.nodes_after c.hold.ensures.members_after c.holding-none.ensures _ c.in-Ok.ensures in
    record {
      answer = ap (λ (s : Reply). s.answer) c.reply-in-Ok.ensures ∙ c.open-in-Ok.ensures ∙ sym (begun_answer T (sym x));
      left = left T _ _ _ c.hold.ensures.nodes_after c.hold.ensures.members_after c.holding-none.ensures _ _ c.reply-in-Ok.ensures;
    }
