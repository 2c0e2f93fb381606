-- What is found of the rows held is said, or else the call is refused.
use Rattle.std.proofs.Common.{sym, ◌∙◌, ap}
use Rattle.stab.specs.Lent.{lent}
use Rattle.growing.specs.Growing.{refused_call}
use Rattle.growing.specs.Lent.{reply_of}
use Rattle.growing.proofs.States.{held_clears}
use Rattle.grow.proofs.Calls.{refused_turned, passed_turned, countable}
use Rattle.grow.proofs.turn_away.Goals as goal

pub complete-closed-requires : goal.complete-closed-requires
complete-closed-requires c =
    let a = c.args in
    let T = lent a.schema.now a.proof.now a.nodes.now a.members.now a.h in
    countable T ((held_clears T).0 (sym c.in-Ok.ensures))

pub returns-in-Err : goal.returns-in-Err
returns-in-Err c =
    let a = c.args in
    let T = lent a.schema.now a.proof.now a.nodes.now a.members.now a.h in
    let r = c.in-Err.earlier in
    c.reply.ensures
    ∙ ap (reply_of a.h) (c.open.ensures ∙ refused_turned T a.refused.why a.refused.place r.why r.place (sym c.in-Err.ensures))

pub returns-in-Ok : goal.returns-in-Ok
returns-in-Ok c =
    let a = c.args in
    let T = lent a.schema.now a.proof.now a.nodes.now a.members.now a.h in
    let r = a.refused in
    c.reply-in-Ok.ensures
    ∙ ap (reply_of a.h) (ap (refused_call r.why r.place) c.complete-closed.ensures ∙ passed_turned T r.why r.place (sym c.in-Ok.ensures))
