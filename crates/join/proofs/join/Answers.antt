-- The result tables are full, and it is known what is found before anything is written.
use Rattle.std.proofs.Common.{◌≡◌, sym, ◌∙◌, ap, not, Err, true}
use Rattle.stab.specs.Lent.{lent}
use Rattle.stab.proofs.Bools.{asked_false, asked_true}
use Rattle.join.specs.Kept.{rooms, roomy}
use Rattle.join.proofs.Answers.{short_found, found_before_lem, refused_by, answers}
use Rattle.join.proofs.join.Goals as goal

pub returns-then-not-full : goal.returns-then-not-full
returns-then-not-full c =
    let a = c.args in
    let A = lent a.first_schema.now a.first_proof.now a.first_nodes.now a.first_members.now a.first in
    let B = lent a.second_schema.now a.second_proof.now a.second_nodes.now a.second_members.now a.second in
    let R = rooms a.out_schema.now a.out_proof.now a.out_nodes.now a.out_members.now in
    let e = c.refuse.ensures in
    let k = answers R A B
    (refused_by R A B (short_found R A B (asked_false c.full.ensures (ap not c.if-not-full.true))) (e.value ∙ ap Err c.at.ensures) e.out_schema_after e.out_proof_after e.out_nodes_after e.out_members_after) in
    record { answer = k.0; schema = k.1.0; rows = k.1.1.0; nodes = k.1.1.1.0; members = k.1.1.1.1 }

pub filled-requires : goal.filled-requires
filled-requires c = record {
  out_members_value = asked_true c.full.ensures (ap not c.if-not-full.false);
  second_value = sym c.in-Ok.ensures;
}

pub returns-in-Err : goal.returns-in-Err
returns-in-Err c =
    let a = c.args in
    let A = lent a.first_schema.now a.first_proof.now a.first_nodes.now a.first_members.now a.first in
    let B = lent a.second_schema.now a.second_proof.now a.second_nodes.now a.second_members.now a.second in
    let R = rooms a.out_schema.now a.out_proof.now a.out_nodes.now a.out_members.now in
    let room : roomy R ≡ true = asked_true c.full.ensures (ap not c.if-not-full.false) in
    let e = c.refuse-in-Err.ensures in
    let k = answers R A B
    (refused_by R A B (found_before_lem R A B room _ _ (sym c.in-Err.ensures)) e.value e.out_schema_after e.out_proof_after e.out_nodes_after e.out_members_after) in
    record { answer = k.0; schema = k.1.0; rows = k.1.1.0; nodes = k.1.1.1.0; members = k.1.1.1.1 }

pub returns-in-Ok : goal.returns-in-Ok
returns-in-Ok c =
    let a = c.args in
    let A = lent a.first_schema.now a.first_proof.now a.first_nodes.now a.first_members.now a.first in
    let B = lent a.second_schema.now a.second_proof.now a.second_nodes.now a.second_members.now a.second in
    let R = rooms a.out_schema.now a.out_proof.now a.out_nodes.now a.out_members.now in
    let k = answers R A B c.filled.ensures in
    record { answer = k.0; schema = k.1.0; rows = k.1.1.0; nodes = k.1.1.1.0; members = k.1.1.1.1 }
