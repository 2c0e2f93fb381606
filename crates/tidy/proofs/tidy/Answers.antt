-- The result tables are full, and the older check's verdict is known.
use Rattle.std.proofs.Common.{◌≡◌, ◌≤◌, true, length, leb, sym, ◌∙◌, ap, not, arith, Err}
use borrow.Author.Tests.{leb-true}
use Rattle.stab.specs.Basic.{◌and◌}
use Rattle.stab.specs.Node.{row_count}
use Rattle.stab.specs.Lent.{lent}
use Rattle.stab.specs.Keeps.{KeepsOlder}
use Rattle.stab.proofs.Bools.{and_left, and_right, asked_false, asked_true}
use Rattle.stab.proofs.Exactness.{older_accepts_exactly}
use Rattle.tidied.specs.Tidied.{new_of}
use Rattle.tidy.specs.Kept.{rooms}
use Rattle.tidy.proofs.Fitting.{sets_fit}
use Rattle.tidy.proofs.Answers.{answers_short, answers_refused, answers_tidied}
use Rattle.tidy.proofs.tidy.Goals as goal

pub returns-then-not-full : goal.returns-then-not-full
returns-then-not-full c =
    let a = c.args in
    let R = rooms a.out_proof.now a.out_nodes.now a.out_members.now in
    let T = lent a.schema.now a.proof.now a.nodes.now a.members.now a.h in
    let e = c.refuse.ensures in
    let k = answers_short R T (asked_false c.full.ensures (ap not c.if-not-full.true)) (e.value ∙ ap Err c.at.ensures) e.out_proof_after e.out_nodes_after e.out_members_after in
    record { answer = k.0; rows = k.1.0; nodes = k.1.1.0; members = k.1.1.1 }

pub tidied-requires : goal.tidied-requires
unfolding row_count
tidied-requires c =
    let a = c.args in
    let T = lent a.schema.now a.proof.now a.nodes.now a.members.now a.h in
    let k : KeepsOlder T = ((older_accepts_exactly _ _ _).0 (sym c.in-Ok.ensures.value)).0 in
    let f : (leb 4096 (length a.out_proof.now) and leb 9216 (length a.out_nodes.now) and leb 8192 (length a.out_members.now)) ≡ true =
    asked_true c.full.ensures (ap not c.if-not-full.false) in
    let g = and_right (leb 4096 (length a.out_proof.now)) _ f in
    let n : 4096 ≤ length a.out_proof.now = leb-true _ _ (and_left _ _ f) in
    let o : 9216 ≤ length a.out_nodes.now = leb-true _ _ (and_left _ _ g) in
    let p : 8192 ≤ length a.out_members.now = leb-true _ _ (and_right (leb 9216 (length a.out_nodes.now)) _ g) in
    record {
      proof_rows_bound = (k.tables.row_limit, k.tables.node_limit, omega (arith, k.tables.row_limit, n), omega (arith, k.tables.node_limit, o), p);
      all_fit = sets_fit T k (new_of T);
    }

pub returns-in-Err : goal.returns-in-Err
returns-in-Err c =
    let a = c.args in
    let R = rooms a.out_proof.now a.out_nodes.now a.out_members.now in
    let T = lent a.schema.now a.proof.now a.nodes.now a.members.now a.h in
    let e = c.refuse-in-Err.ensures in
    let k = answers_refused R T e.value e.out_proof_after e.out_nodes_after e.out_members_after (asked_true c.full.ensures (ap not c.if-not-full.false)) (sym c.in-Err.ensures.value) in
    record { answer = k.0; rows = k.1.0; nodes = k.1.1.0; members = k.1.1.1 }

pub returns-in-Ok : goal.returns-in-Ok
returns-in-Ok c =
    let a = c.args in
    let R = rooms a.out_proof.now a.out_nodes.now a.out_members.now in
    let T = lent a.schema.now a.proof.now a.nodes.now a.members.now a.h in
    let e = c.tidied.ensures in
    let k = answers_tidied R T (asked_true c.full.ensures (ap not c.if-not-full.false)) (sym c.in-Ok.ensures.value) e.value e.out_proof_after e.out_nodes_after e.out_members_after in
    record { answer = k.0; rows = k.1.0; nodes = k.1.1.0; members = k.1.1.1 }
