-- Both records keep the rules; so there are few enough rows and nodes, and what was written is the joined record, or too much of it.
use Rattle.std.proofs.Common.{◌≡◌, ◌+◌, ◌≤◌, ℕ, suc, [], length, pos, ◌∙◌, ap, arith, rules, w32, to_z, of_z, Ok, Err}
use borrow.Author.Tests.{le-leb}
use Rattle.stab.specs.Lent.{lent}
use Rattle.stab.specs.Text.{padded}
use Rattle.stab.specs.Keeps.{Keeps}
use Rattle.stab.proofs.Bools.{if_true}
use Rattle.signed.proofs.Signs.{read_back}
use Rattle.joint.specs.Joint.{schema_count, or_row, joint}
use Rattle.jointrefusal.proofs.Before.{first_keeps, second_keeps, few_rows, few_schema, few_nodes_lem, small_or}
use Rattle.join.specs.Kept.{rooms}
use Rattle.join.proofs.Placed.{readable, of_plain, members_are, nodes_are}
use Rattle.join.proofs.Answers.{full_room, joinable, few_folded, rows_over, members_over, all_fit, too_large, record_made}
use Rattle.join.proofs.filled.Goals as goal

pub overflow_add-or_row : goal.overflow_add-or_row
overflow_add-or_row c =
    let a = c.args in
    let A = lent a.first_schema.now a.first_proof.now a.first_nodes.now a.first_members.now a.first in
    let B = lent a.second_schema.now a.second_proof.now a.second_nodes.now a.second_members.now a.second in
    omega (arith, few_schema A B c.requires.second_value)

pub fill_rows-rows-requires : goal.fill_rows-rows-requires
fill_rows-rows-requires c =
    let a = c.args in
    let A = lent a.first_schema.now a.first_proof.now a.first_nodes.now a.first_members.now a.first in
    let B = lent a.second_schema.now a.second_proof.now a.second_nodes.now a.second_members.now a.second in
    let R = rooms a.out_schema.now a.out_proof.now a.out_nodes.now a.out_members.now in
    let KA : Keeps A = first_keeps A B c.requires.second_value in
    let KB : Keeps B = second_keeps A B c.requires.second_value in
    let room = full_room R c.requires.out_members_value in
    record {
      joinable = (joinable A KA.older, joinable B KB.older, few_schema A B c.requires.second_value);
      first_numbers_len = (omega arith, omega arith, room.0, room.1);
    }

pub overflow_add-or_row-2 : goal.overflow_add-or_row-2
overflow_add-or_row-2 c =
    let a = c.args in
    let A = lent a.first_schema.now a.first_proof.now a.first_nodes.now a.first_members.now a.first in
    let B = lent a.second_schema.now a.second_proof.now a.second_nodes.now a.second_members.now a.second in
    omega (arith, few_schema A B c.requires.second_value)

pub overflow_add-or_row-3 : goal.overflow_add-or_row-3
overflow_add-or_row-3 c =
    let a = c.args in
    let A = lent a.first_schema.now a.first_proof.now a.first_nodes.now a.first_members.now a.first in
    let B = lent a.second_schema.now a.second_proof.now a.second_nodes.now a.second_members.now a.second in
    let KA : Keeps A = first_keeps A B c.requires.second_value in
    let KB : Keeps B = second_keeps A B c.requires.second_value in
    let P = of_plain A B c.fill_rows-rows.ensures in
    omega (arith, P.counted, few_folded A B, few_rows A KA.older, few_rows B KB.older)

pub returns-then-or_row-rows-gt1024 : goal.returns-then-or_row-rows-gt1024
unfolding schema_count
returns-then-or_row-rows-gt1024 c =
    let a = c.args in
    let A = lent a.first_schema.now a.first_proof.now a.first_nodes.now a.first_members.now a.first in
    let B = lent a.second_schema.now a.second_proof.now a.second_nodes.now a.second_members.now a.second in
    let R = rooms a.out_schema.now a.out_proof.now a.out_nodes.now a.out_members.now in
    let P = of_plain A B c.fill_rows-rows.ensures in
    let e = c.refuse.ensures in
    too_large R A B c.requires.out_members_value c.requires.second_value (rows_over A B (omega (arith, c.if-or_row-rows-gt1024.true, P.counted)))
    (e.value ∙ ap Err c.whole.ensures)
    (e.out_schema_after ∙ ap (λ (n : ℕ). padded (pos 0) n []) c.fill_rows-rows.auto.out_schema)
    (e.out_proof_after ∙ ap (λ (n : ℕ). padded (pos 0) n []) c.fill_rows-rows.auto.out_proof)
    e.out_nodes_after
    e.out_members_after

pub fill_nodes-members-requires : goal.fill_nodes-members-requires
fill_nodes-members-requires c =
    let a = c.args in
    let A = lent a.first_schema.now a.first_proof.now a.first_nodes.now a.first_members.now a.first in
    let B = lent a.second_schema.now a.second_proof.now a.second_nodes.now a.second_members.now a.second in
    let R = rooms a.out_schema.now a.out_proof.now a.out_nodes.now a.out_members.now in
    let KA : Keeps A = first_keeps A B c.requires.second_value in
    let KB : Keeps B = second_keeps A B c.requires.second_value in
    let P = of_plain A B c.fill_rows-rows.ensures in
    let room = full_room R c.requires.out_members_value in
    record {
      or_row_bound = (few_schema A B c.requires.second_value, few_nodes_lem A B c.requires.second_value, room.2, room.3, P.first_small, P.second_small);
      all_readable = (readable A KA.older, readable B KB.older);
    }

pub returns-then-members-gt8192 : goal.returns-then-members-gt8192
unfolding or_row
returns-then-members-gt8192 c =
    let a = c.args in
    let A = lent a.first_schema.now a.first_proof.now a.first_nodes.now a.first_members.now a.first in
    let B = lent a.second_schema.now a.second_proof.now a.second_nodes.now a.second_members.now a.second in
    let R = rooms a.out_schema.now a.out_proof.now a.out_nodes.now a.out_members.now in
    let KA : Keeps A = first_keeps A B c.requires.second_value in
    let KB : Keeps B = second_keeps A B c.requires.second_value in
    let P = of_plain A B c.fill_rows-rows.ensures in
    let counted : c.fill_nodes-members.result ≡ length (joint A B).members =
    c.fill_nodes-members.ensures.value ∙ ap length (members_are A B KA KB c.fill_rows-rows.new.first_numbers c.fill_rows-rows.new.second_numbers P.first_numbers P.second_numbers) in
    let e = c.refuse-then-members-gt8192.ensures in
    too_large R A B c.requires.out_members_value c.requires.second_value (members_over A B (omega (arith, c.if-members-gt8192.true, counted)))
    (e.value ∙ ap Err c.whole-then-members-gt8192.ensures)
    (e.out_schema_after ∙ ap (λ (n : ℕ). padded (pos 0) n []) c.fill_rows-rows.auto.out_schema)
    (e.out_proof_after ∙ ap (λ (n : ℕ). padded (pos 0) n []) c.fill_rows-rows.auto.out_proof)
    (e.out_nodes_after ∙ ap (λ (n : ℕ). padded (pos 0) n []) c.fill_nodes-members.auto.out_nodes)
    (e.out_members_after ∙ ap (λ (n : ℕ). padded (pos 0) n []) c.fill_nodes-members.auto.out_members)

pub overflow_add-result-2 : goal.overflow_add-result-2
overflow_add-result-2 c =
    let a = c.args in
    let A = lent a.first_schema.now a.first_proof.now a.first_nodes.now a.first_members.now a.first in
    let B = lent a.second_schema.now a.second_proof.now a.second_nodes.now a.second_members.now a.second in
    omega (arith, few_nodes_lem A B c.requires.second_value)

pub overflow_add-result-3 : goal.overflow_add-result-3
overflow_add-result-3 c =
    let a = c.args in
    let A = lent a.first_schema.now a.first_proof.now a.first_nodes.now a.first_members.now a.first in
    let B = lent a.second_schema.now a.second_proof.now a.second_nodes.now a.second_members.now a.second in
    omega (arith, few_nodes_lem A B c.requires.second_value)

pub returns : goal.returns
unfolding schema_count or_row
returns c =
    let a = c.args in
    let A = lent a.first_schema.now a.first_proof.now a.first_nodes.now a.first_members.now a.first in
    let B = lent a.second_schema.now a.second_proof.now a.second_nodes.now a.second_members.now a.second in
    let R = rooms a.out_schema.now a.out_proof.now a.out_nodes.now a.out_members.now in
    let KA : Keeps A = first_keeps A B c.requires.second_value in
    let KB : Keeps B = second_keeps A B c.requires.second_value in
    let P = of_plain A B c.fill_rows-rows.ensures in
    let counted : c.fill_nodes-members.result ≡ length (joint A B).members =
    c.fill_nodes-members.ensures.value ∙ ap length (members_are A B KA KB c.fill_rows-rows.new.first_numbers c.fill_rows-rows.new.second_numbers P.first_numbers P.second_numbers) in
    let fits : a.first.schema_rows + a.second.schema_rows + 1 + c.fill_rows-rows.result ≤ 1024 = omega (arith, c.if-or_row-rows-gt1024.false) in
    let few = c.if-members-gt8192.false in
    let root : to_z w32 (of_z w32 c.of.result) ≡ c.of.result = search (rules, read_back) in
    let least : to_z w32 (of_z w32 a.first.least) ≡ a.first.least = search (rules, read_back) in
    let e : a.first.schema_rows + a.second.schema_rows + 1 ≡ suc (a.first.schema_rows + a.second.schema_rows) = omega arith in
    let k : 1 + a.first.node_rows + a.second.node_rows ≡ suc (a.first.node_rows + a.second.node_rows) = omega arith in
    record_made R A B c.requires.out_members_value c.requires.second_value
    (all_fit A B (omega (arith, fits, P.counted)) (few_nodes_lem A B c.requires.second_value) (omega (arith, few, counted)) (small_or A B c.requires.second_value))
    (λ x. Ok (record { root = (root ∙ c.of.ensures) x; least = least x; schema_rows = e x; proof_rows = P.counted x; node_rows = k x; member_count = counted x }))
    P.schema_table
    (P.proof_table ∙ ap (padded (pos 0) (length a.out_proof.now)) (if_true _ _ [] (le-leb _ 1024 fits)))
    (c.fill_nodes-members.ensures.out_nodes_after ∙ ap (padded (pos 0) (length a.out_nodes.now)) (if_true _ _ [] (le-leb _ 8192 few) ∙ nodes_are A B KA KB c.fill_rows-rows.new.first_numbers c.fill_rows-rows.new.second_numbers P.first_numbers P.second_numbers))
    (c.fill_nodes-members.ensures.out_members_after ∙ ap (padded (pos 0) (length a.out_members.now)) (if_true _ _ [] (le-leb _ 8192 few) ∙ members_are A B KA KB c.fill_rows-rows.new.first_numbers c.fill_rows-rows.new.second_numbers P.first_numbers P.second_numbers))
