use Prim.Native.Nat.{ℕ, ◌*◌, ◌≤◌}
use native.Mathlib.Omega.{arith}
use mathlib.Core.Path.{◌≡◌, sym, ◌∙◌, ap, subst}
use mathlib.Core.Bool.{Bool, true, false, not}
use mathlib.Core.List.{List}
use borrow.Author.Rules.{rules}
use borrow.Author.Tests.{leb-true, not-true, not-false}
use lib.Dec.{leb}
use lib.IntN.{pos}
use lib.ListN.{length, take}
use Rattle.stab.specs.Basic.{◌and◌, all_of, eq_z, nat}
use Rattle.stab.specs.Node.{set_start}
use Rattle.stab.specs.Text.{five_digits}
use Rattle.stab.specs.Check.{holds}
use Rattle.stab.specs.Write.{rows_writable, nodes_writable, sets_writable, proof_text, write_proof}
use Rattle.stab.proofs.Bools.{and_left, and_right}
use Rattle.stab.proofs.Whole.{eq_z_true}
use Rattle.output.specs.Headed.{Writable}
use Rattle.output.specs.NodeTexts.{NodesWritable}
use Rattle.writing.proofs.Writings.{too_short, too_many, no_number, left, answered}
use Rattle.writing.proofs.write_proof.Statement.{statement}
use Rattle.writing.proofs.write_proof.Tie as tie

abbrev Whole : tie.Start → List ℕ
Whole s = proof_text s.args.table.now s.args.rows s.args.nodes.now s.args.node_rows s.args.members.now

abbrev N : tie.Start → ℕ
N s = length s.args.out.now

-- the three tests
abbrev Held : tie.Start → Bool
Held s =
    holds s.args.table.now 4 s.args.rows and
    holds s.args.nodes.now 9 s.args.node_rows and
    holds s.args.members.now 1 s.args.member_count

abbrev Few : tie.Start → Bool
Few s = leb s.args.rows 1024 and leb s.args.node_rows 1024 and leb s.args.member_count 8192

abbrev Ok : tie.Start → Bool
Ok s =
    rows_writable 4 s.args.rows s.args.table.now and
    sets_writable s.args.nodes.now s.args.node_rows s.args.members.now s.args.member_count

-- and what each says where it has passed
module _ (s : tie.Start) where
  held_rows : Held s ≡ true → 4 * s.args.rows ≤ length s.args.table.now
  unfolding holds
  held_rows h = leb-true _ _ (and_left _ _ h)

  held_nodes_lem : Held s ≡ true → 9 * s.args.node_rows ≤ length s.args.nodes.now
  unfolding holds
  held_nodes_lem h = leb-true _ _ (and_left _ _ (and_right (leb (4 * s.args.rows) (length s.args.table.now)) _ h))

  held_members_lem : Held s ≡ true → s.args.member_count ≤ length s.args.members.now
  unfolding holds
  held_members_lem h =
      omega (
        arith,
        leb-true (1 * s.args.member_count) (length s.args.members.now)
            (and_right (leb (9 * s.args.node_rows) (length s.args.nodes.now)) _ (and_right (leb (4 * s.args.rows) (length s.args.table.now)) _ h)),
      )

  few_rows : Few s ≡ true → s.args.rows ≤ 1024
  few_rows h = leb-true _ _ (and_left _ _ h)

  few_nodes_lem : Few s ≡ true → s.args.node_rows ≤ 1024
  few_nodes_lem h = leb-true _ _ (and_left _ _ (and_right (leb s.args.rows 1024) _ h))

  few_members_lem : Few s ≡ true → s.args.member_count ≤ 8192
  few_members_lem h = leb-true _ _ (and_right (leb s.args.node_rows 1024) _ (and_right (leb s.args.rows 1024) _ h))

  ok_rows : Held s ≡ true → Ok s ≡ true → Writable 4 s.args.table.now s.args.rows
  unfolding rows_writable
  ok_rows h o = record { some = omega arith; held = held_rows h; digits = and_left _ _ o }

  sets : Ok s ≡ true → sets_writable s.args.nodes.now s.args.node_rows s.args.members.now s.args.member_count ≡ true
  sets o = and_right (rows_writable 4 s.args.rows s.args.table.now) _ o

  ends : Ok s ≡ true → nat (set_start s.args.nodes.now s.args.node_rows) ≡ s.args.member_count
  unfolding sets_writable nat
  ends o =
      ap nat
      (eq_z_true (set_start s.args.nodes.now s.args.node_rows) (pos s.args.member_count)
      (and_left _ _ (and_right (nodes_writable s.args.nodes.now s.args.node_rows) _ (sets o))))

  ok_digits : Ok s ≡ true → all_of five_digits (take s.args.member_count s.args.members.now) ≡ true
  unfolding sets_writable
  ok_digits o =
      and_right (eq_z (set_start s.args.nodes.now s.args.node_rows) (pos s.args.member_count)) _
      (and_right (nodes_writable s.args.nodes.now s.args.node_rows) _ (sets o))

  ok_nodes : Held s ≡ true → Ok s ≡ true → NodesWritable s.args.nodes.now s.args.node_rows s.args.members.now
  unfolding sets_writable
  ok_nodes h o =
      record {
        held = held_nodes_lem h;
        sets = and_left _ _ (sets o);
        inside = omega (arith, ends o, held_members_lem h);
        digits = subst (λ (m : ℕ). all_of five_digits (take m s.args.members.now) ≡ true) (sym (ends o)) (ok_digits o);
      }

proof_held-requires : tie.Need-proof_held-requires
proof_held-requires c κs = search rules

refuse-requires : tie.Need-refuse-requires
refuse-requires c κs = search rules

shape_of-out-then-not-proof_held : tie.Need-shape_of-out-then-not-proof_held
shape_of-out-then-not-proof_held c = search rules

-- where the tables do not hold what their counts say
unheld : (c : tie.Then-not-proof_held) → Held c.before.before.before ≡ false
unheld c = sym c.proof_held.ensures ∙ not-true _ (ap not c.if-not-proof_held.true)

returns-then-not-proof_held : tie.Need-returns-then-not-proof_held
unfolding write_proof
returns-then-not-proof_held c =
    answered (N c.before.before.before.before.before.before.before)
    (too_short (Held c.before.before.before.before.before.before.before) (Few c.before.before.before.before.before.before.before) (Ok c.before.before.before.before.before.before.before) (N c.before.before.before.before.before.before.before) (Whole c.before.before.before.before.before.before.before) (unheld c.before.before.before.before))
    c.refuse.ensures

-- where the tables hold, where there are few enough, and where all can be written
abbrev S : tie.Else-not-proof_held → tie.Start
S c = c.before.before.before

held : (c : tie.Else-not-proof_held) → Held (S c) ≡ true
held c = sym c.proof_held.ensures ∙ not-false _ (ap not c.if-not-proof_held.false)

few : (c : tie.Else-not-proof_few) → Few (S c.before.before) ≡ true
few c = sym c.proof_few.ensures ∙ not-false _ (ap not c.if-not-proof_few.false)

ok : (c : tie.Else-not-proof_writable) → Ok (S c.before.before.before.before) ≡ true
ok c = sym c.proof_writable.ensures ∙ not-false _ (ap not c.if-not-proof_writable.false)

-- and where the second or the third test fails
unfew : (c : tie.Then-not-proof_few) → Few (S c.before.before) ≡ false
unfew c = sym c.proof_few.ensures ∙ not-true _ (ap not c.if-not-proof_few.true)

unwritable : (c : tie.Then-not-proof_writable) → Ok (S c.before.before.before.before) ≡ false
unwritable c = sym c.proof_writable.ensures ∙ not-true _ (ap not c.if-not-proof_writable.true)

proof_few-requires : tie.Need-proof_few-requires
proof_few-requires c κs = search rules

refuse-requires-then-not-proof_few : tie.Need-refuse-requires-then-not-proof_few
refuse-requires-then-not-proof_few c κs = search rules

shape_of-out-then-not-proof_few : tie.Need-shape_of-out-then-not-proof_few
shape_of-out-then-not-proof_few c = search rules

returns-then-not-proof_few : tie.Need-returns-then-not-proof_few
unfolding write_proof
returns-then-not-proof_few c =
    let s = S c.before.before.before.before.before.before in
    answered (N s)
    (too_many (Held s) (Few s) (Ok s) (N s) (Whole s) (held c.before.before.before.before.before.before) (unfew c.before.before.before.before))
    c.refuse-then-not-proof_few.ensures

proof_writable-requires : tie.Need-proof_writable-requires
proof_writable-requires c κs =
    (held_rows (S c.before.before) (held c.before.before), held_nodes_lem (S c.before.before) (held c.before.before), few_nodes_lem (S c.before.before) (few c), held_members_lem (S c.before.before) (held c.before.before))

refuse-requires-then-not-proof_writable : tie.Need-refuse-requires-then-not-proof_writable
refuse-requires-then-not-proof_writable c κs = search rules

shape_of-out-then-not-proof_writable : tie.Need-shape_of-out-then-not-proof_writable
shape_of-out-then-not-proof_writable c = search rules

returns-then-not-proof_writable : tie.Need-returns-then-not-proof_writable
unfolding write_proof
returns-then-not-proof_writable c =
    let s = S c.before.before.before.before.before.before.before.before in
    answered (N s)
    (no_number (Held s) (Few s) (Ok s) (N s) (Whole s) (held c.before.before.before.before.before.before.before.before) (few c.before.before.before.before.before.before) (unwritable c.before.before.before.before))
    c.refuse-then-not-proof_writable.ensures

fill_proof-requires : tie.Need-fill_proof-requires
fill_proof-requires c κs =
    let s = S c.before.before.before.before.before in (
      (ok_rows s (held c.before.before.before.before.before) (ok c.before), ok_nodes s (held c.before.before.before.before.before) (ok c.before), ends s (ok c.before)),
      (few_rows s (few c.before.before.before), few_nodes_lem s (few c.before.before.before), few_members_lem s (few c.before.before.before)),
    )

shape_of-out : tie.Need-shape_of-out
shape_of-out c = search rules

returns : tie.Need-returns
unfolding write_proof
returns c =
    let s = S c.before.before.before.before.before.before.before.before in
    answered (N s) (left (Held s) (Few s) (Ok s) (N s) (Whole s) (held c.before.before.before.before.before.before.before.before) (few c.before.before.before.before.before.before) (ok c.before.before.before.before)) c.fill_proof.ensures

pub write_proof_spec : {M : Type 1} → statement M
write_proof_spec =
    tie.close
    (tie.spec
    proof_held-requires
    refuse-requires
    shape_of-out-then-not-proof_held
    returns-then-not-proof_held
    proof_few-requires
    refuse-requires-then-not-proof_few
    shape_of-out-then-not-proof_few
    returns-then-not-proof_few
    proof_writable-requires
    refuse-requires-then-not-proof_writable
    shape_of-out-then-not-proof_writable
    returns-then-not-proof_writable
    fill_proof-requires
    shape_of-out
    returns)
