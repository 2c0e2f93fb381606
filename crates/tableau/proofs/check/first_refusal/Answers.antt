-- The tables hold what their counts say, and the counts are within the limits; then what is found later is found first.
use Rattle.std.proofs.Common.{◌≡◌, ◌+◌, ◌*◌, ◌≤◌, true, length, leb, sym, ◌∙◌, ap, not, arith, Err}
use borrow.Author.Tests.{leb-true}
use Rattle.stab.specs.Node.{Tableau, row_count}
use Rattle.stab.specs.Lent.{lent}
use Rattle.stab.specs.Check.{holds, tables_hold, within_limits, refusal}
use Rattle.stab.specs.Finding.{Finding}
use Rattle.stab.specs.declared.Mode.{Mode}
use Rattle.stab.specs.declared.Refusal.TheVariants.{TableTooShort, TooMany}
use Rattle.stab.proofs.Bools.{and_left, and_right, asked_false, asked_true}
use Rattle.stab.proofs.Findings.{later}
use Rattle.tableau.specs.Passes.{later_refusal}
use Rattle.tableau.proofs.CheckLaws.{whole_found, whole_passes, refusal_is}
use Rattle.tableau.proofs.check.first_refusal.Goals as goal

after_limits : (m : Mode) (T : Tableau) (x : Finding) → tables_hold T ≡ true → within_limits T ≡ true → x ≡ later_refusal m T → x ≡ refusal m T
after_limits m T x hold few e =
    later _ _ _ (whole_passes (tables_hold T) TableTooShort hold) (later _ _ _ (whole_passes (within_limits T) TooMany few) e) ∙ sym (refusal_is T m)

-- the sizes of the tables
sizes : (T : Tableau) → tables_hold T ≡ true → within_limits T ≡ true →
    (T.schema_rows + T.proof_rows ≤ 1024) × (T.node_rows ≤ 1024) × (T.member_count ≤ 8192) × (9 * T.node_rows ≤ length T.nodes) × (T.member_count ≤ length T.members)
unfolding tables_hold within_limits row_count holds
sizes T hold few =
    let tables = and_right (holds T.proof 4 T.proof_rows) _ (and_right (holds T.schema 4 T.schema_rows) _ hold) in
    let members = leb-true (1 * T.member_count) (length T.members) (and_right (holds T.nodes 9 T.node_rows) _ tables) in
    let more = and_right (leb (T.schema_rows + T.proof_rows) 1024) _ few in (
      leb-true (T.schema_rows + T.proof_rows) 1024 (and_left _ _ few),
      leb-true T.node_rows 1024 (and_left _ _ more),
      leb-true T.member_count 8192 (and_right (leb T.node_rows 1024) _ more),
      leb-true (9 * T.node_rows) (length T.nodes) (and_left _ _ tables),
      omega (arith, members),
    )

pub returns-then-not-hold : goal.returns-then-not-hold
returns-then-not-hold c =
    let a = c.args in
    let T = lent a.schema.now a.proof.now a.nodes.now a.members.now a.h in
    ap Err c.whole.ensures
    ∙ whole_found (tables_hold T) TableTooShort _ (asked_false c.hold.ensures (ap not c.if-not-hold.true)) ∙ sym (refusal_is T _)

pub returns-then-not-few : goal.returns-then-not-few
unfolding within_limits row_count
returns-then-not-few c =
    let a = c.args in
    let T = lent a.schema.now a.proof.now a.nodes.now a.members.now a.h in
    let hold : tables_hold T ≡ true = asked_true c.hold.ensures (ap not c.if-not-hold.false) in
    ap Err c.whole-then-not-few.ensures
    ∙ later _ _ _ (whole_passes (tables_hold T) TableTooShort hold)
    (whole_found (within_limits T) TooMany _ (asked_false c.few.ensures (ap not c.if-not-few.true)))
    ∙ sym (refusal_is T _)

pub row_count-requires : goal.row_count-requires
unfolding within_limits row_count
row_count-requires c =
    let a = c.args in
    let T = lent a.schema.now a.proof.now a.nodes.now a.members.now a.h in
    let hold : tables_hold T ≡ true = asked_true c.hold.ensures (ap not c.if-not-hold.false) in
    let few : within_limits T ≡ true = asked_true c.few.ensures (ap not c.if-not-few.false) in
    (sizes T hold few).0

pub small_record-requires : goal.small_record-requires
unfolding within_limits row_count
small_record-requires c =
    let a = c.args in
    let T = lent a.schema.now a.proof.now a.nodes.now a.members.now a.h in
    let hold : tables_hold T ≡ true = asked_true c.hold.ensures (ap not c.if-not-hold.false) in
    let few : within_limits T ≡ true = asked_true c.few.ensures (ap not c.if-not-few.false) in
    let z = sizes T hold few in
    (omega (arith, c.row_count.ensures), omega arith, z.2, z.3, z.4)

pub returns-then-h-le256 : goal.returns-then-h-le256
unfolding within_limits row_count
returns-then-h-le256 c =
    let a = c.args in
    let T = lent a.schema.now a.proof.now a.nodes.now a.members.now a.h in
    let hold : tables_hold T ≡ true = asked_true c.hold.ensures (ap not c.if-not-hold.false) in
    let few : within_limits T ≡ true = asked_true c.few.ensures (ap not c.if-not-few.false) in
    after_limits _ T _ hold few c.small_record.ensures

pub large_record-requires : goal.large_record-requires
unfolding within_limits row_count
large_record-requires c =
    let a = c.args in
    let T = lent a.schema.now a.proof.now a.nodes.now a.members.now a.h in
    let hold : tables_hold T ≡ true = asked_true c.hold.ensures (ap not c.if-not-hold.false) in
    let few : within_limits T ≡ true = asked_true c.few.ensures (ap not c.if-not-few.false) in
    sizes T hold few

pub returns : goal.returns
unfolding within_limits row_count
returns c =
    let a = c.args in
    let T = lent a.schema.now a.proof.now a.nodes.now a.members.now a.h in
    let hold : tables_hold T ≡ true = asked_true c.hold.ensures (ap not c.if-not-hold.false) in
    let few : within_limits T ≡ true = asked_true c.few.ensures (ap not c.if-not-few.false) in
    after_limits _ T _ hold few c.large_record.ensures
