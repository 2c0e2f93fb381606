-- What joining answers and leaves, by what is found.
use Prim.Native.Nat.{suc, ◌+◌, ◌<◌, ◌≤◌}
use native.Mathlib.Omega.{arith}
use mathlib.Core.Path.{◌≡◌, sym, ◌∙◌, ap}
use mathlib.Core.Logic.{⊎_elim}
use mathlib.Core.Bool.{true, false}
use mathlib.Core.List.{List, []}
use lib.Dec.{leb, ltb}
use lib.IntN.{ℤ, pos}
use lib.ListN.{length}
use borrow.Author.Tests.{leb-true, le-leb, lt-leb, ltb-false}
use Rattle.stab.specs.Basic.{nat, eq_z, ◌otherwise◌}
use Rattle.stab.specs.Formula.{small_enough}
use Rattle.stab.specs.Node.{Tableau, rows, row_count}
use Rattle.stab.specs.Check.{whole_unless, at_unless, refusal, present_mode}
use Rattle.stab.specs.Keeps.{KeepsOlder}
use Rattle.stab.specs.Text.{padded}
use Rattle.std.specs.Prelude.{None, Some, Ok, Err, Result}
use Rattle.stab.specs.Finding.{no_refusal, refuse, Place, Finding}
use Rattle.stab.specs.declared.Refused.{Refused}
use Rattle.stab.specs.declared.Header.{Header}
use Rattle.stab.specs.declared.Refusal.{Refusal}
use Rattle.stab.specs.declared.Refusal.TheVariants.{TableTooShort, Leasts, Joint}
use Rattle.stab.proofs.Bools.{decide, and_left, and_right, and_both, and_first_true, and_first_false, and_second_false, nothing_unless, found_unless, otherwise_nothing, otherwise_found, nothing≢found}
use Rattle.stab.proofs.Formed.{formed_tests}
use Rattle.stab.proofs.Tests.{below_tests}
use Rattle.tidied.specs.Tidied.{folding_of, tidied}
use Rattle.joint.specs.Joint.{schema_count, or_row, joint_schema, untidied, joint, joint_fits, Rooms, join_refusal, joined_by, join, joined_table, joined_schema, joined_proof, joined_nodes, joined_members}
use Rattle.jointrows.specs.Kept.{Joinable}
use Rattle.jointrows.proofs.Rows.{few_stay}
use Rattle.jointrefusal.specs.Before.{fits_before, found_before}
use Rattle.jointrefusal.proofs.Before.{few_rows, first_passes, second_passes, leasts_pass}
use Rattle.join.specs.Kept.{roomy, Answers}
use Rattle.join.proofs.Placed.{plain}

-- the result tables have room
pub full_room : (R : Rooms) → roomy R ≡ true → (4096 ≤ R.schema) × (4096 ≤ R.proof) × (9216 ≤ R.nodes) × (8192 ≤ R.members)
full_room R h =
    let g = and_right (leb 4096 R.schema) _ h in
    let k = and_right (leb 4096 R.proof) _ g in
    (leb-true 4096 _ (and_left _ _ h), leb-true 4096 _ (and_left _ _ g), leb-true 9216 _ (and_left _ _ k), leb-true 8192 _ (and_right (leb 9216 R.nodes) _ k))

-- ---- the formula rows of an accepted record

pub joinable : (A : Tableau) → KeepsOlder A → Joinable (plain A)
unfolding rows row_count
joinable A K = record {
  few = few_rows A K;
  formed = λ r h. (formed_tests (rows A) r).1 (K.formulas.each r h).formed;
  root = (below_tests A.schema_rows A.root).1 K.formulas.root_row;
}

pub few_folded : (A B : Tableau) → (folding_of (untidied A B)).count ≤ A.proof_rows + B.proof_rows
unfolding folding_of untidied
few_folded A B = few_stay _ _ _ (A.proof_rows + B.proof_rows)

-- ---- the tests of 29

module _ (A B : Tableau) where
  pub rows_over : 1024 < schema_count A B + (folding_of (untidied A B)).count → joint_fits (joint A B) ≡ false
  unfolding joint_fits row_count joint tidied untidied
  rows_over h = and_first_false _ _ (lt-leb _ 1024 h)

  schema_over : 1024 ≤ A.schema_rows + B.schema_rows → joint_fits (joint A B) ≡ false
  unfolding schema_count
  schema_over h = rows_over (omega arith)

  nodes_over : 1024 ≤ A.node_rows + B.node_rows → joint_fits (joint A B) ≡ false
  unfolding joint_fits joint tidied untidied
  nodes_over h = and_second_false (leb (row_count (joint A B)) 1024) _ (and_first_false _ _ (lt-leb (suc (A.node_rows + B.node_rows)) 1024 (omega arith)))

  pub members_over : 8192 < length (joint A B).members → joint_fits (joint A B) ≡ false
  unfolding joint_fits joint tidied untidied
  members_over h =
      and_second_false (leb (row_count (joint A B)) 1024) _ (and_second_false (leb (joint A B).node_rows 1024) _ (and_first_false _ _ (lt-leb _ 8192 h)))

  or_over : small_enough (rows (joint A B)) (or_row A B) ≡ false → joint_fits (joint A B) ≡ false
  unfolding joint_fits joint tidied untidied nat
  or_over h =
      and_second_false (leb (row_count (joint A B)) 1024) _
      (and_second_false (leb (joint A B).node_rows 1024) _ (and_second_false (leb (joint A B).member_count 8192) _ h))

  pub all_fit : schema_count A B + (folding_of (untidied A B)).count ≤ 1024 → A.node_rows + B.node_rows < 1024 → length (joint A B).members ≤ 8192 → small_enough (rows (joint A B)) (or_row A B) ≡ true → joint_fits (joint A B) ≡ true
  unfolding joint_fits row_count joint tidied untidied nat
  all_fit a b c d = and_both _ _ (le-leb _ 1024 a) (and_both _ _ (le-leb (suc (A.node_rows + B.node_rows)) 1024 (omega arith)) (and_both _ _ (le-leb _ 8192 c) d))

  over_before : fits_before A B ≡ false → joint_fits (joint A B) ≡ false
  unfolding fits_before
  over_before h =
      ⊎_elim
      (λ s.
      ⊎_elim
      (λ n. or_over (sym (and_first_true (ltb (A.node_rows + B.node_rows) 1024) _ n) ∙ sym (and_first_true (ltb (A.schema_rows + B.schema_rows) 1024) _ s) ∙ h))
      (λ n. nodes_over (ltb-false (A.node_rows + B.node_rows) 1024 n))
      (decide (ltb (A.node_rows + B.node_rows) 1024)))
      (λ s. schema_over (ltb-false (A.schema_rows + B.schema_rows) 1024 s))
      (decide (ltb (A.schema_rows + B.schema_rows) 1024))

-- ---- what is found

-- what a later part finds is found by what takes its place
otherwise_carries : (x y z : Finding) (why : Refusal) (p : Place) → (y ≡ refuse why p → z ≡ refuse why p) → (x otherwise y) ≡ refuse why p → (x otherwise z) ≡ refuse why p
unfolding ◌otherwise◌
otherwise_carries (Ok u) y z why p f h = f h
otherwise_carries (Err r) y z why p f h = h

limit_carries : (A B : Tableau) (why : Refusal) (p : Place) → whole_unless (fits_before A B) Joint ≡ refuse why p → whole_unless (joint_fits (joint A B)) Joint ≡ refuse why p
unfolding whole_unless
limit_carries A B why p h =
    ⊎_elim
    (λ t. absurd (nothing≢found (sym (nothing_unless (fits_before A B) _ _ t) ∙ h)))
    (λ t. found_unless _ _ _ (over_before A B t) ∙ sym (found_unless (fits_before A B) _ _ t) ∙ h)
    (decide (fits_before A B))

module _ (R : Rooms) (A B : Tableau) where
  pub short_found : roomy R ≡ false → join_refusal R A B ≡ refuse TableTooShort (Some 0)
  unfolding join_refusal at_unless
  short_found h = otherwise_found _ _ (found_unless _ _ _ h)

  pub found_before_lem : roomy R ≡ true → (why : Refusal) (p : Place) → found_before A B ≡ refuse why p → join_refusal R A B ≡ refuse why p
  unfolding join_refusal at_unless found_before
  found_before_lem f why p h =
      otherwise_nothing _ _ (nothing_unless _ _ _ f)
      ∙ otherwise_carries (refusal present_mode A) _ _ why p
      (otherwise_carries (refusal present_mode B) _ _ why p (otherwise_carries (whole_unless (eq_z A.least B.least) Leasts) _ _ why p (limit_carries A B why p))) h

  limit_left : roomy R ≡ true → found_before A B ≡ no_refusal → join_refusal R A B ≡ whole_unless (joint_fits (joint A B)) Joint
  unfolding join_refusal at_unless
  limit_left f h =
      otherwise_nothing _ _ (nothing_unless _ _ _ f)
      ∙ otherwise_nothing _ _ (first_passes A B h)
      ∙ otherwise_nothing _ _ (second_passes A B h)
      ∙ otherwise_nothing _ _ (leasts_pass A B h)

  -- ---- the answer and the tables

  module _ {r : Result Header Refused} {schema proof nodes members : List ℤ} where
    answered : {found : Finding} → join_refusal R A B ≡ found → r ≡ joined_by found (joint A B) → schema ≡ joined_table found R.schema (joint A B).schema → proof ≡ joined_table found R.proof (joint A B).proof → nodes ≡ joined_table found R.nodes (joint A B).nodes → members ≡ joined_table found R.members (joint A B).members → Answers R A B r schema proof nodes members
    unfolding join joined_schema joined_proof joined_nodes joined_members
    answered e a b c d f = record {
      answer = a ∙ sym (ap (λ (o : Finding). joined_by o (joint A B)) e);
      schema_table = b ∙ sym (ap (λ (o : Finding). joined_table o R.schema (joint A B).schema) e);
      proof_table = c ∙ sym (ap (λ (o : Finding). joined_table o R.proof (joint A B).proof) e);
      node_table = d ∙ sym (ap (λ (o : Finding). joined_table o R.nodes (joint A B).nodes) e);
      member_table = f ∙ sym (ap (λ (o : Finding). joined_table o R.members (joint A B).members) e);
    }

    pub refused_by : {why : Refusal} {p : Place} → join_refusal R A B ≡ refuse why p → r ≡ refuse why p → schema ≡ padded (pos 0) R.schema [] → proof ≡ padded (pos 0) R.proof [] → nodes ≡ padded (pos 0) R.nodes [] → members ≡ padded (pos 0) R.members [] → Answers R A B r schema proof nodes members
    unfolding joined_by joined_table
    refused_by e a b c d f = answered e a b c d f

    -- 29
    pub too_large : roomy R ≡ true → found_before A B ≡ no_refusal → joint_fits (joint A B) ≡ false → r ≡ refuse Joint None → schema ≡ padded (pos 0) R.schema [] → proof ≡ padded (pos 0) R.proof [] → nodes ≡ padded (pos 0) R.nodes [] → members ≡ padded (pos 0) R.members [] → Answers R A B r schema proof nodes members
    unfolding whole_unless
    too_large f n h = refused_by (limit_left f n ∙ found_unless (joint_fits (joint A B)) _ _ h)

    -- the joined record
    pub record_made : roomy R ≡ true → found_before A B ≡ no_refusal → joint_fits (joint A B) ≡ true → r ≡ Ok (record { root = pos (or_row A B); least = A.least; schema_rows = schema_count A B; proof_rows = (folding_of (untidied A B)).count; node_rows = suc (A.node_rows + B.node_rows); member_count = length (joint A B).members }) → schema ≡ padded (pos 0) R.schema (joint_schema A B) → proof ≡ padded (pos 0) R.proof (folding_of (untidied A B)).table → nodes ≡ padded (pos 0) R.nodes (joint A B).nodes → members ≡ padded (pos 0) R.members (joint A B).members → Answers R A B r schema proof nodes members
    unfolding whole_unless joined_by joined_table joint tidied untidied
    record_made f n h a b c d e = answered (limit_left f n ∙ nothing_unless (joint_fits (joint A B)) _ _ h) a b c d e

    pub answers : Answers R A B r schema proof nodes members → (r ≡ join R A B) × ((schema ≡ joined_schema R A B) × ((proof ≡ joined_proof R A B) × ((nodes ≡ joined_nodes R A B) × (members ≡ joined_members R A B))))
    answers a = (a.answer, (a.schema_table, (a.proof_table, (a.node_table, a.member_table))))
