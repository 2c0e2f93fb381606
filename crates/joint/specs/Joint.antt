-- 02, No. 11: one record for either fault.
use Rattle.std.specs.Prelude.{ℕ, zero, suc, ◌+◌, ◌-◌, ◌≤◌, Bool, List, [], ◌∷◌, ◌++◌, leb, ltb, ℤ, pos, neg_ℤ, ◌+ℤ◌, take, if◌then◌else◌, Err, Ok, Result}
use Rattle.std.specs.Int.Signed.{le_z}
use Rattle.stab.specs.Basic.{◌and◌, eq_z, nat, ◌otherwise◌}
use Rattle.stab.specs.Formula.{Row, row_at, small_enough}
use Rattle.stab.specs.Node.{Tableau, Node, rows, row_count, node}
use Rattle.stab.specs.Check.{whole_unless, at_unless, refusal, present_mode}
use Rattle.stab.specs.Text.{padded}
use Rattle.stab.specs.Answer.{refusal_number, place_number, one_number, Packs}
use Rattle.stab.specs.declared.Refusal.TheVariants.{TableTooShort, Leasts, Joint}
use Rattle.stab.specs.Finding.{Finding}
use Rattle.stab.specs.declared.Refused.{Refused}
use Rattle.stab.specs.declared.Header.{Header}
use Rattle.tidied.specs.Tidied.{through, renumbered, columns, tidied}

-- ---- where rows stand in the joined record

-- "The joined schema has the first's rows, the second's, then the or.": how many
unfoldable pub schema_count : Tableau → Tableau → ℕ
schema_count A B = suc (A.schema_rows + B.schema_rows)

-- the or's row
unfoldable pub or_row : Tableau → Tableau → ℕ
or_row A B = A.schema_rows + B.schema_rows

-- "the proof rows, the first's before the second's": the new number of the first's row r, and of the second's
unfoldable pub of_first : Tableau → Tableau → ℕ → ℕ
of_first A B r = if ltb r A.schema_rows then r else schema_count A B + (r - A.schema_rows)

unfoldable pub of_second : Tableau → Tableau → ℕ → ℕ
of_second A B r = if ltb r B.schema_rows then A.schema_rows + r else schema_count A B + A.proof_rows + (r - B.schema_rows)

-- the first n rows of a table, their parts under new numbers
unfoldable pub moved_rows : (ℕ → ℕ) → List ℤ → ℕ → List ℤ
moved_rows new t zero = []
moved_rows new t (suc n) = moved_rows new t n ++ columns (renumbered new (row_at t n))

-- "the first or the second": rule 1's or of the two roots
unfoldable pub the_or : Tableau → Tableau → Row
the_or A B = record { kind = pos 5; a = through (of_first A B) A.root; b = through (of_second A B) B.root; c = pos 0 }

unfoldable pub joint_schema : Tableau → Tableau → List ℤ
joint_schema A B =
    moved_rows (of_first A B) A.schema A.schema_rows ++ moved_rows (of_second A B) B.schema B.schema_rows ++ columns (the_or A B)

unfoldable pub joint_proof : Tableau → Tableau → List ℤ
joint_proof A B = moved_rows (of_first A B) A.proof A.proof_rows ++ moved_rows (of_second A B) B.proof B.proof_rows

-- ---- nodes: "starts with rule 1 on that or, then has the first's nodes and the second's"

-- a node's number, d further on; a field that names none, -1, stays
unfoldable pub further : ℕ → ℤ → ℤ
further d z = if le_z (pos 0) z then z +ℤ pos d else z

-- the parent of a moved node: what had none, -1, is a child of node 0
unfoldable pub parent_of : ℕ → ℤ → ℤ
parent_of d z = if le_z (pos 0) z then z +ℤ pos d else pos 0

-- the nine numbers of a node that comes d nodes and m members further on
unfoldable pub moved_node : (ℕ → ℕ) → ℕ → ℕ → Node → List ℤ
moved_node new d m w =
    parent_of d w.up ∷ w.rule ∷ through new w.on ∷ through new w.with ∷ through new w.other ∷
    further d w.to ∷ w.by ∷ (w.start +ℤ pos m) ∷ w.size ∷ []

unfoldable pub moved_nodes : (ℕ → ℕ) → ℕ → ℕ → Tableau → ℕ → List ℤ
moved_nodes new d m T zero = []
moved_nodes new d m T (suc j) = moved_nodes new d m T j ++ moved_node new d m (node T j)

-- rule 1 on the or, its set the or alone
unfoldable pub first_node : Tableau → Tableau → List ℤ
first_node A B =
    neg_ℤ (pos 1) ∷ pos 1 ∷ pos (or_row A B) ∷ neg_ℤ (pos 1) ∷ neg_ℤ (pos 1) ∷ neg_ℤ (pos 1) ∷ pos 0 ∷ pos 0 ∷ pos 1 ∷ []

unfoldable pub joint_nodes : Tableau → Tableau → List ℤ
joint_nodes A B =
    first_node A B ++
    moved_nodes (of_first A B) 1 1 A A.node_rows ++
    moved_nodes (of_second A B) (suc A.node_rows) (suc A.member_count) B B.node_rows

unfoldable pub moved_members : (ℕ → ℕ) → List ℤ → List ℤ
moved_members new [] = []
moved_members new (z ∷ zs) = through new z ∷ moved_members new zs

unfoldable pub joint_members : Tableau → Tableau → List ℤ
joint_members A B =
    pos (or_row A B) ∷
    moved_members (of_first A B) (take A.member_count A.members) ++
    moved_members (of_second A B) (take B.member_count B.members)

-- ---- the joined record

-- before tidying
unfoldable pub untidied : Tableau → Tableau → Tableau
untidied A B = record {
  schema = joint_schema A B;
  schema_rows = schema_count A B;
  proof = joint_proof A B;
  proof_rows = A.proof_rows + B.proof_rows;
  root = pos (or_row A B);
  least = A.least;
  nodes = joint_nodes A B;
  node_rows = suc (A.node_rows + B.node_rows);
  members = joint_members A B;
  member_count = suc (A.member_count + B.member_count);
}

-- "tidied as in No. 10"
unfoldable pub joint : Tableau → Tableau → Tableau
joint A B = tidied (untidied A B)

-- "the tidied join's rows, nodes, members, size or depth"
unfoldable pub joint_fits : Tableau → Bool
joint_fits J =
    leb (row_count J) 1024 and leb J.node_rows 1024 and leb J.member_count 8192 and small_enough (rows J) (nat J.root)

-- ---- the answer

-- how many numbers the result tables have room for
pub record Rooms : Type 0 where
  pub schema : ℕ
  pub proof : ℕ
  pub nodes : ℕ
  pub members : ℕ

-- "Result tables .. fall first under 2 as in reading"; "A faulty input is refused with its own number and place, the first's before the
-- second's"; "28 if the least values differ; 29 if the tidied join's rows, nodes, members, size or depth pass 01's limits"
unfoldable pub join_refusal : Rooms → Tableau → Tableau → Finding
join_refusal R A B =
    at_unless (leb 4096 R.schema and leb 4096 R.proof and leb 9216 R.nodes and leb 8192 R.members) TableTooShort 0 otherwise
    refusal present_mode A otherwise
    refusal present_mode B otherwise
    whole_unless (eq_z A.least B.least) Leasts otherwise
    whole_unless (joint_fits (joint A B)) Joint

unfoldable pub joined_by : Finding → Tableau → Result Header Refused
joined_by (Ok u) J = Ok (record { root = J.root; least = J.least; schema_rows = J.schema_rows; proof_rows = J.proof_rows; node_rows = J.node_rows; member_count = J.member_count })
joined_by (Err r) J = Err r

unfoldable pub join : Rooms → Tableau → Tableau → Result Header Refused
join R A B = joined_by (join_refusal R A B) (joint A B)

-- lent memory of n numbers: 0 past the last, all 0 after a refusal
unfoldable pub joined_table : Finding → ℕ → List ℤ → List ℤ
joined_table (Ok u) n xs = padded (pos 0) n xs
joined_table (Err r) n xs = padded (pos 0) n []

-- the four lent tables
unfoldable pub joined_schema : Rooms → Tableau → Tableau → List ℤ
joined_schema R A B = joined_table (join_refusal R A B) R.schema (joint A B).schema

unfoldable pub joined_proof : Rooms → Tableau → Tableau → List ℤ
joined_proof R A B = joined_table (join_refusal R A B) R.proof (joint A B).proof

unfoldable pub joined_nodes : Rooms → Tableau → Tableau → List ℤ
joined_nodes R A B = joined_table (join_refusal R A B) R.nodes (joint A B).nodes

unfoldable pub joined_members : Rooms → Tableau → Tableau → List ℤ
joined_members R A B = joined_table (join_refusal R A B) R.members (joint A B).members

-- ---- the answer in numbers

pub record JoinedNumbers : Type 0 where
  pub answer : ℕ
  pub place : ℤ
  pub root : ℤ
  pub least : ℤ
  pub schema : ℕ
  pub proof : ℕ
  pub nodes : ℕ
  pub members : ℕ

unfoldable pub joined_numbers : Result Header Refused → JoinedNumbers
joined_numbers (Ok c) =
    record { answer = 0; place = pos 0; root = c.root; least = c.least; schema = c.schema_rows; proof = c.proof_rows; nodes = c.node_rows; members = c.member_count }
joined_numbers (Err r) =
    record { answer = refusal_number r.why; place = place_number r.place; root = pos 0; least = pos 0; schema = 0; proof = 0; nodes = 0; members = 0 }

-- the one number, without counts
unfoldable pub joined_packed : Result Header Refused → ℕ
joined_packed r = let a = joined_numbers r in one_number (record { answer = a.answer; place = a.place; nodes = 0; links = 0 })

-- the counts are within the limits, and a refusal's place fits
abbrev pub JoinedFits : Result Header Refused → Type 0
JoinedFits (Ok c) = (c.schema_rows ≤ 1024) × (c.proof_rows ≤ 1024) × (c.node_rows ≤ 1024) × (c.member_count ≤ 8192)
JoinedFits (Err r) = Packs (Err r)

-- the lent results
unfoldable pub joined_results : Result Header Refused → List ℤ
joined_results r =
    let a = joined_numbers r in
    a.root ∷ a.least ∷ pos a.schema ∷ pos a.proof ∷ pos a.nodes ∷ pos a.members ∷ []
