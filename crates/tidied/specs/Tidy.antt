-- 02, No. 10: what the tool answers, and what it leaves in lent memory.
use Rattle.std.specs.Prelude.{ℕ, List, [], leb, ℤ, pos, Ok, Err, Result}
use Rattle.stab.specs.Basic.{◌and◌}
use Rattle.stab.specs.Node.{Tableau}
use Rattle.stab.specs.Check.{at_unless, check_older, verdict}
use Rattle.stab.specs.Text.{padded}
use Rattle.stab.specs.declared.Refusal.TheVariants.{TableTooShort}
use Rattle.stab.specs.Finding.{Verdict}
use Rattle.stab.specs.declared.Refused.{Refused}
use Rattle.stab.specs.declared.ProofCounts.{ProofCounts}
use Rattle.tidied.specs.Tidied.{tidied}

-- how many numbers the result tables have room for: formula rows, nodes, members
pub record Rooms : Type 0 where
  pub rows : ℕ
  pub nodes : ℕ
  pub members : ℕ

-- "Result tables .. fall first under 2 as in reading"; "A record refused by the older entry is refused with that number and place."
unfoldable pub tidy_verdict : Rooms → Tableau → Verdict
tidy_verdict R T = verdict (at_unless (leb 4096 R.rows and leb 9216 R.nodes and leb 8192 R.members) TableTooShort 0) (check_older T)

-- "the counts are given as there": as in reading a proof
unfoldable pub tidy_answer : Verdict → Tableau → Result ProofCounts Refused
tidy_answer (Ok c) T = Ok (record { rows = T.proof_rows; nodes = T.node_rows; members = T.member_count })
tidy_answer (Err r) T = Err r

unfoldable pub tidy : Rooms → Tableau → Result ProofCounts Refused
tidy R T = tidy_answer (tidy_verdict R T) (tidied T)

-- lent memory of n numbers: 0 past the last, all 0 after a refusal
unfoldable pub tidy_table_by : Verdict → ℕ → List ℤ → List ℤ
tidy_table_by (Ok c) n xs = padded (pos 0) n xs
tidy_table_by (Err r) n xs = padded (pos 0) n []

unfoldable pub tidy_proof : Rooms → Tableau → List ℤ
tidy_proof R T = tidy_table_by (tidy_verdict R T) R.rows (tidied T).proof

unfoldable pub tidy_node_table : Rooms → Tableau → List ℤ
tidy_node_table R T = tidy_table_by (tidy_verdict R T) R.nodes (tidied T).nodes

unfoldable pub tidy_member_table : Rooms → Tableau → List ℤ
tidy_member_table R T = tidy_table_by (tidy_verdict R T) R.members (tidied T).members

-- the same record in other tables, with its root, least value and counts
unfoldable pub in_tables : Tableau → List ℤ → List ℤ → List ℤ → List ℤ → Tableau
in_tables T schema proof nodes members = record {
  schema = schema;
  schema_rows = T.schema_rows;
  proof = proof;
  proof_rows = T.proof_rows;
  root = T.root;
  least = T.least;
  nodes = nodes;
  node_rows = T.node_rows;
  members = members;
  member_count = T.member_count;
}

-- the tidied record as it stands in lent memory
abbrev pub tidied_in : Rooms → Tableau → Tableau
tidied_in R T = in_tables (tidied T) T.schema (tidy_proof R T) (tidy_node_table R T) (tidy_member_table R T)
