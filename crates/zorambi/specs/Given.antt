-- What the entries give that fill several lent tables: the one number x, the lent results and the tables, each as its definition has it.
use Rattle.std.specs.Prelude.{ℕ, ◌≡◌, List, ℤ}
use Rattle.stab.specs.Node.{Tableau}
use Rattle.stab.specs.Read.{Reading, ProofText, proof_answer, proof_table, node_table, member_table}
use Rattle.stab.specs.Entry.{proof_packed, proof_results}
use Rattle.tidied.specs.Tidy as T
use Rattle.joint.specs.Joint as J

-- reading a proof text, of which R is read, into tables of a, b and d numbers
pub record ReadGives (R : Reading ProofText) (a b d : ℕ) (x : ℕ) (results table nodes members : List ℤ) : Type 0 where
  pub number : x ≡ proof_packed (proof_answer R)
  pub counts : results ≡ proof_results (proof_answer R)
  pub rows_read : table ≡ proof_table a R
  pub nodes_read : nodes ≡ node_table b R
  pub members_read : members ≡ member_table d R

-- tidying a record
pub record TidyGives (R : T.Rooms) (A : Tableau) (x : ℕ) (results proof nodes members : List ℤ) : Type 0 where
  pub number : x ≡ proof_packed (T.tidy R A)
  pub counts : results ≡ proof_results (T.tidy R A)
  pub proof_table : proof ≡ T.tidy_proof R A
  pub node_table : nodes ≡ T.tidy_node_table R A
  pub member_table : members ≡ T.tidy_member_table R A

-- joining two records
pub record JoinGives (R : J.Rooms) (A B : Tableau) (x : ℕ) (results schema proof nodes members : List ℤ) : Type 0 where
  pub number : x ≡ J.joined_packed (J.join R A B)
  pub counts : results ≡ J.joined_results (J.join R A B)
  pub schema_table : schema ≡ J.joined_schema R A B
  pub proof_table : proof ≡ J.joined_proof R A B
  pub node_table : nodes ≡ J.joined_nodes R A B
  pub member_table : members ≡ J.joined_members R A B
