-- What joining two records answers and leaves.
use Rattle.std.specs.Prelude.{◌≡◌, Bool, List, leb, ℤ, length, Result}
use Rattle.stab.specs.Basic.{◌and◌}
use Rattle.stab.specs.Node.{Tableau}
use Rattle.joint.specs.Joint.{Rooms, join, joined_schema, joined_proof, joined_nodes, joined_members}
use Rattle.stab.specs.declared.Refused.{Refused}
use Rattle.stab.specs.declared.Header.{Header}

-- the rooms of four result tables
abbrev pub rooms : List ℤ → List ℤ → List ℤ → List ℤ → Rooms
rooms schema proof nodes members =
    record { schema = length schema; proof = length proof; nodes = length nodes; members = length members }

-- result tables of the full sizes
abbrev pub roomy : Rooms → Bool
roomy R = leb 4096 R.schema and leb 4096 R.proof and leb 9216 R.nodes and leb 8192 R.members

-- the answer and the four tables
pub record Answers (R : Rooms) (A B : Tableau) (r : Result Header Refused) (schema proof nodes members : List ℤ) : Type 0 where
  pub answer : r ≡ join R A B
  pub schema_table : schema ≡ joined_schema R A B
  pub proof_table : proof ≡ joined_proof R A B
  pub node_table : nodes ≡ joined_nodes R A B
  pub member_table : members ≡ joined_members R A B
