-- The definitions of No. 11 computed on two small records, worked out by hand. The first's one node closes by rule 5. The second has a row
-- and a node more, a link whose target moves; it is no closed tableau, and need not be one where only rows and nodes are moved.
use mathlib.Core.Path.{◌≡◌, refl}
use mathlib.Core.List.{[], ◌∷◌}
use lib.IntN.{ℤ, pos, negsuc}
use Rattle.stab.specs.Basic.{eq_z, nat}
use Rattle.stab.specs.Formula.{row_at, kind_of}
use Rattle.stab.specs.Node.{Tableau, node_at, node}
use Rattle.tidied.specs.Tidied.{through, renumbered_as, renumbered, columns}
use Rattle.joint.specs.Joint.{schema_count, or_row, of_first, of_second, moved_rows, the_or, joint_schema, joint_proof, further, parent_of, moved_node, moved_nodes, first_node, joint_nodes, moved_members, joint_members, untidied}

none : ℤ
none = negsuc 0

-- row 0, the root, is false; row 1, a proof row, is the and of row 0 with itself
first_record : Tableau
unfolding none
first_record = record {
  schema = pos 1 ∷ pos 0 ∷ pos 0 ∷ pos 0 ∷ [];
  schema_rows = 1;
  proof = pos 4 ∷ pos 0 ∷ pos 0 ∷ pos 0 ∷ [];
  proof_rows = 1;
  root = pos 0;
  least = pos 3;
  nodes = none ∷ pos 5 ∷ pos 0 ∷ none ∷ none ∷ none ∷ pos 0 ∷ pos 0 ∷ pos 1 ∷ [];
  node_rows = 1;
  members = pos 0 ∷ [];
  member_count = 1;
}

-- row 0 is false; row 1, the root, is the or of row 0 with itself; row 2, a proof row, is the and of rows 1 and 0. Node 1 links back to
-- node 0 by 1.
second_record : Tableau
unfolding none
second_record = record {
  schema = pos 1 ∷ pos 0 ∷ pos 0 ∷ pos 0 ∷ pos 5 ∷ pos 0 ∷ pos 0 ∷ pos 0 ∷ [];
  schema_rows = 2;
  proof = pos 4 ∷ pos 1 ∷ pos 0 ∷ pos 0 ∷ [];
  proof_rows = 1;
  root = pos 1;
  least = pos 3;
  nodes =
      none ∷ pos 2 ∷ none ∷ none ∷ none ∷ none ∷ pos 0 ∷ pos 0 ∷ pos 1 ∷
      pos 0 ∷ pos 8 ∷ none ∷ none ∷ none ∷ pos 0 ∷ pos 1 ∷ pos 1 ∷ pos 2 ∷ [];
  node_rows = 2;
  members = pos 1 ∷ pos 1 ∷ pos 2 ∷ [];
  member_count = 3;
}

-- the first's rows, the second's, then the or of rows 0 and 2
the_schema : joint_schema first_record second_record ≡ pos 1 ∷ pos 0 ∷ pos 0 ∷ pos 0 ∷ pos 1 ∷ pos 0 ∷ pos 0 ∷ pos 0 ∷ pos 5 ∷ pos 1 ∷ pos 1 ∷ pos 0 ∷ pos 5 ∷ pos 0 ∷ pos 2 ∷ pos 0 ∷ []
unfolding first_record second_record none joint_schema moved_rows the_or columns renumbered renumbered_as through of_first of_second schema_count row_at kind_of eq_z nat
the_schema = refl

-- the first's proof row is row 4, the second's row 5
the_proof : joint_proof first_record second_record ≡ pos 4 ∷ pos 0 ∷ pos 0 ∷ pos 0 ∷ pos 4 ∷ pos 2 ∷ pos 1 ∷ pos 0 ∷ []
unfolding first_record second_record none joint_proof moved_rows columns renumbered renumbered_as through of_first of_second schema_count row_at kind_of eq_z nat
the_proof = refl

-- rule 1 on the or, the first's node, then the second's two, whose link goes to node 2; the or's row alone, then the sets as they were
the_nodes : (joint_nodes first_record second_record ≡ none ∷ pos 1 ∷ pos 3 ∷ none ∷ none ∷ none ∷ pos 0 ∷ pos 0 ∷ pos 1 ∷ pos 0 ∷ pos 5 ∷ pos 0 ∷ none ∷ none ∷ none ∷ pos 0 ∷ pos 1 ∷ pos 1 ∷ pos 0 ∷ pos 2 ∷ none ∷ none ∷ none ∷ none ∷ pos 0 ∷ pos 2 ∷ pos 1 ∷ pos 2 ∷ pos 8 ∷ none ∷ none ∷ none ∷ pos 2 ∷ pos 1 ∷ pos 3 ∷ pos 2 ∷ []) × (joint_members first_record second_record ≡ pos 3 ∷ pos 0 ∷ pos 2 ∷ pos 2 ∷ pos 5 ∷ [])
unfolding first_record second_record none joint_nodes joint_members first_node moved_nodes moved_node moved_members parent_of further through of_first of_second or_row schema_count node_at node nat
the_nodes = (refl, refl)

the_least : (untidied first_record second_record).least ≡ pos 3
unfolding first_record second_record untidied
the_least = refl
