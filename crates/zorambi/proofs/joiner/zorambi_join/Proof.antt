use mathlib.Core.Path.{sym, ap₂, subst}
use lib.IntN.{ℤ}
use mir.Facts.{to_z-of_z}
use borrow.Author.Rules.{rules}
use Rattle.stab.specs.Node.{Tableau}
use Rattle.stab.specs.Lent.{lent, header}
use Rattle.joint.specs.Joint.{JoinedFits}
use Rattle.joint.proofs.Lent.{join_fits}
use Rattle.zorambi.proofs.Gives.{join_gives}
use Rattle.zorambi.proofs.joiner.zorambi_join.Statement.{statement}
use Rattle.zorambi.proofs.joiner.zorambi_join.Tie as tie

join-requires : tie.Need-join-requires
join-requires c κs = tt

joined-requires : tie.Need-joined-requires
joined-requires c κs = subst JoinedFits (sym c.join.ensures.0) (join_fits _ _ _)

shape_of-out_schema : tie.Need-shape_of-out_schema
shape_of-out_schema c = search rules

shape_of-out_proof : tie.Need-shape_of-out_proof
shape_of-out_proof c = search rules

shape_of-out_nodes : tie.Need-shape_of-out_nodes
shape_of-out_nodes c = search rules

shape_of-out_members : tie.Need-shape_of-out_members
shape_of-out_members c = search rules

abbrev first : tie.Start → ℤ → ℤ → Tableau
first s root least =
    let a = s.args in
    lent a.first_schema.now a.first_proof.now a.first_nodes.now a.first_members.now (header a.first_schema_rows a.first_proof_rows root least a.first_node_rows a.first_member_count)

abbrev second : tie.Start → ℤ → ℤ → Tableau
second s root least =
    let a = s.args in
    lent a.second_schema.now a.second_proof.now a.second_nodes.now a.second_members.now (header a.second_schema_rows a.second_proof_rows root least a.second_node_rows a.second_member_count)

-- a signed number is kept as bits, and read back from them
returns : tie.Need-returns
returns c =
    join_gives
    (ap₂ (first c.before.before.before.before.before.before.before.before.before.before.before) (to_z-of_z c.ranges.first_root) (to_z-of_z c.ranges.first_least))
    (ap₂ (second c.before.before.before.before.before.before.before.before.before.before.before) (to_z-of_z c.ranges.second_root) (to_z-of_z c.ranges.second_least))
    c.join.ensures
    c.joined.ensures

pub zorambi_join_spec : {M : Type 1} → statement M
zorambi_join_spec =
    tie.close (tie.spec join-requires joined-requires shape_of-out_schema shape_of-out_proof shape_of-out_nodes shape_of-out_members returns)
