use mathlib.Core.Path.{sym, ap₂, subst}
use lib.IntN.{ℤ}
use mir.Facts.{to_z-of_z}
use borrow.Author.Rules.{rules}
use Rattle.stab.specs.Node.{Tableau}
use Rattle.stab.specs.Entry.{ProofFits}
use Rattle.stab.specs.Lent.{lent, header}
use Rattle.tidied.proofs.Lent.{tidy_fits}
use Rattle.zorambi.proofs.Gives.{tidy_gives}
use Rattle.zorambi.proofs.tidier.zorambi_tidy.Statement.{statement}
use Rattle.zorambi.proofs.tidier.zorambi_tidy.Tie as tie

tidy-requires : tie.Need-tidy-requires
tidy-requires c κs = tt

proof-requires : tie.Need-proof-requires
proof-requires c κs = subst ProofFits (sym c.tidy.ensures.0) (tidy_fits _ _)

shape_of-out_proof : tie.Need-shape_of-out_proof
shape_of-out_proof c = search rules

shape_of-out_nodes : tie.Need-shape_of-out_nodes
shape_of-out_nodes c = search rules

shape_of-out_members : tie.Need-shape_of-out_members
shape_of-out_members c = search rules

abbrev Lent : tie.Start → ℤ → ℤ → Tableau
Lent s root least =
    let a = s.args in
    lent a.schema.now a.proof.now a.nodes.now a.members.now (header a.schema_rows a.proof_rows root least a.node_rows a.member_count)

-- a signed number is kept as bits, and read back from them
returns : tie.Need-returns
returns c =
    tidy_gives (ap₂ (Lent c.before.before.before.before.before.before.before.before.before) (to_z-of_z c.ranges.root) (to_z-of_z c.ranges.least)) c.tidy.ensures c.proof.ensures

pub zorambi_tidy_spec : {M : Type 1} → statement M
zorambi_tidy_spec =
    tie.close (tie.spec tidy-requires proof-requires shape_of-out_proof shape_of-out_nodes shape_of-out_members returns)
