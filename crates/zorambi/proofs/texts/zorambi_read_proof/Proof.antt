use mathlib.Core.Path.{sym, ◌∙◌, ap, subst}
use borrow.Author.Rules.{rules}
use Rattle.stab.specs.Entry.{proof_packed, proof_results, ProofFits}
use Rattle.stab.proofs.Entries.{proof_fits}
use Rattle.zorambi.proofs.texts.zorambi_read_proof.Statement.{statement}
use Rattle.zorambi.proofs.texts.zorambi_read_proof.Tie as tie

read_proof-requires : tie.Need-read_proof-requires
read_proof-requires c κs = tt

proof-requires : tie.Need-proof-requires
proof-requires c κs = subst ProofFits (sym c.read_proof.ensures.0) (proof_fits _ _ _ _)

shape_of-table : tie.Need-shape_of-table
shape_of-table c = search rules

shape_of-nodes : tie.Need-shape_of-nodes
shape_of-nodes c = search rules

shape_of-members : tie.Need-shape_of-members
shape_of-members c = search rules

returns : tie.Need-returns
returns c =
    let e = c.read_proof.ensures in record {
      number = c.proof.ensures.0 ∙ ap proof_packed e.0;
      counts = c.proof.ensures.1 ∙ ap proof_results e.0;
      rows_read = e.1.0;
      nodes_read = e.1.1.0;
      members_read = e.1.1.1;
    }

pub zorambi_read_proof_spec : {M : Type 1} → statement M
zorambi_read_proof_spec =
    tie.close
    (tie.spec
    read_proof-requires
    proof-requires
    shape_of-table
    shape_of-nodes
    shape_of-members
    returns)
