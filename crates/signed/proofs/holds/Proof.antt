use borrow.Author.Rules.{rules}
use Rattle.stab.specs.Check.{holds}
use Rattle.stab.proofs.Findings.{rows_fit}
use Rattle.signed.proofs.holds.Statement.{statement}
use Rattle.signed.proofs.holds.Tie as tie

nonzero_div-result : tie.Need-nonzero_div-result
nonzero_div-result c = search rules

returns : tie.Need-returns
unfolding holds
returns c = rows_fit _ _ _ c.requires

pub holds_spec : {M : Type 1} → statement M
holds_spec = tie.close (tie.spec nonzero_div-result returns)
