use borrow.Author.Rules.{rules}
use Rattle.stab.specs.Check.{held_mode}
use Rattle.tableau.proofs.check.held.Statement.{statement}
use Rattle.tableau.proofs.check.held.Tie as tie

first_refusal-requires : tie.Need-first_refusal-requires
first_refusal-requires c κs = search rules

returns : tie.Need-returns
unfolding held_mode
returns c = c.first_refusal.ensures

pub held_spec : {M : Type 1} → statement M
held_spec = tie.close (tie.spec first_refusal-requires returns)
