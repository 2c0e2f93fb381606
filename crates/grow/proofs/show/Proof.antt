use borrow.Author.Rules.{rules}
use Rattle.stab.specs.Check.{link_count}
use Rattle.grow.specs.State.{shown}
use Rattle.grow.proofs.show.Statement.{statement}
use Rattle.grow.proofs.show.Tie as tie

links-requires : tie.Need-links-requires
links-requires c κs = search rules

complete-requires : tie.Need-complete-requires
complete-requires c κs = search rules

returns : tie.Need-returns
unfolding shown link_count
returns c = search rules

pub show_spec : {M : Type 1} → statement M
show_spec = tie.close (tie.spec links-requires complete-requires returns)
