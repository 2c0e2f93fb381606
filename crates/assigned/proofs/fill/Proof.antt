use borrow.Author.Rules.{rules}
use Rattle.assigned.proofs.Blocks.{same_words}
use Rattle.assigned.proofs.fill.Statement.{statement}
use Rattle.assigned.proofs.fill.Tie as tie

same-out-requires : tie.Need-same-out-requires
same-out-requires c κs = search rules

returns : tie.Need-returns
returns c = same_words _ _ 64 c.same-out.ensures

pub fill_spec : {M : Type 1} → statement M
fill_spec = tie.close (tie.spec same-out-requires returns)
