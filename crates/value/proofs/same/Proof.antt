use borrow.Author.Rules.{rules}
use Rattle.pairs.proofs.Words.{same_true, same_false}
use Rattle.value.proofs.same.Statement.{statement}
use Rattle.value.proofs.same.Tie as tie

ones-requires : tie.Need-ones-requires
ones-requires c κs = search rules

returns-then-held : tie.Need-returns-then-held
returns-then-held c = same_true _ _ _ c.if-held.true c.ones.ensures

returns-else-held : tie.Need-returns-else-held
returns-else-held c = same_false _ _ c.if-held.false

pub same_spec : {M : Type 1} → statement M
same_spec = tie.close (tie.spec ones-requires returns-then-held returns-else-held)
