use mathlib.Core.Path.{refl}
use Rattle.pairs.proofs.Words.{same_true, same_false}
use Rattle.assigned.proofs.same.Statement.{statement}
use Rattle.assigned.proofs.same.Tie as tie

returns-then-held : tie.Need-returns-then-held
returns-then-held c = same_true _ 18446744073709551615 64 c.if-held.true refl

returns-else-held : tie.Need-returns-else-held
returns-else-held c = same_false _ 64 c.if-held.false

pub same_spec : {M : Type 1} → statement M
same_spec = tie.close (tie.spec returns-then-held returns-else-held)
