use mathlib.Core.Path.{ap}
use lib.Dec.{eqb}
use borrow.Author.Rules.{rules}
use Rattle.value.proofs.settled.Statement.{statement}
use Rattle.value.proofs.settled.Tie as tie

same-requires : tie.Need-same-requires
same-requires c κs = search rules

returns : tie.Need-returns
returns c = ap (eqb c.args.w) c.same.ensures

pub settled_spec : {M : Type 1} → statement M
settled_spec = tie.close (tie.spec same-requires returns)
