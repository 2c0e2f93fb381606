use native.Mathlib.Omega.{arith}
use borrow.Author.Rules.{rules}
use Rattle.pairs.proofs.Parts.{moved_is}
use Rattle.pairs.proofs.moved.Statement.{statement}
use Rattle.pairs.proofs.moved.Tie as tie

natural_at-requires : tie.Need-natural_at-requires
natural_at-requires c κs = search rules

overflow_add-result : tie.Need-overflow_add-result
overflow_add-result c = omega arith

under_at-requires : tie.Need-under_at-requires
under_at-requires c κs = search rules

overflow_sub-result : tie.Need-overflow_sub-result
overflow_sub-result c = omega arith

returns : tie.Need-returns
returns c = moved_is c.args.x _ _ _ c.natural_at.ensures.0 c.under_at.ensures (omega arith)

pub moved_spec : {M : Type 1} → statement M
moved_spec = tie.close (tie.spec natural_at-requires overflow_add-result under_at-requires overflow_sub-result returns)
