use borrow.Author.Rules.{rules}
use native.Mathlib.Omega.{arith}
use mathlib.Core.Path.{sym, ◌∙◌}
use Rattle.formula.specs.Column.{column}
use Rattle.limits.proofs.LimitLaws.{base_parameter, base_other}
use Rattle.limits.proofs.base_at.Statement.{statement}
use Rattle.limits.proofs.base_at.Tie as tie

is_in-requires : tie.Need-is_in-requires
is_in-requires c κs = search rules

returns-then-is_in : tie.Need-returns-then-is_in
unfolding column
returns-then-is_in c = (base_parameter _ c.args.l (sym c.is_in.ensures ∙ c.if-is_in.true), c.requires.1)

returns : tie.Need-returns
unfolding column
returns c = (base_other _ c.args.l (sym c.is_in.ensures ∙ c.if-is_in.false), omega arith)

pub base_at_spec : {M : Type 1} → statement M
base_at_spec = tie.close (tie.spec is_in-requires returns-then-is_in returns)
