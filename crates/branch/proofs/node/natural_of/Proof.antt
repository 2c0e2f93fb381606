use borrow.Author.Rules.{rules}
use mathlib.Core.Path.{◌∙◌, ap}
use Rattle.stab.specs.Basic.{nat}
use Rattle.branch.proofs.NodeColumns.{column_at}
use Rattle.branch.proofs.node.natural_of.Statement.{statement}
use Rattle.branch.proofs.node.natural_of.Tie as tie

overflow_mul-j : tie.Need-overflow_mul-j
overflow_mul-j c = search rules

overflow_add-j : tie.Need-overflow_add-j
overflow_add-j c = search rules

natural_at-requires : tie.Need-natural_at-requires
natural_at-requires c κs = search rules

returns : tie.Need-returns
returns c =
    (c.natural_at.ensures.0 ∙ ap nat (column_at c.args.nodes.now c.args.j c.args.k c.requires.1), c.natural_at.ensures.1)

pub natural_of_spec : {M : Type 1} → statement M
natural_of_spec = tie.close (tie.spec overflow_mul-j overflow_add-j natural_at-requires returns)
