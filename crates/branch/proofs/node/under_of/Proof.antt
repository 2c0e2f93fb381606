use borrow.Author.Rules.{rules}
use mathlib.Core.Path.{◌∙◌, ap}
use lib.IntN.{ℤ, neg_ℤ}
use Rattle.stab.specs.Basic.{nat}
use Rattle.branch.proofs.NodeColumns.{column_at}
use Rattle.branch.proofs.node.under_of.Statement.{statement}
use Rattle.branch.proofs.node.under_of.Tie as tie

overflow_mul-j : tie.Need-overflow_mul-j
overflow_mul-j c = search rules

overflow_add-j : tie.Need-overflow_add-j
overflow_add-j c = search rules

under_at-requires : tie.Need-under_at-requires
under_at-requires c κs = search rules

returns : tie.Need-returns
returns c =
    c.under_at.ensures ∙ ap (λ (z : ℤ). nat (neg_ℤ z)) (column_at c.args.nodes.now c.args.j c.args.k c.requires.1)

pub under_of_spec : {M : Type 1} → statement M
under_of_spec = tie.close (tie.spec overflow_mul-j overflow_add-j under_at-requires returns)
