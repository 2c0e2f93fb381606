use borrow.Author.Rules.{rules}
use mathlib.Core.Path.{◌∙◌}
use Rattle.signed.proofs.Signs.{read_back}
use Rattle.branch.proofs.NodeColumns.{column_at}
use Rattle.branch.proofs.node.number_of.Statement.{statement}
use Rattle.branch.proofs.node.number_of.Tie as tie

overflow_mul-j : tie.Need-overflow_mul-j
overflow_mul-j c = search rules

overflow_add-j : tie.Need-overflow_add-j
overflow_add-j c = search rules

at-requires : tie.Need-at-requires
at-requires c κs = search rules

returns : tie.Need-returns
returns c =
    read_back _ c.at.type_inv ∙ c.at.ensures ∙ column_at c.args.nodes.now c.args.j c.args.k c.requires.1

pub number_of_spec : {M : Type 1} → statement M
number_of_spec = tie.close (tie.spec overflow_mul-j overflow_add-j at-requires returns)
