use borrow.Author.Rules.{rules}
use mathlib.Core.Path.{◌∙◌, ap}
use lib.IntN.{ℤ}
use mir.Facts.{to_z-of_z}
use Rattle.stab.specs.Basic.{eq_z}
use Rattle.branch.proofs.NodeColumns.{column_at}
use Rattle.branch.proofs.node.is_of.Statement.{statement}
use Rattle.branch.proofs.node.is_of.Tie as tie

overflow_mul-j : tie.Need-overflow_mul-j
overflow_mul-j c = search rules

overflow_add-j : tie.Need-overflow_add-j
overflow_add-j c = search rules

is_at-requires : tie.Need-is_at-requires
is_at-requires c κs = search rules

returns : tie.Need-returns
returns c =
    c.is_at.ensures ∙ ap (eq_z _) (to_z-of_z c.ranges.z) ∙ ap (λ (z : ℤ). eq_z z c.args.z) (column_at c.args.nodes.now c.args.j c.args.k c.requires.1)

pub is_of_spec : {M : Type 1} → statement M
is_of_spec = tie.close (tie.spec overflow_mul-j overflow_add-j is_at-requires returns)
