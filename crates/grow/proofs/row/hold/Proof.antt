use borrow.Author.Rules.{rules}
use Prim.Native.Nat.{◌*◌}
use mathlib.Core.Path.{refl, ◌∙◌}
use lib.ListN.{length}
use Rattle.signed.proofs.Tables.{cleared_padded}
use Rattle.grow.proofs.row.hold.Statement.{statement}
use Rattle.grow.proofs.row.hold.Tie as tie

overflow_mul-k : tie.Need-overflow_mul-k
overflow_mul-k c = search rules

clear-requires : tie.Need-clear-requires
clear-requires c κs = search rules

clear-requires-2 : tie.Need-clear-requires-2
clear-requires-2 c κs = search rules

shape_of-nodes : tie.Need-shape_of-nodes
shape_of-nodes c = search rules

shape_of-members : tie.Need-shape_of-members
shape_of-members c = search rules

returns : tie.Need-returns
returns c = (
  c.clear.ensures ∙ cleared_padded c.args.nodes.now (9 * c.args.k) (length c.args.nodes.now) c.requires.1 refl,
  c.clear-2.ensures ∙ cleared_padded c.args.members.now c.args.m (length c.args.members.now) c.requires.2 refl,
)

pub hold_spec : {M : Type 1} → statement M
hold_spec =
    tie.close
    (tie.spec overflow_mul-k clear-requires clear-requires-2 shape_of-nodes shape_of-members returns)
