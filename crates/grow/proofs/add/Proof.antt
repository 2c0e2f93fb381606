use borrow.Author.Rules.{rules}
use Rattle.growing.specs.Growing.{tried}
use Rattle.grow.proofs.add.Statement.{statement}
use Rattle.grow.proofs.add.Tie as tie

try_row-requires : tie.Need-try_row-requires
try_row-requires c κs = search rules

shape_of-nodes : tie.Need-shape_of-nodes
shape_of-nodes c = search rules

shape_of-members : tie.Need-shape_of-members
shape_of-members c = search rules

returns : tie.Need-returns
unfolding tried
returns c = c.try_row.ensures

pub add_spec : {M : Type 1} → statement M
add_spec = tie.close (tie.spec try_row-requires shape_of-nodes shape_of-members returns)
