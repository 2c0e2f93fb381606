use borrow.Author.Rules.{rules}
use Rattle.grow.proofs.row.lay.Statement.{statement}
use Rattle.grow.proofs.row.lay.Tie as tie

lay_node-requires : tie.Need-lay_node-requires
lay_node-requires c κs = search rules

lay_numbers-requires : tie.Need-lay_numbers-requires
lay_numbers-requires c κs = search rules

shape_of-nodes : tie.Need-shape_of-nodes
shape_of-nodes c = search rules

shape_of-members : tie.Need-shape_of-members
shape_of-members c = search rules

shape_of-saved_node : tie.Need-shape_of-saved_node
shape_of-saved_node c = search rules

shape_of-saved_set : tie.Need-shape_of-saved_set
shape_of-saved_set c = search rules

returns : tie.Need-returns
returns c =
    (c.lay_node.ensures.0, (c.lay_numbers.ensures.0, (c.lay_node.ensures.1, c.lay_numbers.ensures.1)))

pub lay_spec : {M : Type 1} → statement M
lay_spec =
    tie.close
    (tie.spec
    lay_node-requires
    lay_numbers-requires
    shape_of-nodes
    shape_of-members
    shape_of-saved_node
    shape_of-saved_set
    returns)
