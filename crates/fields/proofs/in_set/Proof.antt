use borrow.Author.Rules.{rules}
use mathlib.Core.Path.{◌∙◌, ap₂}
use Rattle.signed.proofs.Signs.{read_back}
use Rattle.stab.specs.Basic.{has}
use Rattle.stab.specs.Node.{node_at}
use Rattle.branch.proofs.HeldLaws.{part_set}
use Rattle.fields.proofs.in_set.Statement.{statement}
use Rattle.fields.proofs.in_set.Tie as tie

natural_of-start-requires : tie.Need-natural_of-start-requires
natural_of-start-requires c κs = search rules

natural_of-size-requires : tie.Need-natural_of-size-requires
natural_of-size-requires c κs = search rules

overflow_add-start : tie.Need-overflow_add-start
overflow_add-start c = search rules

offset_bounds-members-start : tie.Need-offset_bounds-members-start
offset_bounds-members-start c = search rules

slice_bounds-stands-count : tie.Need-slice_bounds-stands-count
slice_bounds-stands-count c = search rules

slice_bounds-stands-start : tie.Need-slice_bounds-stands-start
slice_bounds-stands-start c = search rules

slice_bounds-stands-end : tie.Need-slice_bounds-stands-end
slice_bounds-stands-end c = search rules

number_of-requires : tie.Need-number_of-requires
number_of-requires c κs = search rules

stands-requires : tie.Need-stands-requires
stands-requires c κs =
    rw (part_set c.args.members.now (node_at c.args.nodes.now c.args.j) _ _ c.natural_of-start.ensures.0 c.natural_of-size.ensures.0) c.requires.1.up

returns : tie.Need-returns
returns c =
    c.stands.ensures
    ∙ ap₂ has
    (read_back _ c.number_of.type_inv ∙ c.number_of.ensures)
    (part_set c.args.members.now (node_at c.args.nodes.now c.args.j) _ _ c.natural_of-start.ensures.0 c.natural_of-size.ensures.0)

pub in_set_spec : {M : Type 1} → statement M
in_set_spec =
    tie.close
    (tie.spec
    natural_of-start-requires
    natural_of-size-requires
    overflow_add-start
    offset_bounds-members-start
    slice_bounds-stands-count
    slice_bounds-stands-start
    slice_bounds-stands-end
    number_of-requires
    stands-requires
    returns)
