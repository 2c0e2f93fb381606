use borrow.Author.Rules.{rules}
use mathlib.Core.Path.{◌∙◌, ap}
use Rattle.signed.proofs.Signs.{read_back}
use Rattle.tidied.specs.Tidied.{through, new_number}
use Rattle.tidy.proofs.node.field.Statement.{statement}
use Rattle.tidy.proofs.node.field.Tie as tie

number_of-requires : tie.Need-number_of-requires
number_of-requires c κs = search rules

through-requires : tie.Need-through-requires
through-requires c κs = search rules

returns : tie.Need-returns
returns c =
    let a = c.args in
    read_back _ c.through.type_inv
    ∙ c.through.ensures
    ∙ ap (through (new_number a.s a.numbers.now)) (read_back _ c.number_of.type_inv ∙ c.number_of.ensures)

pub field_spec : {M : Type 1} → statement M
field_spec = tie.close (tie.spec number_of-requires through-requires returns)
