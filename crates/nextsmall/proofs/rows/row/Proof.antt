use mathlib.Core.Path.{◌∙◌}
use mathlib.Core.List.{[], ◌∷◌}
use borrow.Author.Rules.{rules}
use Rattle.signed.proofs.Signs.{read_back}
use Rattle.small.specs.Small.{row_of}
use Rattle.nextsmall.proofs.rows.row.Statement.{statement}
use Rattle.nextsmall.proofs.rows.row.Tie as tie

of-requires : tie.Need-of-requires
of-requires c κs = search rules

of-requires-2 : tie.Need-of-requires-2
of-requires-2 c κs = search rules

of-requires-3 : tie.Need-of-requires-3
of-requires-3 c κs = search rules

less_one-requires : tie.Need-less_one-requires
less_one-requires c κs = search rules

returns : tie.Need-returns
unfolding row_of
returns c =
    λ i.
    (read_back _ c.of.type_inv ∙ c.of.ensures) i
    ∷ (read_back _ c.of-2.type_inv ∙ c.of-2.ensures) i
    ∷ (read_back _ c.of-3.type_inv ∙ c.of-3.ensures) i
    ∷ (read_back _ c.less_one.type_inv ∙ c.less_one.ensures) i
    ∷ []

pub row_spec : {M : Type 1} → statement M
row_spec = tie.close (tie.spec of-requires of-requires-2 of-requires-3 less_one-requires returns)
