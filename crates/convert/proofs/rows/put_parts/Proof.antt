use mathlib.Core.List.{[], ◌∷◌}
use mathlib.Core.Path.{◌∙◌}
use lib.IntN.{pos}
use borrow.Author.Rules.{rules}
use Rattle.signed.proofs.Signs.{read_back}
use Rattle.wide.specs.Plain.{row}
use Rattle.convert.specs.Emission.{parts_row, written}
use Rattle.convert.proofs.rows.put_parts.Statement.{statement}
use Rattle.convert.proofs.rows.put_parts.Tie as tie

of-requires : tie.Need-of-requires
of-requires c κs = search rules

of-requires-2 : tie.Need-of-requires-2
of-requires-2 c κs = search rules

put-requires : tie.Need-put-requires
put-requires c κs = search rules

shape_of-t : tie.Need-shape_of-t
shape_of-t c = search rules

returns : tie.Need-returns
unfolding parts_row
returns c =
    let a = c.args in
    let f = read_back _ c.of.type_inv ∙ c.of.ensures in
    let g = read_back _ c.of-2.type_inv ∙ c.of-2.ensures in
    c.put.ensures ∙ (λ i. written a.t.now a.s (row a.kind (f i) (g i) (pos 0) ∷ []))

pub put_parts_spec : {M : Type 1} → statement M
put_parts_spec = tie.close (tie.spec of-requires of-requires-2 put-requires shape_of-t returns)
