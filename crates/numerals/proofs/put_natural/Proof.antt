use native.Mathlib.Omega.{arith}
use mathlib.Core.Path.{◌∙◌, ap}
use lib.ListN.{set}
use Rattle.signed.proofs.Signs.{read_back}
use borrow.Author.Rules.{rules}
use Rattle.numerals.proofs.put_natural.Statement.{statement}
use Rattle.numerals.proofs.put_natural.Tie as tie

of-requires : tie.Need-of-requires
of-requires c κs = omega arith

put-requires : tie.Need-put-requires
put-requires c κs = search rules

shape_of-table : tie.Need-shape_of-table
shape_of-table c = search rules

returns : tie.Need-returns
returns c =
    let a = c.args in
    let z = c.of in
    c.put.ensures ∙ ap (set a.table.now a.k) (read_back _ z.type_inv ∙ z.ensures)

pub put_natural_spec : {M : Type 1} → statement M
put_natural_spec = tie.close (tie.spec of-requires put-requires shape_of-table returns)
