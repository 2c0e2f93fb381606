use native.Mathlib.Omega.{arith}
use mathlib.Core.Path.{sym, ◌∙◌, ap, ap₂}
use lib.ListN.{length}
use borrow.Author.Rules.{rules}
use Rattle.stab.specs.Text.{padded}
use Rattle.stab.specs.Answer.{verdict_numbers}
use Rattle.printing.specs.Printing.{printed_row}
use Rattle.printing.proofs.Prints.{printed_row_lem, row_some, row_fits, row_digits}
use Rattle.printing.proofs.print.Statement.{statement}
use Rattle.printing.proofs.print.Tie as tie

numbers-row-requires : tie.Need-numbers-row-requires
numbers-row-requires c κs = search rules

slice_bounds-put-end : tie.Need-slice_bounds-put-end
slice_bounds-put-end c = search rules

put-requires : tie.Need-put-requires
put-requires c κs =
    let e = c.numbers-row.ensures in
    let n = verdict_numbers c.args.v in
    rw e (row_some n, row_digits c.args.v c.requires, omega (arith, row_fits n, c.put-arg-1.given.0.1))

returns : tie.Need-returns
returns c =
    let e = c.numbers-row.ensures in
    let n = verdict_numbers c.args.v in
    let p = ap printed_row e ∙ sym (printed_row_lem n) in
    (c.put.ensures.0 ∙ ap length p, c.put.ensures.1 ∙ ap₂ (padded 0) c.put-arg-1.given.0.1 p)

pub print_spec : {M : Type 1} → statement M
print_spec = tie.close (tie.spec numbers-row-requires slice_bounds-put-end put-requires returns)
