use borrow.Author.Rules.{rules}
use native.Mathlib.Omega.{arith}
use Prim.Native.Nat.{◌+◌}
use mathlib.Core.Path.{sym, ◌∙◌, ap}
use Rattle.numerals.specs.declared.Numeral.{Numeral}
use Rattle.numerals.proofs.Runs.{byte_within}
use Rattle.numerals.proofs.Steps.{at_small, less_bad, less_good, plain_good}
use Rattle.numerals.proofs.number.Statement.{statement}
use Rattle.numerals.proofs.number.Tie as tie

byte_at-b-requires : tie.Need-byte_at-b-requires
byte_at-b-requires c κs = search rules

overflow_add-at : tie.Need-overflow_add-at
overflow_add-at c = search rules

natural_at-n-requires : tie.Need-natural_at-n-requires
natural_at-n-requires c κs =
    let a = c.args in
    omega (arith, byte_within a.text.now a.at (omega (arith, c.byte_at-b.ensures, c.if-b-eq45.true)))

returns-then-n-eq0 : tie.Need-returns-then-n-eq0
returns-then-n-eq0 c =
    let a = c.args in
    less_bad a.text.now a.at a.table.now a.k c.natural_at-n.result
    (sym c.byte_at-b.ensures ∙ c.if-b-eq45.true) c.natural_at-n.ensures c.if-n-eq0.true

keep-requires : tie.Need-keep-requires
keep-requires c κs =
    let a = c.args in
    omega (arith, ap (λ (n : Numeral). n.value) c.natural_at-n.ensures, at_small a.text.now (a.at + 1))

shape_of-table-then-b-eq45 : tie.Need-shape_of-table-then-b-eq45
shape_of-table-then-b-eq45 c = search rules

returns-then-b-eq45 : tie.Need-returns-then-b-eq45
returns-then-b-eq45 c =
    let a = c.args in
    let k = c.keep in
    let g = less_good a.text.now a.at a.table.now a.k c.natural_at-n.result
    (sym c.byte_at-b.ensures ∙ c.if-b-eq45.true) c.natural_at-n.ensures c.if-n-eq0.false in
    (k.ensures.0 ∙ g.0, k.ensures.1 ∙ g.1)

natural_at-requires : tie.Need-natural_at-requires
natural_at-requires c κs = search rules

keep-requires-2 : tie.Need-keep-requires-2
keep-requires-2 c κs =
    let a = c.args in
    omega (arith, ap (λ (n : Numeral). n.value) c.natural_at.ensures, at_small a.text.now a.at)

shape_of-table : tie.Need-shape_of-table
shape_of-table c = search rules

returns : tie.Need-returns
returns c =
    let a = c.args in
    let k = c.keep-2 in
    let g = plain_good a.text.now a.at a.table.now a.k c.natural_at.result
    (λ e. c.if-b-eq45.false (c.byte_at-b.ensures ∙ e)) c.natural_at.ensures in
    (k.ensures.0 ∙ g.0, k.ensures.1 ∙ g.1)

pub number_spec : {M : Type 1} → statement M
number_spec =
    tie.close
    (tie.spec
    byte_at-b-requires
    overflow_add-at
    natural_at-n-requires
    returns-then-n-eq0
    keep-requires
    shape_of-table-then-b-eq45
    returns-then-b-eq45
    natural_at-requires
    keep-requires-2
    shape_of-table
    returns)
