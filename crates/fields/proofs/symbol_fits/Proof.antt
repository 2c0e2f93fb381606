use mathlib.Core.Bool.{not}
use borrow.Author.Rules.{rules}
use native.Mathlib.Omega.{arith}
use mathlib.Core.Path.{◌∙◌, ap}
use Rattle.stab.specs.Node.{node, set, row, rows}
use Rattle.stab.specs.Rule.{symbol_fits}
use Rattle.stab.proofs.Trees.{below_nat}
use Rattle.formula.specs.Column.{column}
use Rattle.fields.proofs.Answers.{first_fails, second_decides}
use Rattle.fields.proofs.symbol_fits.Statement.{statement}
use Rattle.fields.proofs.symbol_fits.Tie as tie
use Rattle.stab.proofs.Bools.{asked_false, asked_true}

in_set-requires : tie.Need-in_set-requires
in_set-requires c κs = ((c.requires.0, omega arith), c.requires.1.0)

returns-then-not-in_set : tie.Need-returns-then-not-in_set
unfolding symbol_fits node set
returns-then-not-in_set c = first_fails _ _ (asked_false c.in_set.ensures (ap not c.if-not-in_set.true))

natural_of-on-requires : tie.Need-natural_of-on-requires
natural_of-on-requires c κs = search rules

natural_of-with-requires : tie.Need-natural_of-with-requires
natural_of-with-requires c κs = search rules

same_in-requires : tie.Need-same_in-requires
same_in-requires c κs =
    let p = c.requires.1.1 in
    omega (arith, c.natural_of-with.ensures.0, c.natural_of-on.ensures.0, below_nat 1024 _ p.0, below_nat 1024 _ p.1)

returns : tie.Need-returns
unfolding symbol_fits node set row rows column
returns c =
    c.same_in.ensures
    ∙ rw (c.natural_of-with.ensures.0, c.natural_of-on.ensures.0)
    (second_decides _ _ (asked_true c.in_set.ensures (ap not c.if-not-in_set.false)))

pub symbol_fits_spec : {M : Type 1} → statement M
symbol_fits_spec =
    tie.close
    (tie.spec
    in_set-requires
    returns-then-not-in_set
    natural_of-on-requires
    natural_of-with-requires
    same_in-requires
    returns)
