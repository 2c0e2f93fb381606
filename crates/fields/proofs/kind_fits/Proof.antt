use mathlib.Core.Bool.{not}
use borrow.Author.Rules.{rules}
use native.Mathlib.Omega.{arith}
use mathlib.Core.Path.{sym, ◌∙◌, ap}
use mir.Facts.{to_z-of_z}
use Rattle.stab.specs.Rule.{unused}
use Rattle.stab.proofs.Trees.{below_nat}
use Rattle.formula.specs.Column.{column}
use Rattle.fields.proofs.FieldLaws.{kind_unused, kind_none, kind_row}
use Rattle.fields.proofs.kind_fits.Statement.{statement}
use Rattle.fields.proofs.kind_fits.Tie as tie
use Rattle.stab.proofs.Bools.{asked_false, asked_true}

equal-requires : tie.Need-equal-requires
equal-requires c κs = search rules

is_of-requires : tie.Need-is_of-requires
is_of-requires c κs = search rules

returns-then-equal : tie.Need-returns-then-equal
unfolding unused
returns-then-equal c =
    c.is_of.ensures ∙ kind_unused _ _ c.args.need _ (rw (to_z-of_z c.ranges.need) at (sym c.equal.ensures ∙ c.if-equal.true))

overflow_add-h : tie.Need-overflow_add-h
overflow_add-h c = search rules

is_below-requires : tie.Need-is_below-requires
is_below-requires c κs = search rules

returns-then-not-is_below : tie.Need-returns-then-not-is_below
unfolding unused
returns-then-not-is_below c =
    kind_none _ _ c.args.need _
    (rw (to_z-of_z c.ranges.need) at (sym c.equal.ensures ∙ c.if-equal.false))
    (asked_false c.is_below.ensures (ap not c.if-not-is_below.true))

natural_of-r-requires : tie.Need-natural_of-r-requires
natural_of-r-requires c κs = search rules

is_in-requires : tie.Need-is_in-requires
is_in-requires c κs =
    omega (arith, c.natural_of-r.ensures.0, below_nat _ _ (asked_true c.is_below.ensures (ap not c.if-not-is_below.false)))

returns : tie.Need-returns
unfolding unused column
returns c =
    c.is_in.ensures
    ∙ rw (to_z-of_z c.ranges.need, c.natural_of-r.ensures.0)
    (kind_row _ _ c.args.need _
    (rw (to_z-of_z c.ranges.need) at (sym c.equal.ensures ∙ c.if-equal.false))
    (asked_true c.is_below.ensures (ap not c.if-not-is_below.false)))

pub kind_fits_spec : {M : Type 1} → statement M
kind_fits_spec =
    tie.close
    (tie.spec
    equal-requires
    is_of-requires
    returns-then-equal
    overflow_add-h
    is_below-requires
    returns-then-not-is_below
    natural_of-r-requires
    is_in-requires
    returns)
