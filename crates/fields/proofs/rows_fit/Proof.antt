use mathlib.Core.Bool.{not}
use borrow.Author.Rules.{rules}
use mathlib.Core.Path.{◌∙◌, ap}
use Rattle.stab.specs.Node.{node, set, is_row, row, rows, row_count}
use Rattle.stab.specs.Rule.{kind_fits}
use Rattle.signed.proofs.Signs.{read_back}
use Rattle.branch.specs.Lent.{fits_kind, rows_fit}
use Rattle.fields.proofs.Answers.{first_fails, second_fails, third_decides}
use Rattle.fields.proofs.rows_fit.Statement.{statement}
use Rattle.fields.proofs.rows_fit.Tie as tie
use Rattle.stab.proofs.Bools.{asked_false, asked_true}

kind_fits-requires : tie.Need-kind_fits-requires
kind_fits-requires c κs = search rules

returns-then-not-kind_fits : tie.Need-returns-then-not-kind_fits
unfolding rows_fit kind_fits fits_kind node set is_row row rows row_count
returns-then-not-kind_fits c =
    first_fails _ _ (rw (read_back c.args.rule.on c.struct_told-1.given.0.1) at (asked_false c.kind_fits.ensures (ap not c.if-not-kind_fits.true)))

on_stands-requires : tie.Need-on_stands-requires
on_stands-requires c κs = (c.requires.0.0, c.requires.1)

returns-then-not-on_stands : tie.Need-returns-then-not-on_stands
unfolding rows_fit kind_fits fits_kind node set is_row row rows row_count
returns-then-not-on_stands c =
    let e = read_back c.args.rule.on c.struct_told-1.given.0.1 in
    second_fails _ _ _
    (rw e at (asked_true c.kind_fits.ensures (ap not c.if-not-kind_fits.false)))
    (rw e at (asked_false c.on_stands.ensures (ap not c.if-not-on_stands.true)))

kind_fits-requires-2 : tie.Need-kind_fits-requires-2
kind_fits-requires-2 c κs = search rules

returns : tie.Need-returns
unfolding rows_fit kind_fits fits_kind node set is_row row rows row_count
returns c =
    let e = read_back c.args.rule.on c.struct_told-1.given.0.1 in
    let d = read_back c.args.rule.with c.struct_told-1.given.1.0.1 in
    rw d at c.kind_fits-2.ensures
    ∙ third_decides _ _ _
    (rw e at (asked_true c.kind_fits.ensures (ap not c.if-not-kind_fits.false)))
    (rw e at (asked_true c.on_stands.ensures (ap not c.if-not-on_stands.false)))

pub rows_fit_spec : {M : Type 1} → statement M
rows_fit_spec =
    tie.close
    (tie.spec
    kind_fits-requires
    returns-then-not-kind_fits
    on_stands-requires
    returns-then-not-on_stands
    kind_fits-requires-2
    returns)
