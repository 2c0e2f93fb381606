use borrow.Author.Rules.{rules}
use native.Mathlib.Omega.{arith}
use mathlib.Core.Path.{◌≡◌, sym, ◌∙◌, ap}
use mathlib.Core.Bool.{true, not}
use Rattle.stab.specs.Basic.{below}
use Rattle.stab.specs.Node.{Tableau, node, row_count}
use Rattle.stab.specs.Rule.{rule, of_rule}
use Rattle.stab.proofs.Trees.{below_nat, below_more}
use Rattle.stab.specs.Lent.{lent}
use Rattle.fields.proofs.FieldParts.{no_rule, entry_is, rows_fail, rest_fails, clash_decides, others_fit, clash_rows}
use Rattle.fields.proofs.fields_fit.Statement.{statement}
use Rattle.fields.proofs.fields_fit.Tie as tie
use Rattle.stab.proofs.Bools.{asked_false, asked_true}

abbrev Lent : tie.Start → Tableau
Lent s = lent s.args.schema.now s.args.proof.now s.args.nodes.now s.args.members.now s.args.h

-- where the entry has been looked up
abbrev Begin : tie.After-rule_at-rule → tie.Start
Begin c = c.before.before.before.before

there : (c : tie.After-rule_at-rule) → below 9 (node (Lent (Begin c)) (Begin c).args.j).rule ≡ true
unfolding node
there c = asked_true c.is_below.ensures (ap not c.if-not-is_below.false)

found : (c : tie.After-rule_at-rule) → c.rule_at-rule.result ≡ rule (Lent (Begin c)) (Begin c).args.j
unfolding node
found c = entry_is (Lent (Begin c)) (Begin c).args.j _ _ (there c) c.natural_of.ensures.0 c.rule_at-rule.ensures

is_below-requires : tie.Need-is_below-requires
is_below-requires c κs = search rules

returns-then-not-is_below : tie.Need-returns-then-not-is_below
unfolding node
returns-then-not-is_below c = no_rule _ _ (asked_false c.is_below.ensures (ap not c.if-not-is_below.true))

natural_of-requires : tie.Need-natural_of-requires
natural_of-requires c κs = search rules

rule_at-rule-requires : tie.Need-rule_at-rule-requires
rule_at-rule-requires c κs = omega (arith, c.natural_of.ensures.0, below_nat 9 _ (asked_true c.is_below.ensures (ap not c.if-not-is_below.false)))

rows_fit-requires : tie.Need-rows_fit-requires
rows_fit-requires c κs = search rules

returns-then-not-rows_fit : tie.Need-returns-then-not-rows_fit
unfolding node
returns-then-not-rows_fit c =
    rows_fail (Lent (Begin c.before.before)) _ (there c.before.before) _ (found c.before.before) (asked_false c.rows_fit.ensures (ap not c.if-not-rows_fit.true))

rest_fits-requires : tie.Need-rest_fits-requires
rest_fits-requires c κs = search rules

returns-then-not-rest_fits : tie.Need-returns-then-not-rest_fits
unfolding node row_count
returns-then-not-rest_fits c =
    rest_fails (Lent (Begin c.before.before.before.before)) _ (there c.before.before.before.before) _ (found c.before.before.before.before)
    (asked_true c.rows_fit.ensures (ap not c.if-not-rows_fit.false))
    (asked_false c.rest_fits.ensures (ap not c.if-not-rest_fits.true))

is_of-requires : tie.Need-is_of-requires
is_of-requires c κs = search rules

symbol_fits-requires : tie.Need-symbol_fits-requires
unfolding node row_count of_rule
symbol_fits-requires c κs =
    let s = Begin c.before.before.before.before.before.before in
    let w = clash_rows (Lent s) _ _ (found c.before.before.before.before.before.before) (sym c.is_of.ensures ∙ c.if-is_of.true) (asked_true c.rows_fit.ensures (ap not c.if-not-rows_fit.false)) in
    (s.requires.0.0, (s.requires.1, (below_more _ 1024 _ s.requires.0.1 w.0, below_more _ 1024 _ s.requires.0.1 w.1)))

returns-then-is_of : tie.Need-returns-then-is_of
unfolding node row_count of_rule
returns-then-is_of c =
    c.symbol_fits.ensures
    ∙ clash_decides (Lent (Begin c.before.before.before.before.before.before.before)) _ (there c.before.before.before.before.before.before.before) _ (found c.before.before.before.before.before.before.before)
    (asked_true c.rows_fit.ensures (ap not c.if-not-rows_fit.false))
    (asked_true c.rest_fits.ensures (ap not c.if-not-rest_fits.false))
    (sym c.is_of.ensures ∙ c.if-is_of.true)

returns : tie.Need-returns
unfolding node row_count of_rule
returns c =
    others_fit (Lent (Begin c.before.before.before.before.before.before)) _ (there c.before.before.before.before.before.before) _ (found c.before.before.before.before.before.before)
    (asked_true c.rows_fit.ensures (ap not c.if-not-rows_fit.false))
    (asked_true c.rest_fits.ensures (ap not c.if-not-rest_fits.false))
    (sym c.is_of.ensures ∙ c.if-is_of.false)

pub fields_fit_spec : {M : Type 1} → statement M
fields_fit_spec =
    tie.close
    (tie.spec
    is_below-requires
    returns-then-not-is_below
    natural_of-requires
    rule_at-rule-requires
    rows_fit-requires
    returns-then-not-rows_fit
    rest_fits-requires
    returns-then-not-rest_fits
    is_of-requires
    symbol_fits-requires
    returns-then-is_of
    returns)
