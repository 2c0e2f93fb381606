use mathlib.Core.Path.{◌≡◌, sym, ◌∙◌, ap, ap₂}
use mathlib.Core.Bool.{true, not}
use lib.Dec.{eqb}
use lib.IntN.{pos}
use borrow.Author.Rules.{rules}
use borrow.Author.Tests.{eq-eqb, ne_eqb}
use Rattle.stab.specs.Basic.{◌and◌, eq_z, nat, below}
use Rattle.stab.proofs.Bools.{and_both, and_first_false, and_second_false, or_left, or_right, or_false, if_true, if_false}
use Rattle.signed.proofs.Signs.{read_back}
use Rattle.formula.specs.Cells.{row_of}
use Rattle.formula.specs.Rows.{facts_at, both_facts, unmixed, pair_judged}
use Rattle.std.specs.Prelude.{Option}
use Rattle.formula.specs.declared.rows.Facts.{Facts}
use Rattle.formula.proofs.RowLaws.{fails, passes}
use Rattle.formula.proofs.rows.junction.Statement.{statement}
use Rattle.formula.proofs.rows.junction.Tie as tie

below-requires : tie.Need-below-requires
below-requires c κs = search rules

returns-then-not-below : tie.Need-returns-then-not-below
unfolding pair_judged row_of
returns-then-not-below c =
    sym (if_false _ _ _ (and_first_false _ _ (rw (read_back c.args.w.a c.struct_told-1.given.1.0.1) at (fails _ c.below.ensures (ap not c.if-not-below.true)))))

below-requires-2 : tie.Need-below-requires-2
below-requires-2 c κs = search rules

returns-then-not-below-2 : tie.Need-returns-then-not-below-2
unfolding pair_judged row_of
returns-then-not-below-2 c =
    sym
    (if_false _ _ _
    (and_second_false _ _ (and_first_false _ _ (rw (read_back c.args.w.b c.struct_told-1.given.1.1.0.1) at (fails _ c.below-2.ensures (ap not c.if-not-below-2.true))))))

equal-requires : tie.Need-equal-requires
equal-requires c κs = search rules

returns-then-not-equal : tie.Need-returns-then-not-equal
unfolding pair_judged row_of
returns-then-not-equal c =
    sym
    (if_false _ _ _
    (and_second_false _ _ (and_second_false _ _ (rw (read_back c.args.w.c c.struct_told-1.given.1.1.1.0.1) at (fails _ c.equal.ensures (ap not c.if-not-equal.true))))))

part-a-requires : tie.Need-part-a-requires
part-a-requires c κs =
    (search rules, passes _ c.below.ensures (ap not c.if-not-below.false), c.requires.1)

part-b-requires : tie.Need-part-b-requires
part-b-requires c κs =
    (search rules, passes _ c.below-2.ensures (ap not c.if-not-below-2.false), c.requires.1)

both-f-requires : tie.Need-both-f-requires
both-f-requires c κs = search rules

abbrev start : tie.After-both-f → tie.Start
start c = c.before.before.before.before.before.before.before.before.before.before.before.before.before.before.before

-- the numbers worked out are those of both parts
known : (c : tie.After-both-f) →
    let a = (start c).args in
    c.both-f.result ≡ both_facts (facts_at a.facts.now (nat a.w.a)) (facts_at a.facts.now (nat a.w.b))
known c =
    c.both-f.ensures
    ∙ ap₂ both_facts (rw (read_back c.args.w.a c.struct_told-1.given.1.0.1) at c.part-a.ensures.0) (rw (read_back c.args.w.b c.struct_told-1.given.1.1.0.1) at c.part-b.ensures.0)

-- the three tests have passed
tested : (c : tie.After-both-f) →
    let a = (start c).args in
    (below a.r a.w.a and below a.r a.w.b and eq_z a.w.c (pos 0)) ≡ true
tested c =
    and_both _ _
    (rw (read_back c.args.w.a c.struct_told-1.given.1.0.1) at (passes _ c.below.ensures (ap not c.if-not-below.false)))
    (and_both _ _
    (rw (read_back c.args.w.b c.struct_told-1.given.1.1.0.1) at (passes _ c.below-2.ensures (ap not c.if-not-below-2.false)))
    (rw (read_back c.args.w.c c.struct_told-1.given.1.1.1.0.1) at (passes _ c.equal.ensures (ap not c.if-not-equal.false))))

-- so the row is what its numbers say
judged_is : (c : tie.After-both-f) {j : (Option Facts)} → j ≡ unmixed c.both-f.result →
    j ≡ pair_judged (start c).args.r (row_of (start c).args.w) (start c).args.facts.now
unfolding pair_judged row_of
judged_is c e = e ∙ ap unmixed (known c) ∙ sym (if_true _ _ _ (tested c))

returns-then-f-eq0 : tie.Need-returns-then-f-eq0
unfolding unmixed
returns-then-f-eq0 c =
    judged_is c.before.before (sym (if_true _ _ _ (or_left _ _ (eq-eqb _ 0 c.if-f-eq0.true))))

returns-then-f-eq0-2 : tie.Need-returns-then-f-eq0-2
unfolding unmixed
returns-then-f-eq0-2 c =
    judged_is c.before.before.before.before (sym (if_true _ _ _ (or_right (eqb c.both-f.result.loose 0) _ (eq-eqb _ 0 c.if-f-eq0-2.true))))

returns : tie.Need-returns
unfolding unmixed
returns c =
    judged_is c.before.before.before.before
    (sym (if_false _ _ _ (or_false _ _ (ne_eqb _ 0 c.if-f-eq0.false) (ne_eqb _ 0 c.if-f-eq0-2.false))))

pub junction_spec : {M : Type 1} → statement M
junction_spec =
    tie.close
    (tie.spec
    below-requires
    returns-then-not-below
    below-requires-2
    returns-then-not-below-2
    equal-requires
    returns-then-not-equal
    part-a-requires
    part-b-requires
    both-f-requires
    returns-then-f-eq0
    returns-then-f-eq0-2
    returns)
