use mathlib.Core.Bool.{not}
use mathlib.Core.Path.{sym, ◌∙◌, ap}
use borrow.Author.Rules.{rules}
use Rattle.stab.proofs.Bools.{and_both, and_first_false, and_second_false, if_true, if_false}
use Rattle.signed.proofs.Signs.{read_back}
use Rattle.formula.specs.Cells.{row_of}
use Rattle.formula.specs.declared.rows.Facts.{Facts}
use Rattle.std.specs.Prelude.{Some}
use Rattle.formula.proofs.RowLaws.{fails, passes}
use Rattle.widerows.specs.WideRows.{not_facts, not_judged}
use Rattle.widerows.proofs.negation.Statement.{statement}
use Rattle.widerows.proofs.negation.Tie as tie

below-requires : tie.Need-below-requires
below-requires c κs = search rules

returns-then-not-below : tie.Need-returns-then-not-below
unfolding not_judged row_of
returns-then-not-below c =
    sym (if_false _ _ _ (and_first_false _ _ (rw (read_back c.args.w.a c.struct_told-1.given.1.0.1) at (fails _ c.below.ensures (ap not c.if-not-below.true)))))

equal-requires : tie.Need-equal-requires
equal-requires c κs = search rules

returns-then-not-equal : tie.Need-returns-then-not-equal
unfolding not_judged row_of
returns-then-not-equal c =
    sym
    (if_false _ _ _
    (and_second_false _ _ (and_first_false _ _ (rw (read_back c.args.w.b c.struct_told-1.given.1.1.0.1) at (fails _ c.equal.ensures (ap not c.if-not-equal.true))))))

equal-requires-2 : tie.Need-equal-requires-2
equal-requires-2 c κs = search rules

returns-then-not-equal-2 : tie.Need-returns-then-not-equal-2
unfolding not_judged row_of
returns-then-not-equal-2 c =
    sym
    (if_false _ _ _
    (and_second_false _ _ (and_second_false _ _ (rw (read_back c.args.w.c c.struct_told-1.given.1.1.1.0.1) at (fails _ c.equal-2.ensures (ap not c.if-not-equal-2.true))))))

part-f-requires : tie.Need-part-f-requires
part-f-requires c κs =
    (search rules, passes _ c.below.ensures (ap not c.if-not-below.false), c.requires.1)

overflow_add-result : tie.Need-overflow_add-result
overflow_add-result c = search rules

overflow_add-result-2 : tie.Need-overflow_add-result-2
overflow_add-result-2 c = search rules

returns : tie.Need-returns
unfolding not_judged not_facts row_of
returns c =
    ap (λ (f' : Facts). Some (not_facts f')) (rw (read_back c.args.w.a c.struct_told-1.given.1.0.1) at c.part-f.ensures.0)
    ∙ sym
    (if_true _ _ _
    (and_both _ _
    (rw (read_back c.args.w.a c.struct_told-1.given.1.0.1) at (passes _ c.below.ensures (ap not c.if-not-below.false)))
    (and_both _ _
    (rw (read_back c.args.w.b c.struct_told-1.given.1.1.0.1) at (passes _ c.equal.ensures (ap not c.if-not-equal.false)))
    (rw (read_back c.args.w.c c.struct_told-1.given.1.1.1.0.1) at (passes _ c.equal-2.ensures (ap not c.if-not-equal-2.false))))))

pub negation_spec : {M : Type 1} → statement M
negation_spec =
    tie.close
    (tie.spec
    below-requires
    returns-then-not-below
    equal-requires
    returns-then-not-equal
    equal-requires-2
    returns-then-not-equal-2
    part-f-requires
    overflow_add-result
    overflow_add-result-2
    returns)
