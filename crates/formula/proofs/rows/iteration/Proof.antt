use mathlib.Core.Bool.{not}
use mathlib.Core.Path.{sym, ◌∙◌, ap}
use lib.Dec.{eqb}
use borrow.Author.Rules.{rules}
use borrow.Author.Tests.{eq-eqb, ne_eqb}
use Rattle.stab.proofs.Bools.{and_both, and_first_false, and_second_false, if_true, if_false}
use Rattle.signed.proofs.Signs.{read_back}
use Rattle.formula.specs.Cells.{row_of}
use Rattle.formula.specs.Rows.{over_facts, body_judged}
use Rattle.formula.specs.declared.rows.Facts.{Facts}
use Rattle.std.specs.Prelude.{Some}
use Rattle.formula.proofs.RowLaws.{fails, passes}
use Rattle.formula.proofs.rows.iteration.Statement.{statement}
use Rattle.formula.proofs.rows.iteration.Tie as tie

below-requires : tie.Need-below-requires
below-requires c κs = search rules

returns-then-not-below : tie.Need-returns-then-not-below
unfolding body_judged row_of
returns-then-not-below c =
    sym (if_false _ _ _ (and_first_false _ _ (rw (read_back c.args.w.a c.struct_told-1.given.1.0.1) at (fails _ c.below.ensures (ap not c.if-not-below.true)))))

is_offset-requires : tie.Need-is_offset-requires
is_offset-requires c κs = search rules

returns-then-not-is_offset : tie.Need-returns-then-not-is_offset
unfolding body_judged row_of
returns-then-not-is_offset c =
    sym
    (if_false _ _ _
    (and_second_false _ _ (and_first_false _ _ (rw (read_back c.args.w.b c.struct_told-1.given.1.1.0.1) at (fails _ c.is_offset.ensures (ap not c.if-not-is_offset.true))))))

is_offset-requires-2 : tie.Need-is_offset-requires-2
is_offset-requires-2 c κs = search rules

returns-then-not-is_offset-2 : tie.Need-returns-then-not-is_offset-2
unfolding body_judged row_of
returns-then-not-is_offset-2 c =
    sym
    (if_false _ _ _
    (and_second_false _ _
    (and_second_false _ _ (and_first_false _ _ (rw (read_back c.args.w.c c.struct_told-1.given.1.1.1.0.1) at (fails _ c.is_offset-2.ensures (ap not c.if-not-is_offset-2.true)))))))

part-f-requires : tie.Need-part-f-requires
part-f-requires c κs =
    (search rules, passes _ c.below.ensures (ap not c.if-not-below.false), c.requires.1)

over-requires : tie.Need-over-requires
over-requires c κs = c.part-f.ensures.1

returns-then-f-eq0 : tie.Need-returns-then-f-eq0
unfolding body_judged row_of
returns-then-f-eq0 c =
    let known = rw (read_back c.args.w.a c.struct_told-1.given.1.0.1) at c.part-f.ensures.0 in
    ap Some (c.over.ensures ∙ ap over_facts known)
    ∙ sym
    (if_true _ _ _
    (and_both _ _
    (rw (read_back c.args.w.a c.struct_told-1.given.1.0.1) at (passes _ c.below.ensures (ap not c.if-not-below.false)))
    (and_both _ _
    (rw (read_back c.args.w.b c.struct_told-1.given.1.1.0.1) at (passes _ c.is_offset.ensures (ap not c.if-not-is_offset.false)))
    (and_both _ _
    (rw (read_back c.args.w.c c.struct_told-1.given.1.1.1.0.1) at (passes _ c.is_offset-2.ensures (ap not c.if-not-is_offset-2.false)))
    (ap (λ (f' : Facts). eqb f'.fixed 0) (sym known) ∙ eq-eqb _ 0 c.if-f-eq0.true)))))

returns : tie.Need-returns
unfolding body_judged row_of
returns c =
    let known = rw (read_back c.args.w.a c.struct_told-1.given.1.0.1) at c.part-f.ensures.0 in
    sym
    (if_false _ _ _
    (and_second_false _ _
    (and_second_false _ _ (and_second_false _ _ (ap (λ (f : Facts). eqb f.fixed 0) (sym known) ∙ ne_eqb _ 0 c.if-f-eq0.false)))))

pub iteration_spec : {M : Type 1} → statement M
iteration_spec =
    tie.close
    (tie.spec
    below-requires
    returns-then-not-below
    is_offset-requires
    returns-then-not-is_offset
    is_offset-requires-2
    returns-then-not-is_offset-2
    part-f-requires
    over-requires
    returns-then-f-eq0
    returns)
