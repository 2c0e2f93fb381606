use mathlib.Core.Bool.{not}
use mathlib.Core.Path.{sym, ap}
use borrow.Author.Rules.{rules}
use Rattle.stab.proofs.Bools.{and_both, and_first_false, and_second_false, if_true, if_false}
use Rattle.signed.proofs.Signs.{read_back}
use Rattle.formula.specs.Cells.{row_of}
use Rattle.formula.specs.Rows.{constant_judged}
use Rattle.formula.proofs.RowLaws.{fails, passes}
use Rattle.formula.proofs.rows.constant.Statement.{statement}
use Rattle.formula.proofs.rows.constant.Tie as tie

equal-requires : tie.Need-equal-requires
equal-requires c κs = search rules

returns-then-not-equal : tie.Need-returns-then-not-equal
unfolding constant_judged row_of
returns-then-not-equal c =
    sym (if_false _ _ _ (and_first_false _ _ (rw (read_back c.args.w.a c.struct_told-1.given.1.0.1) at (fails _ c.equal.ensures (ap not c.if-not-equal.true)))))

equal-requires-2 : tie.Need-equal-requires-2
equal-requires-2 c κs = search rules

returns-then-not-equal-2 : tie.Need-returns-then-not-equal-2
unfolding constant_judged row_of
returns-then-not-equal-2 c =
    sym
    (if_false _ _ _
    (and_second_false _ _ (and_first_false _ _ (rw (read_back c.args.w.b c.struct_told-1.given.1.1.0.1) at (fails _ c.equal-2.ensures (ap not c.if-not-equal-2.true))))))

equal-requires-3 : tie.Need-equal-requires-3
equal-requires-3 c κs = search rules

returns-then-not-equal-3 : tie.Need-returns-then-not-equal-3
unfolding constant_judged row_of
returns-then-not-equal-3 c =
    sym
    (if_false _ _ _
    (and_second_false _ _ (and_second_false _ _ (rw (read_back c.args.w.c c.struct_told-1.given.1.1.1.0.1) at (fails _ c.equal-3.ensures (ap not c.if-not-equal-3.true))))))

returns : tie.Need-returns
unfolding constant_judged row_of
returns c =
    sym
    (if_true _ _ _
    (and_both _ _
    (rw (read_back c.args.w.a c.struct_told-1.given.1.0.1) at (passes _ c.equal.ensures (ap not c.if-not-equal.false)))
    (and_both _ _
    (rw (read_back c.args.w.b c.struct_told-1.given.1.1.0.1) at (passes _ c.equal-2.ensures (ap not c.if-not-equal-2.false)))
    (rw (read_back c.args.w.c c.struct_told-1.given.1.1.1.0.1) at (passes _ c.equal-3.ensures (ap not c.if-not-equal-3.false))))))

pub constant_spec : {M : Type 1} → statement M
constant_spec =
    tie.close
    (tie.spec equal-requires returns-then-not-equal equal-requires-2 returns-then-not-equal-2 equal-requires-3 returns-then-not-equal-3 returns)
