use mathlib.Core.Bool.{not}
use borrow.Author.Rules.{rules}
use mathlib.Core.Path.{sym, ◌∙◌, ap}
use Rattle.stab.specs.Formula.{row_at}
use Rattle.stab.specs.Check.{same_row}
use Rattle.stab.proofs.Bools.{and_first_false, and_first_true, asked_false, asked_true}
use Rattle.repeats.proofs.row.same_rows.Statement.{statement}
use Rattle.repeats.proofs.row.same_rows.Tie as tie

overflow_mul-i : tie.Need-overflow_mul-i
overflow_mul-i c = search rules

overflow_mul-j : tie.Need-overflow_mul-j
overflow_mul-j c = search rules

same_at-requires : tie.Need-same_at-requires
same_at-requires c κs = search rules

returns-then-not-same_at : tie.Need-returns-then-not-same_at
unfolding same_row row_at
returns-then-not-same_at c = sym (and_first_false _ _ (asked_false c.same_at.ensures (ap not c.if-not-same_at.true)))

overflow_add-i : tie.Need-overflow_add-i
overflow_add-i c = search rules

overflow_add-j : tie.Need-overflow_add-j
overflow_add-j c = search rules

same_at-requires-2 : tie.Need-same_at-requires-2
same_at-requires-2 c κs = search rules

returns-then-not-same_at-2 : tie.Need-returns-then-not-same_at-2
unfolding same_row row_at
returns-then-not-same_at-2 c =
    sym
    (and_first_true _ _ (asked_true c.same_at.ensures (ap not c.if-not-same_at.false))
    ∙ and_first_false _ _ (asked_false c.same_at-2.ensures (ap not c.if-not-same_at-2.true)))

overflow_add-i-2 : tie.Need-overflow_add-i-2
overflow_add-i-2 c = search rules

overflow_add-j-2 : tie.Need-overflow_add-j-2
overflow_add-j-2 c = search rules

same_at-requires-3 : tie.Need-same_at-requires-3
same_at-requires-3 c κs = search rules

returns-then-not-same_at-3 : tie.Need-returns-then-not-same_at-3
unfolding same_row row_at
returns-then-not-same_at-3 c =
    sym
    (and_first_true _ _ (asked_true c.same_at.ensures (ap not c.if-not-same_at.false))
    ∙ and_first_true _ _ (asked_true c.same_at-2.ensures (ap not c.if-not-same_at-2.false))
    ∙ and_first_false _ _ (asked_false c.same_at-3.ensures (ap not c.if-not-same_at-3.true)))

overflow_add-i-3 : tie.Need-overflow_add-i-3
overflow_add-i-3 c = search rules

overflow_add-j-3 : tie.Need-overflow_add-j-3
overflow_add-j-3 c = search rules

same_at-requires-4 : tie.Need-same_at-requires-4
same_at-requires-4 c κs = search rules

returns : tie.Need-returns
unfolding same_row row_at
returns c =
    c.same_at-4.ensures
    ∙ sym
    (and_first_true _ _ (asked_true c.same_at.ensures (ap not c.if-not-same_at.false))
    ∙ and_first_true _ _ (asked_true c.same_at-2.ensures (ap not c.if-not-same_at-2.false))
    ∙ and_first_true _ _ (asked_true c.same_at-3.ensures (ap not c.if-not-same_at-3.false)))

pub same_rows_spec : {M : Type 1} → statement M
same_rows_spec =
    tie.close
    (tie.spec
    overflow_mul-i
    overflow_mul-j
    same_at-requires
    returns-then-not-same_at
    overflow_add-i
    overflow_add-j
    same_at-requires-2
    returns-then-not-same_at-2
    overflow_add-i-2
    overflow_add-j-2
    same_at-requires-3
    returns-then-not-same_at-3
    overflow_add-i-3
    overflow_add-j-3
    same_at-requires-4
    returns)
