use mathlib.Core.Bool.{not}
use mathlib.Core.Path.{◌≡◌, sym, ◌∙◌, ap}
use borrow.Author.Rules.{rules}
use Rattle.stab.proofs.Bools.{and_first_false, and_second_false, and_first_true, asked_false, asked_true}
use Rattle.stab.specs.Check.{same_row}
use Rattle.stab.specs.Formula.{row_at}
use Rattle.stab.specs.Basic.{eq_z}
use Rattle.signed.proofs.Signs.{read_back}
use Rattle.nextsmall.proofs.rows.same.Statement.{statement}
use Rattle.nextsmall.proofs.rows.same.Tie as tie

-- each column is compared
kind_is : (c : tie.After-is_at) → c.is_at.result ≡ eq_z (row_at c.args.table.now c.args.r).kind c.args.w.kind
unfolding row_at
kind_is c = c.is_at.ensures ∙ ap (eq_z (row_at c.args.table.now c.args.r).kind) (read_back c.args.w.kind c.struct_told-1.given.0.1)

a_is : (c : tie.After-is_at-2) → c.is_at-2.result ≡ eq_z (row_at c.args.table.now c.args.r).a c.args.w.a
unfolding row_at
a_is c =
    c.is_at-2.ensures ∙ ap (eq_z (row_at c.args.table.now c.args.r).a) (read_back c.args.w.a c.struct_told-2-1.given.1.0.1)

b_is : (c : tie.After-is_at-3) → c.is_at-3.result ≡ eq_z (row_at c.args.table.now c.args.r).b c.args.w.b
unfolding row_at
b_is c =
    c.is_at-3.ensures ∙ ap (eq_z (row_at c.args.table.now c.args.r).b) (read_back c.args.w.b c.struct_told-3-1.given.1.1.0.1)

c_is : (c : tie.After-is_at-4) → c.is_at-4.result ≡ eq_z (row_at c.args.table.now c.args.r).c c.args.w.c
unfolding row_at
c_is c =
    c.is_at-4.ensures ∙ ap (eq_z (row_at c.args.table.now c.args.r).c) (read_back c.args.w.c c.struct_told-4-1.given.1.1.1.0.1)

overflow_mul-at : tie.Need-overflow_mul-at
overflow_mul-at c = search rules

is_at-requires : tie.Need-is_at-requires
is_at-requires c κs = search rules

returns-then-not-is_at : tie.Need-returns-then-not-is_at
unfolding same_row
returns-then-not-is_at c = sym (and_first_false _ _ (asked_false (kind_is c.before) (ap not c.if-not-is_at.true)))

overflow_add-at : tie.Need-overflow_add-at
overflow_add-at c = search rules

is_at-requires-2 : tie.Need-is_at-requires-2
is_at-requires-2 c κs = search rules

returns-then-not-is_at-2 : tie.Need-returns-then-not-is_at-2
unfolding same_row
returns-then-not-is_at-2 c = sym (and_second_false _ _ (and_first_false _ _ (asked_false (a_is c.before) (ap not c.if-not-is_at-2.true))))

overflow_add-at-2 : tie.Need-overflow_add-at-2
overflow_add-at-2 c = search rules

is_at-requires-3 : tie.Need-is_at-requires-3
is_at-requires-3 c κs = search rules

returns-then-not-is_at-3 : tie.Need-returns-then-not-is_at-3
unfolding same_row
returns-then-not-is_at-3 c = sym (and_second_false _ _ (and_second_false _ _ (and_first_false _ _ (asked_false (b_is c.before) (ap not c.if-not-is_at-3.true)))))

overflow_add-at-3 : tie.Need-overflow_add-at-3
overflow_add-at-3 c = search rules

is_at-requires-4 : tie.Need-is_at-requires-4
is_at-requires-4 c κs = search rules

returns : tie.Need-returns
unfolding same_row
returns c =
    c_is c
    ∙ sym
    (and_first_true _ _ (asked_true (kind_is c.before.before.before.before.before.before.before.before.before) (ap not c.if-not-is_at.false))
    ∙ and_first_true _ _ (asked_true (a_is c.before.before.before.before.before.before) (ap not c.if-not-is_at-2.false))
    ∙ and_first_true _ _ (asked_true (b_is c.before.before.before) (ap not c.if-not-is_at-3.false)))

pub same_spec : {M : Type 1} → statement M
same_spec =
    tie.close
    (tie.spec
    overflow_mul-at
    is_at-requires
    returns-then-not-is_at
    overflow_add-at
    is_at-requires-2
    returns-then-not-is_at-2
    overflow_add-at-2
    is_at-requires-3
    returns-then-not-is_at-3
    overflow_add-at-3
    is_at-requires-4
    returns)
