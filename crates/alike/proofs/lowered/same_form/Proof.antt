use borrow.Author.Rules.{rules}
use mathlib.Core.Bool.{false≢true}
use borrow.Author.Tests.{eqb-true}
use Rattle.alike.proofs.lowered.same_form.Statement.{statement}
use Rattle.alike.proofs.lowered.same_form.Tie as tie

overflow_mul-a : tie.Need-overflow_mul-a
overflow_mul-a c = search rules

overflow_mul-b : tie.Need-overflow_mul-b
overflow_mul-b c = search rules

overflow_add-a : tie.Need-overflow_add-a
overflow_add-a c = search rules

returns-then-forms-a : tie.Need-returns-then-forms-a
returns-then-forms-a c = λ e. absurd (false≢true e)

overflow_add-b : tie.Need-overflow_add-b
overflow_add-b c = search rules

returns-then-forms-b : tie.Need-returns-then-forms-b
returns-then-forms-b c = λ e. absurd (false≢true e)

offset_bounds-forms-a : tie.Need-offset_bounds-forms-a
offset_bounds-forms-a c = search rules

bounds-forms-a : tie.Need-bounds-forms-a
bounds-forms-a c = search rules

offset_bounds-forms-b : tie.Need-offset_bounds-forms-b
offset_bounds-forms-b c = search rules

bounds-forms-b : tie.Need-bounds-forms-b
bounds-forms-b c = search rules

returns-then-forms-a-2 : tie.Need-returns-then-forms-a-2
returns-then-forms-a-2 c = λ e. absurd (false≢true e)

overflow_add-result : tie.Need-overflow_add-result
overflow_add-result c = search rules

offset_bounds-forms-a-2 : tie.Need-offset_bounds-forms-a-2
offset_bounds-forms-a-2 c = search rules

bounds-forms-a-2 : tie.Need-bounds-forms-a-2
bounds-forms-a-2 c = search rules

overflow_add-result-2 : tie.Need-overflow_add-result-2
overflow_add-result-2 c = search rules

offset_bounds-forms-b-2 : tie.Need-offset_bounds-forms-b-2
offset_bounds-forms-b-2 c = search rules

bounds-forms-b-2 : tie.Need-bounds-forms-b-2
bounds-forms-b-2 c = search rules

returns : tie.Need-returns
returns c = λ e. (c.if-forms-a-2.false, eqb-true _ _ e)

pub same_form_spec : {M : Type 1} → statement M
same_form_spec =
    tie.close
    (tie.spec
    overflow_mul-a
    overflow_mul-b
    overflow_add-a
    returns-then-forms-a
    overflow_add-b
    returns-then-forms-b
    offset_bounds-forms-a
    bounds-forms-a
    offset_bounds-forms-b
    bounds-forms-b
    returns-then-forms-a-2
    overflow_add-result
    offset_bounds-forms-a-2
    bounds-forms-a-2
    overflow_add-result-2
    offset_bounds-forms-b-2
    bounds-forms-b-2
    returns)
