use native.Mathlib.Omega.{arith}
use Prim.Native.Nat.{◌+◌, ◌*◌}
use mathlib.Core.Path.{sym, ◌∙◌}
use borrow.Author.Rules.{rules}
use lib.ListN.{get_or}
use Rattle.classes.specs.Key.{kept_code}
use Rattle.classes.proofs.Shifts.{above_none, above_some}
use Rattle.classes.proofs.form.code.Statement.{statement}
use Rattle.classes.proofs.form.code.Tie as tie

overflow_mul-a : tie.Need-overflow_mul-a
overflow_mul-a c = search rules

held_at-class-requires : tie.Need-held_at-class-requires
held_at-class-requires c κs = search rules

overflow_mul-a-2 : tie.Need-overflow_mul-a-2
overflow_mul-a-2 c = search rules

overflow_add-a : tie.Need-overflow_add-a
overflow_add-a c = search rules

held_at-shift-requires : tie.Need-held_at-shift-requires
held_at-shift-requires c κs = search rules

overflow_mul-result : tie.Need-overflow_mul-result
overflow_mul-result c = search rules

overflow_add-result : tie.Need-overflow_add-result
overflow_add-result c = search rules

returns-then-shift-eq0 : tie.Need-returns-then-shift-eq0
unfolding kept_code
returns-then-shift-eq0 c =
    let e = above_none c.args.m _ (sym c.held_at-shift.ensures.0 ∙ c.if-shift-eq0.true) in
    omega (arith, c.held_at-class.ensures.0)

overflow_sub-result : tie.Need-overflow_sub-result
overflow_sub-result c =
    let l = c.requires.1 (omega (arith, c.held_at-shift.ensures.0, c.if-shift-eq0.false)) in
    omega (arith, c.held_at-shift.ensures.0)

overflow_mul-result-2 : tie.Need-overflow_mul-result-2
overflow_mul-result-2 c = search rules

overflow_add-result-2 : tie.Need-overflow_add-result-2
overflow_add-result-2 c = search rules

returns : tie.Need-returns
unfolding kept_code
returns c =
    let b = c.args in
    let e = above_some b.m (get_or b.forms.now (4 * b.a + 1) 0) (omega (arith, c.held_at-shift.ensures.0, c.if-shift-eq0.false)) in
    omega (arith, c.held_at-class.ensures.0, c.held_at-shift.ensures.0)

pub code_spec : {M : Type 1} → statement M
code_spec =
    tie.close
    (tie.spec
    overflow_mul-a
    held_at-class-requires
    overflow_mul-a-2
    overflow_add-a
    held_at-shift-requires
    overflow_mul-result
    overflow_add-result
    returns-then-shift-eq0
    overflow_sub-result
    overflow_mul-result-2
    overflow_add-result-2
    returns)
