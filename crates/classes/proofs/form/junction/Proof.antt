use native.Mathlib.Omega.{arith}
use Prim.Native.Nat.{ℕ, ◌+◌, ◌*◌, ◌<◌, ◌≤◌}
use mathlib.Core.Path.{◌≡◌, sym, ◌∙◌, ap, ap₂, subst}
use mathlib.Core.List.{List}
use lib.ListN.{get_or}
use borrow.Author.Rules.{rules}
use borrow.Author.Tests.{le-leb, lt-leb}
use Rattle.stab.specs.Basic.{nat}
use Rattle.stab.proofs.Bools.{if_true, if_false}
use Rattle.signed.proofs.Signs.{read_back}
use Rattle.formula.specs.Cells.{row_of}
use Rattle.classes.specs.Key.{smaller, in_order, junction_form}
use Rattle.classes.proofs.Shifts.{smaller_below}
use Rattle.classes.proofs.form.junction.Statement.{statement}
use Rattle.classes.proofs.form.junction.Tie as tie

-- where the parts have been read
abbrev Parts : Type 0
Parts = tie.After-natural-b

abbrev told : Parts → tie.After-struct_told-1
told c = c.before.before.before

abbrev start : Parts → tie.Start
start c = (told c).before.before

abbrev forms : Parts → List ℕ
forms c = (start c).args.forms.now

left_is : (c : Parts) → c.natural-a.result ≡ nat (start c).args.w.a
left_is c = c.natural-a.ensures ∙ ap nat (read_back (start c).args.w.a (told c).struct_told-1.given.1.0.1)

right_is : (c : Parts) → c.natural-b.result ≡ nat (start c).args.w.b
right_is c = c.natural-b.ensures ∙ ap nat (read_back (start c).args.w.b (told c).struct_told-1.given.1.1.0.1)

left_row : (c : Parts) → c.natural-a.result < 1024
left_row c = omega (arith, left_is c, (start c).requires.0)

right_row : (c : Parts) → c.natural-b.result < 1024
right_row c = omega (arith, right_is c, (start c).requires.1)

-- the shift, by what is kept for the parts
shift_of : (c : tie.After-smaller-shift) → c.smaller-shift.result ≡ smaller (get_or (forms c.before.before.before) (4 * c.natural-a.result + 1) 0) (get_or (forms c.before.before.before) (4 * c.natural-b.result + 1) 0)
shift_of c = c.smaller-shift.ensures ∙ ap₂ smaller c.held_at.ensures.0 c.held_at-2.ensures.0

-- the parts with their codes
abbrev parts : tie.After-code-right → Parts
parts c = c.before.before.before.before.before

pair_is : (c : tie.After-code-right) →
    let p = parts c in
    in_order c.smaller-shift.result p.natural-a.result p.natural-b.result c.code-left.result c.code-right.result ≡ junction_form (row_of (start p).args.w) (forms p)
unfolding junction_form row_of
pair_is c =
    let p = parts c in
    let a = left_is p in
    let b = right_is p in
    let m = shift_of c.before.before in
    let x = c.code-left.ensures in
    let y = c.code-right.ensures in
    cc

natural-a-requires : tie.Need-natural-a-requires
natural-a-requires c κs = search rules

natural-b-requires : tie.Need-natural-b-requires
natural-b-requires c κs = search rules

overflow_mul-a : tie.Need-overflow_mul-a
overflow_mul-a c = omega (arith, left_row c)

overflow_add-a : tie.Need-overflow_add-a
overflow_add-a c = omega (arith, left_row c)

held_at-requires : tie.Need-held_at-requires
held_at-requires c κs = omega (arith, left_is c, (start c).requires.2)

overflow_mul-b : tie.Need-overflow_mul-b
overflow_mul-b c = omega (arith, right_row c.before)

overflow_add-b : tie.Need-overflow_add-b
overflow_add-b c = omega (arith, right_row c.before)

held_at-requires-2 : tie.Need-held_at-requires-2
held_at-requires-2 c κs = omega (arith, right_is c.before, (start c.before).requires.3)

smaller-shift-requires : tie.Need-smaller-shift-requires
smaller-shift-requires c κs = search rules

code-left-requires : tie.Need-code-left-requires
code-left-requires c κs = (
  (omega (arith, left_row c.before.before.before), omega (arith, left_is c.before.before.before, (start c.before.before.before).requires.2)),
  λ l. subst (λ (m : ℕ). m ≤ get_or (forms c.before.before.before) (4 * c.natural-a.result + 1) 0) (sym (shift_of c)) ((smaller_below _ _).0 l).1,
)

code-right-requires : tie.Need-code-right-requires
code-right-requires c κs = (
  (omega (arith, right_row c.before.before.before.before), omega (arith, right_is c.before.before.before.before, (start c.before.before.before.before).requires.3)),
  λ l. subst (λ (m : ℕ). m ≤ get_or (forms c.before.before.before.before) (4 * c.natural-b.result + 1) 0) (sym (shift_of c.before)) ((smaller_below _ _).1 l).1,
)

returns-then-left-right : tie.Need-returns-then-left-right
unfolding in_order
returns-then-left-right c = sym (if_true _ _ _ (le-leb _ _ c.if-left-right.true)) ∙ pair_is c.before

returns : tie.Need-returns
unfolding in_order
returns c = sym (if_false _ _ _ (lt-leb _ _ c.if-left-right.false)) ∙ pair_is c.before

pub junction_spec : {M : Type 1} → statement M
junction_spec =
    tie.close
    (tie.spec
    natural-a-requires
    natural-b-requires
    overflow_mul-a
    overflow_add-a
    held_at-requires
    overflow_mul-b
    overflow_add-b
    held_at-requires-2
    smaller-shift-requires
    code-left-requires
    code-right-requires
    returns-then-left-right
    returns)
