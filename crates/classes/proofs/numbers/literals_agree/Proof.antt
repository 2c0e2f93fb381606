use borrow.Author.Rules.{rules}
use native.Mathlib.Omega.{arith}
use mathlib.Core.Path.{◌≡◌, sym, ◌∙◌, ap, ap₂}
use lib.IntN.{ℤ, pos, ◌+ℤ◌, ◌-ℤ◌}
use Rattle.stab.specs.Basic.{eq_z, nat}
use Rattle.stab.specs.Formula.{Row}
use Rattle.signed.proofs.Signs.{read_back}
use Rattle.formula.specs.Cells.{row_of}
use Rattle.formula.specs.declared.cells.Cells.{Cells}
use Rattle.classes.proofs.Meets.{and_none, less_is_more, symbols_differ, nothings_met, nothing_other, other_nothing, others_met}
use Rattle.classes.proofs.Shifts.{offset_read}
use Rattle.classes.proofs.numbers.literals_agree.Statement.{statement}
use Rattle.classes.proofs.numbers.literals_agree.Tie as tie

abbrev by : tie.Start → ℤ
by b = pos b.args.up -ℤ pos b.args.down

-- a column of a row by the columns that were read
a_of : (w : Cells) {r : Row} → row_of w ≡ r → nat w.a ≡ nat r.a
unfolding row_of
a_of w e = ap (λ (u : Row). nat u.a) e

b_of : (w : Cells) {r : Row} → row_of w ≡ r → nat w.b ≡ nat r.b
unfolding row_of
b_of w e = ap (λ (u : Row). nat u.b) e

c_of : (w : Cells) {r : Row} → row_of w ≡ r → w.c ≡ r.c
unfolding row_of
c_of w e = ap (λ (u : Row). u.c) e

natural-requires : tie.Need-natural-requires
natural-requires c κs = search rules

natural-requires-2 : tie.Need-natural-requires-2
natural-requires-2 c κs = search rules

-- ---- symbols

abbrev start : tie.After-natural-2 → tie.Start
start c = c.before.before.before.before

symbol_x : (c : tie.After-natural-2) → c.natural.result ≡ nat (start c).args.x.a
symbol_x c =
    c.natural.ensures ∙ ap nat (read_back (start c).args.x.a c.struct_told-1.given.1.0.1)

symbol_y : (c : tie.After-natural-2) → c.natural-2.result ≡ nat (start c).args.y.a
symbol_y c = c.natural-2.ensures ∙ ap nat (read_back (start c).args.y.a c.struct_told-2-1.given.1.0.1)

returns-then-natural : tie.Need-returns-then-natural
returns-then-natural c rows f g ex ey wf wg same p l =
    sym
    (symbols_differ rows (by (start c.before)) f g wf wg same p l
    (λ e. c.if-natural.true (symbol_x c.before ∙ a_of (start c.before).args.x ex ∙ e ∙ sym (symbol_y c.before ∙ a_of (start c.before).args.y ey))))

natural-base-requires : tie.Need-natural-base-requires
natural-base-requires c κs = search rules

natural-other-requires : tie.Need-natural-other-requires
natural-other-requires c κs = search rules

-- ---- where what both are on has been read

abbrev symbols : tie.After-natural-other → tie.After-natural-2
symbols c = c.before.before.before.before.before

abbrev begin : tie.After-natural-other → tie.Start
begin c = start (symbols c)

one_symbol : (c : tie.After-natural-other) → nat (begin c).args.x.a ≡ nat (begin c).args.y.a
one_symbol c = sym (symbol_x (symbols c)) ∙ c.if-natural.false ∙ symbol_y (symbols c)

base_x : (c : tie.After-natural-other) → c.natural-base.result ≡ nat (begin c).args.x.b
base_x c =
    c.natural-base.ensures ∙ ap nat (read_back (begin c).args.x.b c.struct_told-3-1.given.1.1.0.1)

base_y : (c : tie.After-natural-other) → c.natural-other.result ≡ nat (begin c).args.y.b
base_y c = c.natural-other.ensures ∙ ap nat (read_back (begin c).args.y.b c.struct_told-4-1.given.1.1.0.1)

-- ---- a number of its own

returns-then-other-ne0 : tie.Need-returns-then-other-ne0
returns-then-other-ne0 c rows f g ex ey wf wg same p l =
    sym
    (nothing_other rows (by (begin c.before.before)) f g wf wg same p l (sym (a_of (begin c.before.before).args.x ex) ∙ one_symbol c.before.before ∙ a_of (begin c.before.before).args.y ey)
    (sym (b_of (begin c.before.before).args.x ex) ∙ sym (base_x c.before.before) ∙ c.if-base-eq0.true)
    (λ e. c.if-other-ne0.true (base_y c.before.before ∙ b_of (begin c.before.before).args.y ey ∙ e)))

is_raised-requires : tie.Need-is_raised-requires
is_raised-requires c κs =
    let p = (begin c.before.before.before.before).requires in
    ((omega arith, omega arith), (offset_read _ c.struct_told-then-base-eq0-1.given.1.1.1.0.1 p.2, offset_read _ c.struct_told-then-base-eq0-2-1.given.1.1.1.0.1 p.3))

returns-then-base-eq0 : tie.Need-returns-then-base-eq0
returns-then-base-eq0 c rows f g ex ey wf wg same p l =
    let a = (begin c.before.before.before.before.before).args in
    c.is_raised.ensures
    ∙ ap₂ (λ (z w : ℤ). eq_z (z +ℤ (pos 0 -ℤ pos 0)) w) (read_back a.x.c c.struct_told-then-base-eq0-1.given.1.1.1.0.1 ∙ c_of (begin c.before.before.before.before.before).args.x ex) (read_back a.y.c c.struct_told-then-base-eq0-2-1.given.1.1.1.0.1 ∙ c_of (begin c.before.before.before.before.before).args.y ey)
    ∙ ap (λ (z : ℤ). eq_z z (rows g).c) (and_none (rows f).c)
    ∙ sym
    (nothings_met rows (by (begin c.before.before.before.before.before)) f g wf wg same p l (sym (a_of (begin c.before.before.before.before.before).args.x ex) ∙ one_symbol c.before.before.before.before.before ∙ a_of (begin c.before.before.before.before.before).args.y ey)
    (sym (b_of (begin c.before.before.before.before.before).args.x ex) ∙ sym (base_x c.before.before.before.before.before) ∙ c.if-base-eq0.true)
    (sym (b_of (begin c.before.before.before.before.before).args.y ey) ∙ sym (base_y c.before.before.before.before.before) ∙ c.if-other-ne0.false))

-- ---- a number added to n or i

returns-then-other-eq0 : tie.Need-returns-then-other-eq0
returns-then-other-eq0 c rows f g ex ey wf wg same p l =
    sym
    (other_nothing rows (by (begin c.before.before)) f g wf wg same p l (sym (a_of (begin c.before.before).args.x ex) ∙ one_symbol c.before.before ∙ a_of (begin c.before.before).args.y ey)
    (λ e. c.if-base-eq0.false (base_x c.before.before ∙ b_of (begin c.before.before).args.x ex ∙ e))
    (sym (b_of (begin c.before.before).args.y ey) ∙ sym (base_y c.before.before) ∙ c.if-other-eq0.true))

is_raised-requires-2 : tie.Need-is_raised-requires-2
is_raised-requires-2 c κs =
    let p = (begin c.before.before.before.before).requires in
    ((omega (arith, p.1), omega (arith, p.0)), (offset_read _ c.struct_told-5-1.given.1.1.1.0.1 p.2, offset_read _ c.struct_told-6-1.given.1.1.1.0.1 p.3))

returns : tie.Need-returns
returns c rows f g ex ey wf wg same p l =
    let a = (begin c.before.before.before.before.before).args in
    c.is_raised-2.ensures
    ∙ ap₂ (λ (z w : ℤ). eq_z (z +ℤ (pos a.down -ℤ pos a.up)) w) (read_back a.x.c c.struct_told-5-1.given.1.1.1.0.1 ∙ c_of (begin c.before.before.before.before.before).args.x ex) (read_back a.y.c c.struct_told-6-1.given.1.1.1.0.1 ∙ c_of (begin c.before.before.before.before.before).args.y ey)
    ∙ ap (λ (z : ℤ). eq_z z (rows g).c) (less_is_more (rows f).c a.up a.down)
    ∙ sym
    (others_met rows (by (begin c.before.before.before.before.before)) f g wf wg same p l (sym (a_of (begin c.before.before.before.before.before).args.x ex) ∙ one_symbol c.before.before.before.before.before ∙ a_of (begin c.before.before.before.before.before).args.y ey)
    (λ h. c.if-base-eq0.false (base_x c.before.before.before.before.before ∙ b_of (begin c.before.before.before.before.before).args.x ex ∙ h))
    (λ h. c.if-other-eq0.false (base_y c.before.before.before.before.before ∙ b_of (begin c.before.before.before.before.before).args.y ey ∙ h)))

pub literals_agree_spec : {M : Type 1} → statement M
literals_agree_spec =
    tie.close
    (tie.spec
    natural-requires
    natural-requires-2
    returns-then-natural
    natural-base-requires
    natural-other-requires
    returns-then-other-ne0
    is_raised-requires
    returns-then-base-eq0
    returns-then-other-eq0
    is_raised-requires-2
    returns)
