use borrow.Author.Rules.{rules}
use native.Mathlib.Omega.{arith}
use Prim.Native.Nat.{◌+◌, ◌<◌}
use mathlib.Core.Path.{sym, ◌∙◌, ap}
use lib.ListN.{drop, length, length-drop}
use Rattle.stab.specs.Text.{is_digit}
use Rattle.numerals.specs.Numerals.{no_numeral}
use Rattle.numerals.proofs.Runs.{byte_within, not_digit_low, not_digit_high}
use Rattle.numerals.proofs.Fields.{at_zero, at_other, at_run, run_within}
use Rattle.numerals.proofs.natural_at.Statement.{statement}
use Rattle.numerals.proofs.natural_at.Tie as tie

byte_at-b-requires : tie.Need-byte_at-b-requires
byte_at-b-requires c κs = search rules

overflow_add-at : tie.Need-overflow_add-at
overflow_add-at c = search rules

closed-requires : tie.Need-closed-requires
closed-requires c κs =
    let a = c.args in
    omega (arith, byte_within a.text.now a.at (omega (arith, c.byte_at-b.ensures, c.if-b-eq48.true)))

returns-then-b-eq48 : tie.Need-returns-then-b-eq48
returns-then-b-eq48 c =
    let a = c.args in
    c.closed.ensures ∙ sym (at_zero a.text.now a.at (sym c.byte_at-b.ensures ∙ c.if-b-eq48.true))

returns-then-b-lt49 : tie.Need-returns-then-b-lt49
unfolding no_numeral
returns-then-b-lt49 c =
    let a = c.args in
    let b = c.byte_at-b in
    let low : b.result < 48 = omega (arith, c.if-b-eq48.false) in
    sym (at_other a.text.now a.at (ap is_digit (sym b.ensures) ∙ not_digit_low b.result low))

returns-then-b-gt57 : tie.Need-returns-then-b-gt57
unfolding no_numeral
returns-then-b-gt57 c =
    let a = c.args in
    let b = c.byte_at-b in
    sym (at_other a.text.now a.at (ap is_digit (sym b.ensures) ∙ not_digit_high b.result c.if-b-gt57.true))

overflow_add-at-2 : tie.Need-overflow_add-at-2
overflow_add-at-2 c = search rules

overflow_sub-b : tie.Need-overflow_sub-b
overflow_sub-b c = search rules

-- a byte stands there
within : (c : tie.Else-b-gt57) → c.args.at < length c.args.text.now
within c =
    let a = c.args in
    byte_within a.text.now a.at (omega (arith, c.byte_at-b.ensures, c.if-b-gt57.false))

digits-requires : tie.Need-digits-requires
digits-requires c κs = omega (arith, within c)

closed-requires-2 : tie.Need-closed-requires-2
closed-requires-2 c κs =
    let a = c.args in
    omega (arith, within c.before, c.digits.ensures.1, run_within 4 (drop (a.at + 1) a.text.now), length-drop (a.at + 1) a.text.now)

returns : tie.Need-returns
returns c =
    let a = c.args in
    let b = c.byte_at-b in
    let d = c.digits in
    c.closed-2.ensures
    ∙ at_run a.text.now a.at b.result d.result.value d.result.next b.ensures
    c.if-b-lt49.false c.if-b-gt57.false d.ensures.0 d.ensures.1

pub natural_at_spec : {M : Type 1} → statement M
natural_at_spec =
    tie.close
    (tie.spec
    byte_at-b-requires
    overflow_add-at
    closed-requires
    returns-then-b-eq48
    returns-then-b-lt49
    returns-then-b-gt57
    overflow_add-at-2
    overflow_sub-b
    digits-requires
    closed-requires-2
    returns)
