use Rattle.std.proofs.Common.{◌≡◌, ◌∙◌, ◌-◌, true, false, length, take, drop, sym, arith}
use Rattle.std.proofs.lemmas.List.{take_all}
use Rattle.std.specs.List.{starts_with}
use lib.Dec.{eqb}
use borrow.Author.Tests.{eq-eqb, ne_eqb}
use Rattle.numerals.proofs.Headings.{started, not_started, after_yes, after_no}
use Rattle.numerals.proofs.heading.Goals as goal

pub returns-then-not-starts_with : goal.returns-then-not-starts_with
returns-then-not-starts_with c =
    let a = c.args in
    let all = take_all (length a.h.now) a.h.now (omega arith) in
    let is = c.starts_with.ensures.value in
    let was = c.if-not-starts_with.true in
    let no : starts_with eqb (take (length a.text.now - a.at) (drop a.at a.text.now)) a.h.now ≡ false = grind arith in
    after_no a.text.now a.at a.h.now (not_started a.text.now a.at a.h.now c.requires.1 no)

pub returns-then-byte_at-ne10 : goal.returns-then-byte_at-ne10
returns-then-byte_at-ne10 c =
    let a = c.args in
    let all = take_all (length a.h.now) a.h.now (omega arith) in
    let is = c.starts_with.ensures.value in
    let was = c.if-not-starts_with.false in
    let yes : starts_with eqb (take (length a.text.now - a.at) (drop a.at a.text.now)) a.h.now ≡ true = grind arith in
    after_no a.text.now a.at a.h.now
    (started a.text.now a.at a.h.now c.requires.1 yes ∙ ne_eqb _ 10 (λ e. c.if-byte_at-ne10.true (c.byte_at.ensures ∙ e)))

pub returns : goal.returns
returns c =
    let a = c.args in
    let all = take_all (length a.h.now) a.h.now (omega arith) in
    let is = c.starts_with.ensures.value in
    let was = c.if-not-starts_with.false in
    let yes : starts_with eqb (take (length a.text.now - a.at) (drop a.at a.text.now)) a.h.now ≡ true = grind arith in
    after_yes a.text.now a.at a.h.now
    (started a.text.now a.at a.h.now c.requires.1 yes ∙ eq-eqb _ 10 (sym c.byte_at.ensures ∙ c.if-byte_at-ne10.false))
