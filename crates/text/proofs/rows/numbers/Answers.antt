use Rattle.std.proofs.Common.{arith, ◌≡◌, ◌∙◌, ◌+◌, ◌≤◌, sym}
use Rattle.text.proofs.Parts.{step_bad, step_more, step_last, open_start, open_bad, open_more, open_last, open_kept, ended_kept}
use Rattle.text.proofs.rows.numbers.Goals as goal

pub loop-k-init : goal.loop-k-init
loop-k-init c = let a = c.args in open_start a.text.now a.at a.table.now a.to c.requires.0

pub returns-in-Bad : goal.returns-in-Bad
returns-in-Bad c =
    let l = c.loop-k in
    let a = c.args in
    open_bad a.text.now a.at a.table.now a.to l.table l.k l.i l.invariant
    (step_bad a.text.now l.i l.table l.k 0 l.table (sym c.number.ensures.0 ∙ c.in-Bad.is))
    _ c.number.ensures.1 a.w (omega arith)

pub returns-in-Last : goal.returns-in-Last
returns-in-Last c =
    let l = c.loop-k in
    let a = c.args in
    let within : l.k + 1 ≤ a.to + a.w = omega arith in
    let r = open_last a.text.now a.at a.table.now a.to l.table l.k l.i l.invariant _ _ _
    (step_last a.text.now l.i l.table l.k _ _ (sym c.number.ensures.0 ∙ c.in-Last.is) c.number.ensures.1 l.invariant.within) in
    ((r, within), ended_kept a.text.now a.at a.table.now a.to _ a.w _ (l.k + 1) within r)

pub loop-k-preserved : goal.loop-k-preserved
loop-k-preserved c =
    let l = c.loop-k in
    let a = c.args in
    open_more a.text.now a.at a.table.now a.to l.table l.k l.i l.invariant _ _ _
    (step_more a.text.now l.i l.table l.k _ _ (sym c.number.ensures.0 ∙ c.in-More.is) c.number.ensures.1 l.invariant.within)

pub returns : goal.returns
returns c =
    let l = c.loop-k in
    let a = c.args in
    let all : l.k ≡ a.to + a.w = omega arith in
    let r = rw all at l.invariant in
    (r, open_kept a.text.now a.at a.table.now a.to l.table a.w l.i r)
