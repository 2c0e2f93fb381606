use Rattle.std.proofs.Common.{◌*◌, ◌<◌, length, sym, ◌∙◌, ap, arith, length-take-le}
use Rattle.std.proofs.Math.Option.{some}
use Rattle.small.specs.Small.{on_list, tables}
use Rattle.nextsmall.proofs.TablePlaces.{front_is, front_fits, from_found, from_on, from_end}
use Rattle.nextsmall.proofs.list.first.Goals as goal

pub on_list-requires : goal.on_list-requires
on_list-requires c =
    let n = c.args.n in
    let here : c.loop-i.i < length (tables n) = omega (arith, c.total-m.ensures.0) in (
      c.requires.0,
      c.requires.1,
      omega (arith, length-take-le (4 * n) c.put.new.table (omega arith)),
      front_fits n c.loop-i.i c.requires.1 here _ _ c.put.ensures,
    )

pub returns-then-on_list : goal.returns-then-on_list
returns-then-on_list c =
    let n = c.args.n in
    let here : c.loop-i.i < length (tables n) = omega (arith, c.total-m.ensures.0) in
    let front = front_is n c.loop-i.i c.requires.1 here _ _ c.put.ensures in
    let passes = ap (on_list n) (sym front) ∙ sym c.if-on_list.ensures in
    (λ _. c.loop-i.invariant ∙ from_found n c.loop-i.i here passes ∙ ap some (sym front), λ e. absurd cc)

pub loop-i-preserved : goal.loop-i-preserved
loop-i-preserved c =
    let n = c.args.n in
    let here : c.loop-i.i < length (tables n) = omega (arith, c.total-m.ensures.0) in
    let front = front_is n c.loop-i.i c.requires.1 here _ _ c.put.ensures in
    c.loop-i.invariant ∙ from_on n c.loop-i.i here (ap (on_list n) (sym front) ∙ sym c.if-on_list.ensures)

pub returns : goal.returns
returns c =
    (λ e. absurd cc, λ _. c.loop-i.invariant ∙ from_end c.args.n c.loop-i.i (omega (arith, c.total-m.ensures.0)))
