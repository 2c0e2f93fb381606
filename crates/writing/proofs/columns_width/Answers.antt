use Rattle.std.proofs.Common.{arith, ◌≡◌, ◌∙◌, ◌+◌, ap, refl, length, add-one}
use Rattle.std.proofs.lemmas.List.{length_push}
use Rattle.digits.specs.Over.{spread}
use Rattle.output.specs.NodeTexts.{columns_width}
use Rattle.output.proofs.Chunks.{NextRow, next_row}
use Rattle.output.proofs.NodeRows.{columns_most, seven_is}
use Rattle.writing.proofs.columns_width.Goals.{After-spread_width-sum}
use Rattle.writing.proofs.columns_width.Goals as goal

pub loop-row-init : goal.loop-row-init
unfolding columns_width
loop-row-init c = record {
  can_next = grind arith;
  finite = tt;
  within = omega arith;
  summed = refl;
  width = grind arith;
  left = grind arith;
}

-- the row of this turn
next : (c : After-spread_width-sum) → let a = c.args in NextRow 9 a.nodes.now a.count (length c.loop-row.yielded) c.in-Some.row.now c.next.new.self.rest.now
next c =
    let a = c.args in
    let l = c.loop-row in
    let one = c.in-Some.ensures.steps.1 in
    next_row 9 a.nodes.now a.count (omega arith) c.requires (length l.yielded) l.invariant.within l.row-iterator.rest.now l.invariant.left
    c.in-Some.row.now c.next.new.self.rest.now one.0 (one.1 ∙ l.invariant.width)

summed : (c : After-spread_width-sum) → c.loop-row.sum + c.spread_width-sum.result ≡ columns_width c.args.nodes.now (length c.loop-row.yielded + 1)
unfolding columns_width
summed c =
    let nodes = c.args.nodes.now in
    let i = length c.loop-row.yielded in
    omega (
      arith,
      c.loop-row.invariant.summed,
      c.spread_width-sum.ensures,
      ap (λ l. length (spread l)) (seven_is nodes c.args.count i c.in-Some.row.now c.next.new.self.rest.now (next c)),
      ap (columns_width nodes) (add-one i),
    )

pub overflow_add-sum : goal.overflow_add-sum
overflow_add-sum c =
    omega (arith, summed c, (next c).less, columns_most c.args.nodes.now (length c.loop-row.yielded + 1) (omega (arith, (next c).less)))

pub loop-row-preserved : goal.loop-row-preserved
loop-row-preserved c =
    rw (length_push c.loop-row.yielded c.in-Some.row) record {
      can_next = grind arith;
      finite = tt;
      within = omega (arith, (next c).less);
      summed = summed c;
      width = grind arith;
      left = (next c).left;
    }
