use Rattle.std.proofs.Common.{arith, ◌≡◌, ◌∙◌, ◌+◌, ◌-◌, ◌≤◌, sym, ap, length, ℕ}
use Rattle.stab.specs.Text.{lines}
use Rattle.stab.specs.LineNumber.{span_from, line_span}
use Rattle.line.proofs.LineSpans.{end_within, next_line_lem, no_line, past_end}
use Rattle.line.proofs.start_of.Goals.{Else-end-text}
use Rattle.line.proofs.start_of.Goals as goal

pub loop-init : goal.loop-init
unfolding line_span
loop-init c =
    let one : c.args.k + 1 - 1 ≡ c.args.k = omega arith in
    record { within = omega arith; same = ap (λ (n : ℕ). span_from 0 n (lines c.args.text.now)) one }

pub returns-then-end-text : goal.returns-then-end-text
returns-then-end-text c =
    let text = c.args.text.now in
    let end = c.end_of-end.result in
    let last : length text ≤ end = omega arith in (
      omega arith,
      past_end text end last
          ∙ sym (no_line text c.loop.at end c.end_of-end.ensures (c.args.k + 1 - c.loop.counter) last (omega arith))
          ∙ c.loop.invariant.same,
    )

-- a line ends before the text does
short : (c : Else-end-text) → c.end_of-end.result + 1 ≤ length c.args.text.now
short c = omega (arith, end_within c.args.text.now c.loop.at c.end_of-end.result c.end_of-end.ensures c.loop.invariant.within)

pub overflow_add-at : goal.overflow_add-at
overflow_add-at c = omega (arith, short c)

pub loop-preserved : goal.loop-preserved
loop-preserved c =
    record {
      within = short c;
      same = next_line_lem c.args.text.now c.loop.at c.end_of-end.result c.end_of-end.ensures (c.args.k + 1 - c.loop.counter) (c.args.k + 1 - (c.loop.counter + 1)) (omega (arith, short c)) (omega arith) (omega arith)
          ∙ c.loop.invariant.same;
    }
