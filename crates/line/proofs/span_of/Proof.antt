use Prim.Native.Nat.{◌-◌}
use native.Mathlib.Omega.{arith}
use mathlib.Core.Path.{sym, ◌∙◌}
use borrow.Author.Rules.{rules}
use Rattle.stab.specs.LineNumber.{empty_start, line_span}
use Rattle.line.proofs.LineSpans.{line_zero, this_line, no_line, is_span}
use Rattle.line.proofs.span_of.Statement.{statement}
use Rattle.line.proofs.span_of.Tie as tie

returns-then-k-eq0 : tie.Need-returns-then-k-eq0
unfolding empty_start
returns-then-k-eq0 c =
    (is_span (line_span c.args.text.now c.args.k) 0 0 (line_zero c.args.text.now c.args.k c.if-k-eq0.true), omega arith)

start_of-at-requires : tie.Need-start_of-at-requires
start_of-at-requires c κs = search rules

end_of-end-requires : tie.Need-end_of-end-requires
end_of-end-requires c κs = search rules

overflow_sub-result : tie.Need-overflow_sub-result
overflow_sub-result c = search rules

returns-then-end-text : tie.Need-returns-then-end-text
returns-then-end-text c =
    let at = c.start_of-at.result in (
      is_span (line_span c.args.text.now c.args.k) at (c.end_of-end.result - at)
          (sym c.start_of-at.ensures.1 ∙ this_line c.args.text.now at c.end_of-end.result c.end_of-end.ensures c.if-end-text.true),
      omega arith,
    )

returns : tie.Need-returns
unfolding empty_start
returns c =
    let at = c.start_of-at.result in (
      is_span (line_span c.args.text.now c.args.k) 0 0
          (sym c.start_of-at.ensures.1 ∙ no_line c.args.text.now at c.end_of-end.result c.end_of-end.ensures 1 c.if-end-text.false (omega arith)),
      omega arith,
    )

pub span_of_spec : {M : Type 1} → statement M
span_of_spec =
    tie.close (tie.spec returns-then-k-eq0 start_of-at-requires end_of-end-requires overflow_sub-result returns-then-end-text returns)
