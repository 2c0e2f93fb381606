use Prim.Native.Nat.{◌+◌, ◌-◌}
use native.Mathlib.Omega.{arith}
use mathlib.Core.Path.{refl}
use borrow.Author.Rules.{rules}
use Rattle.stab.specs.LineNumber.{line_span}
use Rattle.line.proofs.LineSpans.{part_is}
use Rattle.line.proofs.line_in.Statement.{statement}
use Rattle.line.proofs.line_in.Tie as tie

span_of-s-requires : tie.Need-span_of-s-requires
span_of-s-requires c κs = search rules

overflow_add-end : tie.Need-overflow_add-end
overflow_add-end c = search rules

slice_bounds-result-count : tie.Need-slice_bounds-result-count
slice_bounds-result-count c = search rules

slice_bounds-result-start : tie.Need-slice_bounds-result-start
slice_bounds-result-start c = search rules

slice_bounds-result-end : tie.Need-slice_bounds-result-end
slice_bounds-result-end c = search rules

returns : tie.Need-returns
returns c =
    let r = c.span_of-s.result in
    part_is c.args.text _ (line_span c.args.text.now c.args.k) r.start (r.start + r.len - r.start)
    c.span_of-s.ensures.0.0
    (omega (arith, c.span_of-s.ensures.0.1))
    refl
    refl
    refl

pub line_in_spec : {M : Type 1} → statement M
line_in_spec =
    tie.close
    (tie.spec span_of-s-requires overflow_add-end slice_bounds-result-count slice_bounds-result-start slice_bounds-result-end returns)
