use Rattle.std.proofs.Common.{arith}
use Rattle.line.proofs.LineSpans.{here_at, more_at, none_at}
use Rattle.line.proofs.end_of.Goals as goal

pub returns-then-text-i-eq10 : goal.returns-then-text-i-eq10
returns-then-text-i-eq10 c =
    let l = c.loop-i in
    omega (arith, l.invariant.same, here_at c.args.text.now l.i c.loop-i-test.true c.if-text-i-eq10.true)

pub loop-i-preserved : goal.loop-i-preserved
loop-i-preserved c =
    let l = c.loop-i in
    record {
      same = omega (arith, l.invariant.same, more_at c.args.text.now l.i c.loop-i-test.true c.if-text-i-eq10.false);
      within = omega arith;
    }

pub returns : goal.returns
returns c =
    let l = c.loop-i in
    omega (arith, l.invariant.same, none_at c.args.text.now l.i (omega arith))
