use Rattle.std.proofs.Common.{sym, ap, arith, below_more}
use borrow.Author.Tests.{eq-eqb, ne_eqb}
use Rattle.found.specs.Number.{least_or}
use Rattle.found.proofs.Numbers.{least_is, least_none}
use Rattle.assigned.specs.Words.{digit, digit_of}
use Rattle.assigned.proofs.first_digit.Goals as goal

pub returns-then-ws-j-eq1 : goal.returns-then-ws-j-eq1
unfolding digit digit_of least_or
returns-then-ws-j-eq1 c =
    sym (ap (λ x. least_or x 4096) (least_is _ 4096 c.loop-j.j (omega arith) (eq-eqb _ _ c.if-ws-j-eq1.true) c.loop-j.invariant))

pub loop-j-preserved : goal.loop-j-preserved
unfolding digit digit_of
loop-j-preserved c = below_more _ _ c.loop-j.invariant (ne_eqb _ _ c.if-ws-j-eq1.false)

pub returns : goal.returns
unfolding least_or
returns c =
    sym (ap (λ x. least_or x 4096) (least_none _ 4096 (λ i l. c.loop-j.invariant i (omega arith))))
