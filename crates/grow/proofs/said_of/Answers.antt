-- 17 is said at the added row, any other number where it was found.
use Rattle.std.proofs.Common.{sym, ◌∙◌, eq-eqb}
use borrow.Author.Tests.{ne_eqb}
use Rattle.stab.proofs.Bools.{if_true, if_false}
use Rattle.grow.specs.Moved.{placed}
use Rattle.grow.proofs.said_of.Goals as goal

pub returns-then-number-eq17 : goal.returns-then-number-eq17
unfolding placed
returns-then-number-eq17 c =
    let said = sym (if_true _ _ _ (eq-eqb _ 17 (sym c.number.ensures ∙ c.if-number-eq17.true))) in
    c.at.ensures ∙ (λ i. record { why = c.args.refused.why; place = said i })

pub returns-else-number-eq17 : goal.returns-else-number-eq17
unfolding placed
returns-else-number-eq17 c =
    let said = sym (if_false _ _ _ (ne_eqb _ 17 (λ e. c.if-number-eq17.false (c.number.ensures ∙ e)))) in
    λ i. record { why = c.args.refused.why; place = said i }
