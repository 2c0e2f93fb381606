use Rattle.std.proofs.Common.{sym, ◌∙◌, ap, not, arith}
use borrow.Author.Tests.{not-true}
use Rattle.branch.proofs.Ascending.{part_length}
use Rattle.sets.proofs.SetLaws.{list_fits_lem, list_fails}
use Rattle.sets.proofs.list_fits.Goals as goal

pub returns-then-not-member_fits : goal.returns-then-not-member_fits
returns-then-not-member_fits c =
    let a = c.args in
    let e = part_length a.members.now a.start a.len c.requires.1 in
    sym (list_fails a.facts.now a.n _ c.loop-i.i (omega (arith, e)) (sym c.member_fits.ensures ∙ not-true c.member_fits.result (ap not c.if-not-member_fits.true)))

pub returns : goal.returns
returns c =
    let a = c.args in
    let e = part_length a.members.now a.start a.len c.requires.1 in
    sym (list_fits_lem a.facts.now a.n _ (λ i q. c.loop-i.invariant i (omega (arith, e))))
