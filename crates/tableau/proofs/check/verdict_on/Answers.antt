use Rattle.std.proofs.Common.{sym, ◌∙◌, ap, []}
use Rattle.std.proofs.lemmas.Result.{err_from_is_err_and}
use Rattle.stab.specs.Lent.{lent}
use Rattle.stab.specs.Check.{link_count, verdict, verdict_on}
use Rattle.stab.specs.Finding.{accept, Finding}
use Rattle.tableau.proofs.check.verdict_on.Goals as goal

pub returns-in_err-found : goal.returns-in_err-found
unfolding verdict_on verdict
returns-in_err-found c =
    let a = c.args in
    let p = err_from_is_err_and c.from_residual.result c.from_residual.ensures.1 in
    rw (p.1, p.2) (ap (λ (f : Finding). verdict_on f (lent [] [] a.nodes.now [] a.h)) (sym c.in_err-found.was))

pub returns : goal.returns
unfolding verdict_on verdict link_count
returns c =
    let a = c.args in
    ap (accept a.h.node_rows) c.links.ensures
    ∙ ap (λ (f : Finding). verdict_on f (lent [] [] a.nodes.now [] a.h)) (sym c.in_ok-found.was)
