-- 11 to 16 are found first, and then 17.
use Rattle.std.proofs.Common.{sym, ◌∙◌, ap, not, Err, arith}
use Rattle.std.proofs.lemmas.Result.{err_from_is_err_and}
use Rattle.stab.specs.Node.{node, child_count}
use Rattle.stab.specs.Rule.{rule}
use Rattle.stab.specs.Lent.{lent}
use Rattle.stab.proofs.Bools.{asked_false, asked_true}
use Rattle.fields.proofs.FieldParts.{fields_known_lem}
use Rattle.steps.proofs.StepLaws.{fields_passed, step_found, children_found, node_passes, children_are}
use Rattle.steps.proofs.steps.judge.Goals as goal

pub returns-in_err-step-clause-value : goal.returns-in_err-step-clause-value
returns-in_err-step-clause-value c =
    let a = c.args in
    let p = err_from_is_err_and c.from_residual.result c.from_residual.ensures.1 in
    rw (p.1, p.2) (step_found (lent a.schema.now a.proof.now a.nodes.now a.members.now a.h) _ _ _ _ (sym c.in_err-step.ensures.value))

pub children_fit-requires : goal.children_fit-requires
unfolding node
children_fit-requires c =
    let a = c.args in
    let T = lent a.schema.now a.proof.now a.nodes.now a.members.now a.h in
    (omega (arith, c.requires.j_bound, c.requires.ready.node_limit), (fields_known_lem T _ (fields_passed T _ (sym c.in_ok-step.ensures.value))).rule)

pub returns-then-not-children_fit-clause-value : goal.returns-then-not-children_fit-clause-value
unfolding child_count rule node
returns-then-not-children_fit-clause-value c =
    let a = c.args in
    let T = lent a.schema.now a.proof.now a.nodes.now a.members.now a.h in
    let counted = c.children_fit.ensures ∙ children_are a.whole T a.j (c.requires.ready.worked _ c.requires.j_bound).children in
    ap Err c.at.ensures ∙ children_found T _ _ (sym c.in_ok-step.ensures.value) (asked_false counted (ap not c.if-not-children_fit.true))

pub returns-clause-value : goal.returns-clause-value
unfolding child_count rule node
returns-clause-value c =
    let a = c.args in
    let T = lent a.schema.now a.proof.now a.nodes.now a.members.now a.h in
    let counted = c.children_fit.ensures ∙ children_are a.whole T a.j (c.requires.ready.worked _ c.requires.j_bound).children in
    node_passes T _ _ (sym c.in_ok-step.ensures.value) (asked_true counted (ap not c.if-not-children_fit.false))
