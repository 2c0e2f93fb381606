use Rattle.std.proofs.Common.{sym, ◌∙◌, ap, not, arith, Err, ℤ, to_z-of_z}
use borrow.Author.Tests.{not-true}
use Rattle.stab.proofs.Scans.{scan_passes, scan_fails}
use Rattle.branch.specs.Parents.{parent_right}
use Rattle.sets.specs.Faults.{parent_fault}
use Rattle.sets.proofs.parents.parents.Goals as goal

pub returns-then-not-parent_is_right : goal.returns-then-not-parent_is_right
unfolding parent_fault
returns-then-not-parent_is_right c =
    let a = c.args in
    let l = c.loop-j in
    let e = to_z-of_z c.ranges.root in
    ap Err c.at.ensures
    ∙ sym (scan_fails _ (parent_right a.nodes.now a.members.now a.root) _ l.j (omega arith)
    (λ i q. rw e at (l.invariant i q))
    (ap (λ (z : ℤ). parent_right a.nodes.now a.members.now z l.j) (sym e) ∙ sym c.parent_is_right.ensures ∙ not-true c.parent_is_right.result (ap not c.if-not-parent_is_right.true)))

pub returns : goal.returns
unfolding parent_fault
returns c =
    let a = c.args in
    let e = to_z-of_z c.ranges.root in
    sym (scan_passes _ (parent_right a.nodes.now a.members.now a.root) _ (λ i q. rw e at (c.loop-j.invariant i (omega arith))))
