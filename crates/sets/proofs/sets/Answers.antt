-- Past the test the set of a node is right, so it ends within the members, where the next one starts.
use Rattle.std.proofs.Common.{refl, sym, ◌∙◌, ap, not, arith, below_more, ◌+◌, ◌≡◌, true, ℕ, pos, Err}
use borrow.Author.Tests.{not-true, not-false}
use Rattle.stab.specs.Node.{set_start}
use Rattle.stab.proofs.Scans.{scan_passes, scan_fails}
use Rattle.branch.specs.Sets.{set_right, place_fits}
use Rattle.sets.specs.Faults.{set_fault}
use Rattle.sets.proofs.SetLaws.{right_place, place_within, place_next}
use Rattle.sets.proofs.sets.Goals as goal

pub loop-j-init : goal.loop-j-init
unfolding set_start
loop-j-init c = record { within = omega arith; start = refl; right = λ a q. absurd (omega arith) }

pub returns-then-not-set_is_right : goal.returns-then-not-set_is_right
unfolding set_fault
returns-then-not-set_is_right c =
    let l = c.loop-j in
    ap Err c.at.ensures
    ∙ sym (scan_fails _ _ _ l.j (omega arith) l.invariant.right (sym c.set_is_right.ensures ∙ not-true c.set_is_right.result (ap not c.if-not-set_is_right.true)))

pub loop-j-preserved : goal.loop-j-preserved
loop-j-preserved c =
    let a = c.args in
    let l = c.loop-j in
    let right : set_right a.facts.now a.n a.nodes.now a.k a.members.now a.m l.j ≡ true =
    sym c.set_is_right.ensures ∙ not-false c.set_is_right.result (ap not c.if-not-set_is_right.false) in
    let placed : place_fits a.nodes.now a.m l.j ≡ true = right_place a.facts.now a.n a.nodes.now a.k a.members.now a.m l.j right in
    record {
      within = omega (arith, c.natural_of-from.ensures.0, place_within a.nodes.now a.m l.j l.from l.invariant.start placed);
      start = place_next a.nodes.now a.m l.j l.from l.invariant.start placed ∙ ap (λ (n : ℕ). pos (l.from + n)) (sym c.natural_of-from.ensures.0);
      right = below_more _ _ l.invariant.right right;
    }

pub returns : goal.returns
unfolding set_fault
returns c = sym (scan_passes _ _ _ (λ i q. c.loop-j.invariant.right i (omega arith)))
