use Rattle.std.proofs.Common.{◌≡◌, ℕ, ◌+◌, ◌-◌, ◌<◌, ◌≤◌, List, true, get_or, take, drop, sym, ◌∙◌, ap, ap₂, subst, arith, below_more}
use mathlib.Core.Bool.{true≢false}
use lib.IntN.{ℤ, pos}
use Rattle.stab.specs.Basic.{nat}
use Rattle.stab.specs.Lent.{lent}
use Rattle.stab.specs.Node as N
use Rattle.stab.specs.Node.{node, node_at, set, set_of}
use Rattle.stab.specs.Rule.{drawn_from}
use Rattle.stab.specs.Search.{place_of}
use Rattle.stab.proofs.Searches.{place_within, place_grows}
use Rattle.branch.specs.Lent.{SetHeld, ChildKnown}
use Rattle.branch.proofs.Ascending.{ascending_at}
use Rattle.branch.proofs.HeldLaws.{set_length, set_at}
use Rattle.formula.proofs.KeptLaws.{first_at_lem}
use Rattle.sets.proofs.SetLaws.{all_at, at_all, fails}
use Rattle.drawn.proofs.DrawnLaws.{drawn_same}
use Rattle.drawn.proofs.Rests.{next_place}
use Rattle.drawn.proofs.is_drawn.Invariants.{placed}
use Rattle.drawn.proofs.is_drawn.Goals as goal

-- member i of the table is member k of the set of node j, a child of p
module _ {nodes members : List ℤ} {work : List ℕ} {j p start : ℕ} (known : ChildKnown nodes members work j) (up : p ≡ nat (node_at nodes j).up) (from : start ≡ nat (node_at nodes j).start) (i k : ℕ) (is : start + k ≡ i) (within : k < nat (node_at nodes j).size) where
  member : get_or members i (pos 0) ≡ get_or (set_of members (node_at nodes j)) k (pos 0)
  member =
      let e : i ≡ nat (node_at nodes j).start + k = omega arith in
      ap (λ (a : ℕ). get_or members a (pos 0)) e ∙ sym (set_at nodes members j known.own k within)

  place : place_of (get_or members i (pos 0)) (set_of members (node_at nodes p)) ≡ placed nodes members j k
  place = ap₂ (λ (z : ℤ) (q : ℕ). place_of z (set_of members (node_at nodes q))) member up

  -- the search from `at` on ends at its place in the parent's set
  found : (first at end : ℕ) → first ≡ nat (node_at nodes p).start → end ≡ first + nat (node_at nodes p).size → first ≤ at → at ≤ first + placed nodes members j k → at + place_of (get_or members i (pos 0)) (take (end - at) (drop at members)) ≡ nat (node_at nodes p).start + place_of (get_or members i (pos 0)) (set_of members (node_at nodes p))
  found first at end e d low high =
      next_place members (node_at nodes p) (get_or members i (pos 0)) at end (at - nat (node_at nodes p).start) (omega arith) (omega arith) (omega (arith, place))

  found_within : place_of (get_or members i (pos 0)) (set_of members (node_at nodes p)) ≤ nat (node_at nodes p).size
  found_within =
      let above : SetHeld nodes members p = subst (SetHeld nodes members) (sym up) known.above in
      omega (arith, place_within (get_or members i (pos 0)) (set_of members (node_at nodes p)), set_length nodes members p above)

  -- a later member's place is no earlier
  grows : (x : ℕ) → k < x → x < nat (node_at nodes j).size → placed nodes members j k ≤ placed nodes members j x
  grows x less h =
      place_grows _ _ (set_of members (node_at nodes (nat (node_at nodes j).up)))
      (ascending_at (set_of members (node_at nodes j)) known.own.up k x less (omega (arith, set_length nodes members j known.own)))

pub may_stand-requires-clause-at_value : goal.may_stand-requires-clause-at_value
may_stand-requires-clause-at_value c =
    let l = c.loop-i in
    let k = l.i - c.natural_of-start.result in
    let is : c.natural_of-start.result + k ≡ l.i = omega arith in
    let within : k < nat (node_at c.args.nodes.now c.args.j).size = omega (arith, c.natural_of-size.ensures.0) in
    let start = c.natural_of-at.ensures.0 in
    let size = c.natural_of.ensures.0 in (
      c.next-at.ensures
          ∙ found c.requires.child_known c.natural_of-p.ensures.0 c.natural_of-start.ensures.0 l.i k is within _ _ _ start (omega (arith, size)) l.invariant.from (l.invariant.next k is within),
      omega (arith, start, size),
    )

pub returns-then-not-may_stand : goal.returns-then-not-may_stand
unfolding set node
returns-then-not-may_stand c =
    let a = c.args in
    let known = c.requires.child_known in
    let up = c.natural_of-p.ensures.0 in
    let l = c.loop-i in
    let k = l.i - c.natural_of-start.result in
    let within : k < nat (node_at a.nodes.now a.j).size = omega (arith, c.natural_of-size.ensures.0) in
    let rank = c.kept_at-rank.ensures.0 ∙ first_at_lem a.work.now a.j ∙ known.rank in
    let asked = c.may_stand.ensures ∙ drawn_same (lent a.schema.now a.proof.now a.nodes.now a.members.now a.h) up rank (member known up c.natural_of-start.ensures.0 l.i k (omega arith) within) in
    sym (fails _ (λ h. true≢false (sym (at_all _ (pos 0) _ h k (omega (arith, set_length a.nodes.now a.members.now a.j known.own))) ∙ sym asked ∙ c.if-not-may_stand.true)))

pub loop-i-preserved : goal.loop-i-preserved
loop-i-preserved c =
    let a = c.args in
    let known = c.requires.child_known in
    let up = c.natural_of-p.ensures.0 in
    let from = c.natural_of-start.ensures.0 in
    let l = c.loop-i in
    let k = l.i - c.natural_of-start.result in
    let is : c.natural_of-start.result + k ≡ l.i = omega arith in
    let within : k < nat (node_at a.nodes.now a.j).size = omega (arith, c.natural_of-size.ensures.0) in
    let T = lent a.schema.now a.proof.now a.nodes.now a.members.now a.h in
    let rank = c.kept_at-rank.ensures.0 ∙ first_at_lem a.work.now a.j ∙ known.rank in
    let asked = c.may_stand.ensures ∙ drawn_same T up rank (member known up from l.i k is within) in
    let start = c.natural_of-at.ensures.0 in
    let size = c.natural_of.ensures.0 in
    let next = c.next-at.ensures ∙ found known up from l.i k is within _ _ _ start (omega (arith, size)) l.invariant.from (l.invariant.next k is within) in
    let high = found_within known up from l.i k is within in
    let at = place known up from l.i k is within in
    record {
      drawn = λ x h. below_more (λ y. drawn_from T (nat (node_at a.nodes.now a.j).up) (N.rank a.nodes.now a.j) (get_or (set_of a.members.now (node_at a.nodes.now a.j)) y (pos 0)) ≡ true) k (λ y q. l.invariant.drawn y (omega arith)) (sym asked ∙ c.if-not-may_stand.false) x (omega arith);
      from = omega (arith, next, start);
      to = omega (arith, next, start, size, high);
      next = λ x q h. omega (arith, next, start, at, grows known up from l.i k is within x (omega arith) h);
    }

pub returns : goal.returns
unfolding set node
returns c =
    let a = c.args in
    sym (all_at _ (pos 0) _ (λ i q. c.loop-i.invariant.drawn i (omega (arith, set_length a.nodes.now a.members.now a.j c.requires.child_known.own, c.natural_of-size.ensures.0))))
