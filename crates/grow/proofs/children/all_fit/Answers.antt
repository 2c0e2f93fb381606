use Rattle.std.proofs.Common.{◌≡◌, ℕ, ◌+◌, ◌*◌, ◌<◌, Bool, true, false, eqb, length, get_or, rules, refl, ap, ◌∙◌, subst, zero-add, arith}
use borrow.Author.Tests.{tests}
use Rattle.std.specs.Bool.{MatchBool}
use Rattle.std.specs.List.{AllWithin, HoldsAt, range_with_len}
use Rattle.std.proofs.lemmas.Iterator.{YieldsList-from_range, cases_from_all}
use Rattle.std.proofs.lemmas.List.FromFn.{length-range_with_len, get_or-range_with_len}
use Rattle.stab.specs.Node.{child_count, node, node_at}
use Rattle.stab.specs.Rule.{rule, rule_of, children_fit}
use Rattle.grow.specs.State.{nodes_only}
use Rattle.grow.proofs.Counted.{all_asked}
use Rattle.grow.proofs.children.all_fit.Goals as goal

-- the numbers below n are those of the range
below : (P Q : ℕ → Type 0) (n : ℕ) (r : Bool) → MatchBool r (AllWithin P (range_with_len 0 n) 0 (length (range_with_len 0 n))) ((i : ℕ) × (i < length (range_with_len 0 n)) × HoldsAt Q (range_with_len 0 n) i) → MatchBool r ((j : ℕ) → j < n → P j) ((j : ℕ) × (j < n) × Q j)
below P Q n true h = λ j l. subst P (get_or-range_with_len 0 n j 0 l ∙ zero-add j) (h j 0 (omega arith) (omega (arith, length-range_with_len 0 n)))
below P Q n false h =
    let l : h.0 < n = omega (arith, length-range_with_len 0 n, h.1) in
    (h.0, l, subst Q (get_or-range_with_len 0 n h.0 0 l ∙ zero-add h.0) (h.2 0))

pub returns : goal.returns
unfolding children_fit child_count rule node
returns c =
    let a = c.args in
    let children : ℕ → ℕ = λ j. (rule_of (node_at a.nodes.now j).rule).children in
    let fits : ℕ → Bool = λ j. eqb (get_or a.work.now (4 * j + 3) 0) (children j) in
    let all = cases_from_all _ _ c.all.result (λ j. fits j ≡ true) (λ j. fits j ≡ false) c.all.ensures.ran (YieldsList-from_range 0 a.k a.k refl (omega arith)) (λ x q h. search (rules, tests)) (λ x q h. search (rules, tests)) in
    all_asked (nodes_only a.nodes.now a.k) a.k fits (λ j l. ap (λ (n : ℕ). eqb n (children j)) (c.requires.by_index j l)) c.all.result (below _ _ a.k c.all.result all)
