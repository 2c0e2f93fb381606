use Rattle.std.proofs.Common.{◌≡◌, ℕ, zero, suc, ◌+◌, Bool, cond, rules, refl, ap, ◌∙◌, arith}
use borrow.Author.Tests.{tests}
use mathlib.Core.Logic.{⊎_elim}
use native.Mathlib.Numerals.{add-one}
use Rattle.std.specs.List.{range_with_len, count_by}
use Rattle.std.proofs.lemmas.Iterator.{YieldsList-from_range}
use Rattle.std.proofs.lemmas.Iterator.Consumers.{YieldsList-at, YieldsList-from_filter, count_from_yields_List}
use Rattle.std.proofs.lemmas.List.{map-id}
use Rattle.std.proofs.lemmas.List.FromFn.{sum_by-map-range_with_len_more}
use Rattle.std.proofs.lemmas.List.Sums.{length-filter}
use Rattle.stab.specs.Basic.{count}
use Rattle.stab.specs.Check.{is_link}
use Rattle.stab.specs.Rule.{of_rule}
use Rattle.stab.proofs.Bools.{decide}
use Rattle.stab.proofs.Scans.{count_true, count_false}
use Rattle.branch.proofs.links.links.Goals as goal

-- the numbers below n are counted from 0 on, or from n - 1 down
counted_more : (p : ℕ → Bool) (n : ℕ) → count_by p (range_with_len 0 n) ≡ count p n → count_by p (range_with_len 0 (n + 1)) ≡ count p (n + 1)
counted_more p n h =
    let e = simp map-id at (sum_by-map-range_with_len_more (λ j. cond (p j) 1 0) (λ x. x) 0 n n (omega arith)) in
    let one : Bool → ℕ = λ b. cond b 1 0 in
    ⊎_elim
    (λ t. omega (arith, e, h, ap one t, count_true p n t))
    (λ f. omega (arith, e, h, ap one f, count_false p n f))
    (decide (p n))

counted : (p : ℕ → Bool) (n : ℕ) → count_by p (range_with_len 0 n) ≡ count p n
unfolding count
counted p zero = refl
counted p (suc n) = rw add-one at (counted_more p n (counted p n))

pub returns : goal.returns
unfolding is_link of_rule
returns c =
    let p = is_link c.args.nodes.now in
    let k = c.args.k in
    let source = YieldsList-from_range 0 k k refl (omega arith) in
    count_from_yields_List c.filter.result _ c.count.ensures.ran
    (YieldsList-from_filter _ p (YieldsList-at c.filter.ensures.source source) c.filter.ensures.closure (λ x r q h. search (rules, tests)))
    ∙ length-filter p _
    ∙ counted p k
