use Rattle.std.proofs.Common.{arith, rules, tests, ◌≡◌, ◌+◌, List, [], ◌∷◌, ℤ, length, length-append, refl}
use Rattle.std.proofs.lemmas.Iterator.{YieldsList-from_slice, YieldsList-from_map}
use Rattle.std.proofs.lemmas.Iterator.Consumers.{YieldsList-at, sum_by_from_yields_List, fits_by_from_yields_list}
use Rattle.std.proofs.lemmas.List.Sums.{sum_by-cons}
use Rattle.std.specs.List.{sum_by}
use Rattle.stab.specs.Text.{decimal, space}
use Rattle.digits.specs.Over.{spread}
use Rattle.output.proofs.Spreads.{spread_most}
use Rattle.writing.proofs.spread_width.Goals.{After-sum-numbers}
use Rattle.writing.proofs.spread_width.Goals as goal

-- a byte for each digit and sign, and one after each number
widths : (t : List ℤ) → sum_by (λ z. length (decimal z)) t + length t ≡ length (spread t)
unfolding spread
widths [] = refl
widths (z ∷ zs) = omega (arith, widths zs, sum_by-cons (λ x. length (decimal x)) z zs, length-append (decimal z) (space ∷ spread zs))

pub sum-numbers-requires-clause-fits : goal.sum-numbers-requires-clause-fits
sum-numbers-requires-clause-fits c =
    fits_by_from_yields_list (λ z. length (decimal z)) c.args.t.now c.map.result _
    (YieldsList-from_map _ (λ z. length (decimal z)) (YieldsList-at c.map.ensures.source (YieldsList-from_slice _ c.iter.ensures.rest)) c.map.ensures.closure (λ x r q k. search (rules, tests)))
    (omega (arith, widths c.args.t.now, spread_most c.args.t.now))

summed : (c : After-sum-numbers) → c.sum-numbers.result + length c.args.t.now ≡ length (spread c.args.t.now)
summed c =
    let e = sum_by_from_yields_List (λ z. length (decimal z)) c.args.t.now c.map.result c.sum-numbers.result c.sum-numbers.ensures.ran
    (YieldsList-from_map _ (λ z. length (decimal z)) (YieldsList-at c.map.ensures.source (YieldsList-from_slice _ c.iter.ensures.rest)) c.map.ensures.closure (λ x r q k. search (rules, tests))) in
    omega (arith, e, widths c.args.t.now)

pub overflow_add-result : goal.overflow_add-result
overflow_add-result c = omega (arith, summed c, spread_most c.args.t.now)

pub returns : goal.returns
returns c = summed c
