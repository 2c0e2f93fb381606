use Rattle.std.proofs.Common.{◌≡◌, ℕ, ◌+◌, ◌-◌, ◌*◌, ◌<◌, Bool, eqb, List, length, get_or, take, ℤ, pos, refl, sym, ◌∙◌, ap, ap₂, arith}
use Rattle.stab.specs.Basic.{nat, all_of}
use Rattle.stab.specs.Formula.{row_at, tree, offset}
use Rattle.stab.specs.Meaning.{Assignment, over, value}
use Rattle.stab.proofs.Trees.{below_nat}
use Rattle.pairs.specs.Index.{unbiased}
use Rattle.pairs.specs.Reading.{op_of}
use Rattle.pairs.proofs.Parts.{within_under, within_nat}
use Rattle.value.proofs.Values.{value_constant, junction_left, junction_right, value_junction, iteration_body, iteration_start, iteration_end, value_iteration, over_none, over_parts, first_is, range_reached}
use Rattle.assigned.specs.Words.{words, combined_words}
use Rattle.assigned.specs.Assignments.{keyed, values_from}
use Rattle.assigned.proofs.Blocks.{words_length, words_same, combined_words_lem, settled_words}
use Rattle.assigned.proofs.Ranges.{over_next, looked_few, looked_enough, evaluable_below, known_below}
use Rattle.assigned.proofs.+values.Goals as goal

-- ---- the values of a row

pub formula_values-returns-then-kind-lt2 : goal.formula_values-returns-then-kind-lt2
unfolding row_at values_from
formula_values-returns-then-kind-lt2 t c =
    let formed = c.requires.0.formed c.args.f (omega arith) in
    c.fill.ensures ∙ words_same _ _ 64 (λ j. sym (value_constant _ _ formed _ c.natural_at-kind.ensures.0 c.if-kind-lt2.true _ _ _))

pub formula_values-literal_values-requires : goal.formula_values-literal_values-requires
unfolding row_at
formula_values-literal_values-requires t c =
    let kind = c.natural_at-kind.ensures.0 in
    (c.requires.0, c.requires.2, record { low = omega (arith, kind, c.if-kind-lt2.false); high = omega (arith, kind, c.if-kind-lt4.true) }, c.requires.3)

pub formula_values-range_values-requires : goal.formula_values-range_values-requires
unfolding row_at
formula_values-range_values-requires t c =
    (omega (arith, c.decreases), (c.requires.0, c.requires.1, omega (arith, c.natural_at-kind.ensures.0, c.if-kind-ge6.true)))

pub formula_values-returns-then-kind-ge6 : goal.formula_values-returns-then-kind-ge6
unfolding row_at values_from
formula_values-returns-then-kind-ge6 t c =
    let formed = c.requires.0.formed c.args.f (omega arith) in
    let kind = c.natural_at-kind.ensures.0 in
    let long = c.if-kind-ge6.true in
    c.range_values.ensures
    ∙ words_same _ _ 64 (λ j. value_iteration _ _ formed _ kind long _ _ _ ∙ sym (value_iteration _ _ formed _ kind long _ _ _))

pub formula_values-formula_values-requires : goal.formula_values-formula_values-requires
unfolding row_at
formula_values-formula_values-requires t c =
    let formed = c.requires.0.formed c.args.f (omega arith) in
    let below = below_nat _ _ (junction_left _ _ formed _ c.natural_at-kind.ensures.0 c.if-kind-lt4.false c.if-kind-ge6.false) in
    let less : c.natural_at-a.result < c.args.f = omega (arith, below, c.natural_at-a.ensures.0) in
    (omega (arith, less, c.decreases), (evaluable_below _ _ _ _ _ _ _ c.requires.0 less, known_below _ _ _ _ c.requires.1 less, c.requires.2, c.requires.3))

pub formula_values-returns-then-settled : goal.formula_values-returns-then-settled
unfolding row_at values_from
formula_values-returns-then-settled t c =
    let a = c.args in
    let formed = c.requires.0.formed a.f (omega arith) in
    let rows = row_at a.schema.now in
    let at : ℕ → ℕ → Bool = λ g j. value (keyed (take a.count a.keys.now) (a.m + j)) a.n (tree rows g) (unbiased a.i) in
    let left = c.formula_values.ensures ∙ ap (λ (g : ℕ). words (at g) 64) c.natural_at-a.ensures.0 in
    left
    ∙ settled_words (eqb c.natural_at-kind.result 5) (at (nat (rows a.f).a)) (at (nat (rows a.f).b)) 64 (ap (all_of _) (sym left) ∙ sym c.settled.ensures ∙ c.if-settled.true)
    ∙ words_same _ _ 64 (λ j. sym (value_junction _ _ formed _ c.natural_at-kind.ensures.0 c.if-kind-lt4.false c.if-kind-ge6.false _ _ _))

pub formula_values-formula_values-requires-2 : goal.formula_values-formula_values-requires-2
unfolding row_at
formula_values-formula_values-requires-2 t c =
    let formed = c.requires.0.formed c.args.f (omega arith) in
    let below = below_nat _ _ (junction_right _ _ formed _ c.natural_at-kind.ensures.0 c.if-kind-lt4.false c.if-kind-ge6.false) in
    let less : c.natural_at-b.result < c.args.f = omega (arith, below, c.natural_at-b.ensures.0) in
    (omega (arith, less, c.decreases), (evaluable_below _ _ _ _ _ _ _ c.requires.0 less, known_below _ _ _ _ c.requires.1 less, c.requires.2, refl))

pub formula_values-returns : goal.formula_values-returns
unfolding row_at values_from
formula_values-returns t c =
    let a = c.args in
    let formed = c.requires.0.formed a.f (omega arith) in
    let rows = row_at a.schema.now in
    let at : ℕ → ℕ → Bool = λ g j. value (keyed (take a.count a.keys.now) (a.m + j)) a.n (tree rows g) (unbiased a.i) in
    let any = eqb c.natural_at-kind.result 5 in
    let left = c.formula_values.ensures ∙ ap (λ (g : ℕ). words (at g) 64) c.natural_at-a.ensures.0 in
    let right = c.formula_values-2.ensures ∙ ap (λ (g : ℕ). words (at g) 64) c.natural_at-b.ensures.0 in
    c.combine.ensures
    ∙ ap₂ (combined_words any) left right
    ∙ combined_words_lem any (at (nat (rows a.f).a)) (at (nat (rows a.f).b)) 64
    ∙ words_same _ _ 64 (λ j. sym (value_junction _ _ formed _ c.natural_at-kind.ensures.0 c.if-kind-lt4.false c.if-kind-ge6.false _ _ _))

-- ---- the values of an iteration

pub range_values-moved-first-requires : goal.range_values-moved-first-requires
unfolding row_at offset
range_values-moved-first-requires t c =
    let formed = c.requires.0.formed c.args.f (omega arith) in
    let b = iteration_start _ _ formed _ refl c.requires.2 in
    record { start = omega arith; up = omega (arith, within_nat 9999 9999 _ b); down = omega (arith, within_under 9999 9999 _ b) }

pub range_values-range_size-requires : goal.range_values-range_size-requires
unfolding row_at
range_values-range_size-requires t c =
    let formed = c.requires.0.formed c.args.f (omega arith) in
    (c.requires.0.row, c.requires.0.width, record { start = iteration_start _ _ formed _ refl c.requires.2; end = iteration_end _ _ formed _ refl c.requires.2 })

pub range_values-looked_at-left-requires : goal.range_values-looked_at-left-requires
unfolding row_at
range_values-looked_at-left-requires t c =
    let formed = c.requires.0.formed c.args.f (omega arith) in
    omega (arith, below_nat _ _ (iteration_body _ _ formed _ refl c.requires.2), c.natural_at-body.ensures.0, c.requires.0.row)

pub range_values-loop-k-init : goal.range_values-loop-k-init
range_values-loop-k-init t c =
    record { long = refl; so_far = c.fill.ensures ∙ words_same _ _ 64 (λ j. sym (over_none _ _ _)) }

pub range_values-overflow_add-first : goal.range_values-overflow_add-first
unfolding row_at
range_values-overflow_add-first t c =
    let formed = c.requires.0.formed c.args.f (omega arith) in
    let whole = range_reached _ _ c.moved-first.ensures _ _ c.requires.0.width (iteration_start _ _ formed _ refl c.requires.2) (iteration_end _ _ formed _ refl c.requires.2) in
    omega (arith, whole, c.looked_at-left.ensures, looked_few (get_or c.args.facts.now (4 * c.natural_at-body.result + 2) 0) c.range_size.result, c.range_size.ensures, c.loop-k-test.true)

pub range_values-formula_values-requires : goal.range_values-formula_values-requires
unfolding row_at
range_values-formula_values-requires t c =
    let formed = c.requires.0.formed c.args.f (omega arith) in
    let whole = range_reached _ _ c.moved-first.ensures _ _ c.requires.0.width (iteration_start _ _ formed _ refl c.requires.2) (iteration_end _ _ formed _ refl c.requires.2) in
    let less : c.natural_at-body.result < c.args.f = omega (arith, below_nat _ _ (iteration_body _ _ formed _ refl c.requires.2), c.natural_at-body.ensures.0) in (
      omega (arith, less, c.decreases),
      (
        evaluable_below _ _ _ _ _ _ _ c.requires.0 less,
        known_below _ _ _ _ c.requires.1 less,
        omega (arith, whole, c.looked_at-left.ensures, looked_few (get_or c.args.facts.now (4 * c.natural_at-body.result + 2) 0) c.range_size.result, c.range_size.ensures, c.loop-k-test.true),
        c.loop-k.invariant.long,
      ),
    )

pub range_values-combine-requires : goal.range_values-combine-requires
unfolding values_from
range_values-combine-requires t c =
    (ap length c.loop-k.invariant.so_far ∙ words_length _ 64, ap length c.formula_values.ensures ∙ words_length _ 64)

-- the values of the body at the next i, combined with those before
next_is : (any : Bool) (body_at : ℕ → ℤ → Bool) (first k : ℕ) (out before next : List ℕ) → out ≡ combined_words any before next → before ≡ words (λ j. over (op_of any) (body_at j) (unbiased first) k) 64 → next ≡ words (λ j. body_at j (unbiased (first + k))) 64 → out ≡ words (λ j. over (op_of any) (body_at j) (unbiased first) (k + 1)) 64
next_is any body_at first k out before next d e h =
    d
    ∙ ap₂ (combined_words any) e h
    ∙ combined_words_lem any (λ j. over (op_of any) (body_at j) (unbiased first) k) (λ j. body_at j (unbiased (first + k))) 64
    ∙ words_same _ _ 64 (λ j. sym (over_next (op_of any) (body_at j) first k))

pub range_values-returns-then-settled : goal.range_values-returns-then-settled
unfolding row_at values_from
range_values-returns-then-settled t c =
    let a = c.args in
    let rows = row_at a.schema.now in
    let formed = c.requires.0.formed a.f (omega arith) in
    let kind = c.natural_at-any.ensures.0 in
    let any = eqb c.natural_at-any.result 7 in
    let left = c.looked_at-left.result in
    let size = c.range_size.result in
    let body = c.natural_at-body.result in
    let first = c.moved-first.result in
    let less : body < a.f = omega (arith, below_nat _ _ (iteration_body _ _ formed _ refl c.requires.2), c.natural_at-body.ensures.0) in
    let by : ℕ → Assignment = λ j. keyed (take a.count a.keys.now) (a.m + j) in
    let body_at : ℕ → ℤ → Bool = λ j. value (by j) a.n (tree rows body) in
    let iteration_is : (j : ℕ) → over (op_of any) (body_at j) (unbiased first) left ≡ value (by j) a.n (tree rows a.f) (pos 0) =
    λ j.
    ap (over (op_of any) (body_at j) (unbiased first)) c.looked_at-left.ensures
    ∙ looked_enough (op_of any) (by j) a.n (unbiased first) size rows a.facts.now body (c.requires.1 body (omega (arith, less)))
    ∙ ap (λ (g : ℕ). over (op_of any) (value (by j) a.n (tree rows g)) (unbiased first) size) c.natural_at-body.ensures.0
    ∙ ap₂ (over (op_of any) (value (by j) a.n (tree rows (nat (rows a.f).a)))) (first_is _ _ c.moved-first.ensures) c.range_size.ensures
    ∙ sym (value_iteration _ _ formed _ kind (omega (arith, kind, c.requires.2)) _ _ _)
    in
    let k = c.loop-k.k in
    let combined = next_is any body_at first k _ _ _ c.combine.ensures c.loop-k.invariant.so_far c.formula_values.ensures in
    combined
    ∙ settled_words any (λ j. over (op_of any) (body_at j) (unbiased first) (k + 1)) (λ j. over (op_of any) (body_at j) (unbiased (first + (k + 1))) (left - (k + 1))) 64
    (ap (all_of _) (sym combined) ∙ sym c.settled.ensures ∙ c.if-settled.true)
    ∙ words_same _ _ 64 (λ j. sym (over_parts (op_of any) (body_at j) first (k + 1) left (omega (arith, c.loop-k-test.true))) ∙ iteration_is j)

pub range_values-loop-k-preserved : goal.range_values-loop-k-preserved
unfolding values_from
range_values-loop-k-preserved t c =
    let a = c.args in
    record {
      long = c.formula_values.array_long;
      so_far = next_is (eqb c.natural_at-any.result 7) (λ j. value (keyed (take a.count a.keys.now) (a.m + j)) a.n (tree (row_at a.schema.now) c.natural_at-body.result)) c.moved-first.result c.loop-k.k _ _ _ c.combine.ensures c.loop-k.invariant.so_far c.formula_values.ensures;
    }

pub range_values-returns : goal.range_values-returns
unfolding row_at values_from
range_values-returns t c =
    let a = c.args in
    let rows = row_at a.schema.now in
    let formed = c.requires.0.formed a.f (omega arith) in
    let kind = c.natural_at-any.ensures.0 in
    let any = eqb c.natural_at-any.result 7 in
    let left = c.looked_at-left.result in
    let size = c.range_size.result in
    let body = c.natural_at-body.result in
    let first = c.moved-first.result in
    let less : body < a.f = omega (arith, below_nat _ _ (iteration_body _ _ formed _ refl c.requires.2), c.natural_at-body.ensures.0) in
    let by : ℕ → Assignment = λ j. keyed (take a.count a.keys.now) (a.m + j) in
    let body_at : ℕ → ℤ → Bool = λ j. value (by j) a.n (tree rows body) in
    let iteration_is : (j : ℕ) → over (op_of any) (body_at j) (unbiased first) left ≡ value (by j) a.n (tree rows a.f) (pos 0) =
    λ j.
    ap (over (op_of any) (body_at j) (unbiased first)) c.looked_at-left.ensures
    ∙ looked_enough (op_of any) (by j) a.n (unbiased first) size rows a.facts.now body (c.requires.1 body (omega (arith, less)))
    ∙ ap (λ (g : ℕ). over (op_of any) (value (by j) a.n (tree rows g)) (unbiased first) size) c.natural_at-body.ensures.0
    ∙ ap₂ (over (op_of any) (value (by j) a.n (tree rows (nat (rows a.f).a)))) (first_is _ _ c.moved-first.ensures) c.range_size.ensures
    ∙ sym (value_iteration _ _ formed _ kind (omega (arith, kind, c.requires.2)) _ _ _)
    in
    let all : c.loop-k.k ≡ left = omega arith in
    c.loop-k.invariant.so_far ∙ words_same _ _ 64 (λ j. ap (over (op_of any) (body_at j) (unbiased first)) all ∙ iteration_is j)
