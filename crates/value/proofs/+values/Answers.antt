use Rattle.std.proofs.Common.{◌≡◌, ℕ, ◌+◌, ◌-◌, ◌/◌, ◌<◌, Bool, eqb, ℤ, sym, ◌∙◌, ap, ap₂, arith}
use borrow.Author.Tests.{eqb-true}
use Rattle.stab.specs.Basic.{nat}
use Rattle.stab.specs.Formula.{row_at, tree, offset}
use Rattle.stab.specs.Meaning.{op, over, value}
use Rattle.stab.specs.Model.{listed}
use Rattle.stab.proofs.Trees.{below_nat}
use Rattle.pairs.specs.Index.{unbiased}
use Rattle.pairs.specs.Reading.{op_of}
use Rattle.pairs.specs.Word.{word, word_at, combined_word, whole_word}
use Rattle.pairs.proofs.Parts.{within_under, within_nat}
use Rattle.pairs.proofs.Words.{word_same, combined_word_lem, settled_word, over_word}
use Rattle.value.proofs.Values.{value_constant, junction_left, junction_right, value_junction, iteration_body, iteration_start, iteration_end, value_iteration, op_decided, op_open, over_none, over_parts, first_is, range_reached, readable_below}
use Rattle.value.proofs.+values.Goals as goal

-- ---- the value of a row

pub formula_value-returns-then-kind-lt2 : goal.formula_value-returns-then-kind-lt2
unfolding row_at word_at
formula_value-returns-then-kind-lt2 t c =
    let a = c.args in
    let formed = c.requires.0.formed a.f (omega arith) in
    c.same.ensures
    ∙ word_same _ (λ j. value (listed a.pairs.now a.count) a.n (tree (row_at a.schema.now) a.f) (unbiased (a.i + j))) a.width
    (λ j l. sym (value_constant _ _ formed _ c.natural_at-kind.ensures.0 c.if-kind-lt2.true _ _ _))

pub formula_value-literal_value-requires : goal.formula_value-literal_value-requires
unfolding row_at
formula_value-literal_value-requires t c =
    (c.requires.0, c.requires.1, record { low = omega (arith, c.natural_at-kind.ensures.0); high = omega (arith, c.natural_at-kind.ensures.0) })

pub formula_value-moved-first-requires : goal.formula_value-moved-first-requires
unfolding row_at offset
formula_value-moved-first-requires t c =
    let formed = c.requires.0.formed c.args.f (omega arith) in
    let b = iteration_start _ _ formed _ c.natural_at-kind.ensures.0 c.if-kind-ge6.true in
    record { start = omega arith; up = omega (arith, within_nat 9999 9999 _ b); down = omega (arith, within_under 9999 9999 _ b) }

pub formula_value-range_size-left-requires : goal.formula_value-range_size-left-requires
unfolding row_at
formula_value-range_size-left-requires t c =
    let formed = c.requires.0.formed c.args.f (omega arith) in
    let kind = c.natural_at-kind.ensures.0 in
    (c.requires.0.row, c.requires.0.width, record { start = iteration_start _ _ formed _ kind c.if-kind-ge6.true; end = iteration_end _ _ formed _ kind c.if-kind-ge6.true })

pub formula_value-range_value-held-requires : goal.formula_value-range_value-held-requires
unfolding row_at
formula_value-range_value-held-requires t c =
    let a = c.args in
    let formed = c.requires.0.formed a.f (omega arith) in
    let kind = c.natural_at-kind.ensures.0 in
    let long = c.if-kind-ge6.true in
    let below = below_nat _ _ (iteration_body _ _ formed _ kind long) in
    let reached = range_reached _ _ c.moved-first.ensures _ _ c.requires.0.width (iteration_start _ _ formed _ kind long) (iteration_end _ _ formed _ kind long) in
    let body : c.natural_at-a.result < a.f = omega (arith, below, c.natural_at-a.ensures.0) in
    (omega (arith, body, reached, c.range_size-left.ensures, c.decreases), (readable_below _ _ _ _ _ _ c.requires.0 body, omega (arith, reached, c.range_size-left.ensures)))

pub formula_value-returns-then-kind-ge6 : goal.formula_value-returns-then-kind-ge6
unfolding row_at word_at
formula_value-returns-then-kind-ge6 t c =
    let a = c.args in
    let formed = c.requires.0.formed a.f (omega arith) in
    let kind = c.natural_at-kind.ensures.0 in
    let any = op_of (eqb c.natural_at-kind.result 7) in
    let at = value (listed a.pairs.now a.count) a.n in
    c.same-then-kind-ge6.ensures
    ∙ word_same _ (λ j. at (tree (row_at a.schema.now) a.f) (unbiased (a.i + j))) a.width
    (λ j l.
    c.range_value-held.ensures
    ∙ ap (λ (g : ℕ). over any (at (tree (row_at a.schema.now) g)) (unbiased c.moved-first.result) c.range_size-left.result) c.natural_at-a.ensures.0
    ∙ ap₂ (over any (at (tree (row_at a.schema.now) (nat (row_at a.schema.now a.f).a)))) (first_is _ _ c.moved-first.ensures) c.range_size-left.ensures
    ∙ sym (value_iteration _ _ formed _ kind c.if-kind-ge6.true _ _ _))

pub formula_value-formula_value-v-requires : goal.formula_value-formula_value-v-requires
unfolding row_at
formula_value-formula_value-v-requires t c =
    let formed = c.requires.0.formed c.args.f (omega arith) in
    let below = below_nat _ _ (junction_left _ _ formed _ c.natural_at-kind.ensures.0 c.if-kind-lt4.false c.if-kind-ge6.false) in
    let left : c.natural_at-a.result < c.args.f = omega (arith, below, c.natural_at-a.ensures.0) in
    (omega (arith, left, c.decreases), (readable_below _ _ _ _ _ _ c.requires.0 left, c.requires.1))

pub formula_value-returns-then-settled : goal.formula_value-returns-then-settled
unfolding row_at word_at
formula_value-returns-then-settled t c =
    let a = c.args in
    let formed = c.requires.0.formed a.f (omega arith) in
    let at : ℕ → ℕ → Bool = λ g j. value (listed a.pairs.now a.count) a.n (tree (row_at a.schema.now) g) (unbiased (a.i + j)) in
    let r = row_at a.schema.now a.f in
    let left = c.formula_value-v.ensures ∙ ap (λ (g : ℕ). word (at g) a.width) c.natural_at-a.ensures.0 in
    left
    ∙ settled_word _ (at (nat r.a)) (at (nat r.b)) a.width (sym left ∙ eqb-true _ _ (sym c.settled.ensures ∙ c.if-settled.true))
    ∙ word_same _ (at a.f) a.width
    (λ j l. sym (value_junction _ _ formed _ c.natural_at-kind.ensures.0 c.if-kind-lt4.false c.if-kind-ge6.false _ _ _))

pub formula_value-formula_value-requires : goal.formula_value-formula_value-requires
unfolding row_at
formula_value-formula_value-requires t c =
    let formed = c.requires.0.formed c.args.f (omega arith) in
    let below = below_nat _ _ (junction_right _ _ formed _ c.natural_at-kind.ensures.0 c.if-kind-lt4.false c.if-kind-ge6.false) in
    let right : c.natural_at-b.result < c.args.f = omega (arith, below, c.natural_at-b.ensures.0) in
    (omega (arith, right, c.decreases), (readable_below _ _ _ _ _ _ c.requires.0 right, c.requires.1))

pub formula_value-returns : goal.formula_value-returns
unfolding row_at word_at
formula_value-returns t c =
    let a = c.args in
    let formed = c.requires.0.formed a.f (omega arith) in
    let at : ℕ → ℕ → Bool = λ g j. value (listed a.pairs.now a.count) a.n (tree (row_at a.schema.now) g) (unbiased (a.i + j)) in
    let r = row_at a.schema.now a.f in
    let left = c.formula_value-v.ensures ∙ ap (λ (g : ℕ). word (at g) a.width) c.natural_at-a.ensures.0 in
    let right = c.formula_value.ensures ∙ ap (λ (g : ℕ). word (at g) a.width) c.natural_at-b.ensures.0 in
    c.combined.ensures
    ∙ ap₂ (combined_word _) left right
    ∙ combined_word_lem (at (nat r.a)) (at (nat r.b)) _ a.width
    ∙ word_same _ (at a.f) a.width
    (λ j l. sym (value_junction _ _ formed _ c.natural_at-kind.ensures.0 c.if-kind-lt4.false c.if-kind-ge6.false _ _ _))

-- ---- the value of a range

pub range_value-returns-then-left-eq0 : goal.range_value-returns-then-left-eq0
range_value-returns-then-left-eq0 t c =
    let a = c.args in
    let at = value (listed a.pairs.now a.count) a.n (tree (row_at a.schema.now) a.body) in
    sym (over_none a.any at (unbiased a.first)) ∙ ap (over (op_of a.any) at (unbiased a.first)) (sym c.if-left-eq0.true)

pub range_value-returns-then-left-le63 : goal.range_value-returns-then-left-le63
range_value-returns-then-left-le63 t c =
    let a = c.args in
    let at = value (listed a.pairs.now a.count) a.n (tree (row_at a.schema.now) a.body) in
    c.whole_word.ensures
    ∙ ap (λ (w : ℕ). whole_word a.any w a.left) c.formula_value-w.ensures
    ∙ sym (over_word a.any at a.first a.left)

-- the value of the range from both halves
halves_are : (any v : Bool) (at : ℤ → Bool) (first left : ℕ) → v ≡ over (op_of any) at (unbiased first) (left / 2) → op (op_of any) v (over (op_of any) at (unbiased (first + left / 2)) (left - left / 2)) ≡ over (op_of any) at (unbiased first) left
halves_are any v at first left e =
    ap (λ (w : Bool). op (op_of any) w (over (op_of any) at (unbiased (first + left / 2)) (left - left / 2))) e
    ∙ sym (over_parts (op_of any) at first (left / 2) left (omega arith))

pub range_value-returns-then-held-any : goal.range_value-returns-then-held-any
range_value-returns-then-held-any t c =
    let a = c.args in
    sym (op_decided _ _ _ c.if-held-any.true)
    ∙ halves_are a.any _ (value (listed a.pairs.now a.count) a.n (tree (row_at a.schema.now) a.body)) a.first a.left c.range_value-held.ensures

pub range_value-returns : goal.range_value-returns
range_value-returns t c =
    let a = c.args in
    c.range_value.ensures
    ∙ sym (op_open _ _ _ c.if-held-any.false)
    ∙ halves_are a.any _ (value (listed a.pairs.now a.count) a.n (tree (row_at a.schema.now) a.body)) a.first a.left c.range_value-held.ensures
