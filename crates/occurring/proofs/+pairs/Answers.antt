use Rattle.std.proofs.Common.{◌≡◌, ◌<◌, ℕ, length, take, pos, ◌-ℤ◌, refl, sym, ◌∙◌, ap, ap₂, subst, arith}
use lib.Seq.{length-take-le}
use Rattle.stab.specs.Basic.{nat}
use Rattle.stab.specs.Formula.{row_at, tree, loose, offset}
use Rattle.stab.specs.Meaning.{range_size}
use Rattle.stab.specs.Occurs.{gathered, inserted}
use Rattle.stab.proofs.Trees.{below_nat}
use Rattle.formula.specs.Facts.{bit}
use Rattle.formula.proofs.RowLaws.{bit_zero, bit_one}
use Rattle.pairs.specs.Index.{unbiased}
use Rattle.pairs.proofs.Parts.{within_under, within_nat}
use Rattle.value.proofs.Values.{junction_left, junction_right, iteration_body, iteration_start, iteration_end, first_is, range_reached}
use Rattle.occurring.specs.Held.{insert_key, Held}
use Rattle.occurring.proofs.Insertion.{insert_length}
use Rattle.occurring.proofs.Rows.{row_constant, row_literal, row_junction, row_iteration, body_fixed, none_gathered, gathered_more, gathered_same}
use Rattle.occurring.proofs.Holds.{held_over, held_insert, held_many, walk_below}
use Rattle.occurring.proofs.+pairs.Goals as goal

-- ---- an iteration

pub range_pairs-returns-then-kept_at-eq0 : goal.range_pairs-returns-then-kept_at-eq0
unfolding row_at
range_pairs-returns-then-kept_at-eq0 t c =
    let a = c.args in
    let w = c.requires.0 in
    let rows = row_at a.schema.now in
    let formed = w.passed.formed a.f (omega arith) in
    let body = c.natural_at-body.ensures.0 in
    let below : c.natural_at-body.result < a.f = omega (arith, below_nat _ _ (iteration_body _ _ formed _ refl c.requires.1), body) in
    let loose_is = c.kept_at.ensures.0 ∙ (w.passed.known c.natural_at-body.result (omega (arith, below))).loose ∙ ap (λ (g : ℕ). bit (loose (tree rows g))) body in (
      w.held,
      λ i ws h. subst (Held a.keys.now a.count)
          (sym
          (row_iteration rows a.f formed _ refl _ i ws c.requires.1
          ∙ none_gathered _ (tree rows (nat (rows a.f).a)) _ _ ws
          (bit_zero _ (sym loose_is ∙ c.if-kept_at-eq0.true))
          (body_fixed rows a.f formed _ refl c.requires.1)))
          h,
    )

pub range_pairs-range_size-left-requires : goal.range_pairs-range_size-left-requires
unfolding row_at
range_pairs-range_size-left-requires t c =
    let w = c.requires.0 in
    let formed = w.passed.formed c.args.f (omega arith) in
    (w.row, w.width, record { start = iteration_start _ _ formed _ refl c.requires.1; end = iteration_end _ _ formed _ refl c.requires.1 })

pub range_pairs-returns-then-left-gt16 : goal.range_pairs-returns-then-left-gt16
unfolding row_at
range_pairs-returns-then-left-gt16 t c =
    let a = c.args in
    let w = c.requires.0 in
    let rows = row_at a.schema.now in
    let formed = w.passed.formed a.f (omega arith) in
    let body = c.natural_at-body.ensures.0 in
    let below : c.natural_at-body.result < a.f = omega (arith, below_nat _ _ (iteration_body _ _ formed _ refl c.requires.1), body) in
    let loose_is = c.kept_at.ensures.0 ∙ (w.passed.known c.natural_at-body.result (omega (arith, below))).loose ∙ ap (λ (g : ℕ). bit (loose (tree rows g))) body in (
      omega arith,
      λ i ws h. held_many a.keys.now _ a.count rows a.f formed _ refl _ i ws h c.requires.1
          (bit_one _ (λ e. c.if-kept_at-eq0.false (loose_is ∙ e)))
          (omega (arith, c.range_size-left.ensures, c.if-left-gt16.true)),
    )

pub range_pairs-moved-first-requires : goal.range_pairs-moved-first-requires
unfolding row_at offset
range_pairs-moved-first-requires t c =
    let formed = c.requires.0.passed.formed c.args.f (omega arith) in
    let b = iteration_start _ _ formed _ refl c.requires.1 in
    record { start = omega arith; up = omega (arith, within_nat 9999 9999 _ b); down = omega (arith, within_under 9999 9999 _ b) }

pub range_pairs-loop-k-init : goal.range_pairs-loop-k-init
unfolding gathered
range_pairs-loop-k-init t c = record { at_most = c.requires.0.held; so_far = λ ws h. h }

pub range_pairs-overflow_add-first : goal.range_pairs-overflow_add-first
unfolding row_at
range_pairs-overflow_add-first t c =
    let formed = c.requires.0.passed.formed c.args.f (omega arith) in
    let reached =
    range_reached _ _ c.moved-first.ensures _ _ c.requires.0.width (iteration_start _ _ formed _ refl c.requires.1) (iteration_end _ _ formed _ refl c.requires.1)
    in
    omega (arith, reached, c.range_size-left.ensures, c.loop-k-test.true)

pub range_pairs-row_pairs-held-requires : goal.range_pairs-row_pairs-held-requires
unfolding row_at
range_pairs-row_pairs-held-requires t c =
    let formed = c.requires.0.passed.formed c.args.f (omega arith) in
    let below : c.natural_at-body.result < c.args.f = omega (arith, below_nat _ _ (iteration_body _ _ formed _ refl c.requires.1), c.natural_at-body.ensures.0) in
    let reached =
    range_reached _ _ c.moved-first.ensures _ _ c.requires.0.width (iteration_start _ _ formed _ refl c.requires.1) (iteration_end _ _ formed _ refl c.requires.1)
    in
    let l = c.loop-k in (
      omega (arith, below, c.decreases),
      (
        walk_below _ _ _ _ _ _ _ _ _ c.requires.0 below l.auto.keys l.invariant.at_most,
        omega (arith, reached, c.range_size-left.ensures, c.loop-k-test.true),
      ),
    )

pub range_pairs-loop-k-preserved : goal.range_pairs-loop-k-preserved
range_pairs-loop-k-preserved t c =
    let l = c.loop-k in
    let called = c.row_pairs-held in
    record {
      at_most = called.ensures.0;
      so_far = λ ws h. subst (Held called.new.keys called.result)
          (gathered_more c.args.n (tree (row_at c.args.schema.now) c.natural_at-body.result) c.moved-first.result l.k ws)
          (called.ensures.1 _ (l.invariant.so_far ws h));
    }

pub range_pairs-returns : goal.range_pairs-returns
unfolding row_at
range_pairs-returns t c =
    let a = c.args in
    let rows = row_at a.schema.now in
    let formed = c.requires.0.passed.formed a.f (omega arith) in
    let l = c.loop-k in
    let left : l.k ≡ range_size (rows a.f).b (pos a.n -ℤ (rows a.f).c) = omega (arith, c.range_size-left.ensures) in (
      l.invariant.at_most,
      λ i ws h. subst (Held l.keys l.held)
          (gathered_same a.n rows c.natural_at-body.ensures.0 (first_is _ _ c.moved-first.ensures) left ws
          ∙ sym (row_iteration rows a.f formed _ refl _ i ws c.requires.1))
          (l.invariant.so_far ws h),
    )

-- ---- a row

pub row_pairs-returns-then-kind-lt2 : goal.row_pairs-returns-then-kind-lt2
unfolding row_at
row_pairs-returns-then-kind-lt2 t c =
    let a = c.args in
    let w = c.requires.0 in
    (w.held, λ ws h. subst (Held a.keys.now a.count) (sym (row_constant (row_at a.schema.now) a.f (w.passed.formed a.f (omega arith)) _ c.natural_at-kind.ensures.0 _ _ ws c.if-kind-lt2.true)) h)

pub row_pairs-returns-then-count-gt16 : goal.row_pairs-returns-then-count-gt16
row_pairs-returns-then-count-gt16 t c =
    (c.requires.0.held, λ ws h. held_over c.args.keys.now c.args.count _ _ _ ws h c.if-count-gt16.true)

pub row_pairs-literal_key-requires : goal.row_pairs-literal_key-requires
unfolding row_at
row_pairs-literal_key-requires t c =
    let kind = c.natural_at-kind.ensures.0 in
    let w = c.requires.0 in
    (w.row, w.passed.formed, w.width, c.requires.1, record { low = omega (arith, kind, c.if-kind-lt2.false); high = omega (arith, kind, c.if-kind-lt4.true) })

pub row_pairs-returns-then-kind-lt4 : goal.row_pairs-returns-then-kind-lt4
unfolding row_at
row_pairs-returns-then-kind-lt4 t c =
    let a = c.args in
    let w = c.requires.0 in
    let key = c.literal_key.ensures in
    let put = c.insert.ensures in
    let old = take a.count a.keys.now in (
      omega (arith, put.0, insert_length c.literal_key.result old, length-take-le a.count a.keys.now (omega (arith, w))),
      λ ws h. subst (Held c.insert.new.keys c.insert.result) (sym (row_literal (row_at a.schema.now) a.f (w.passed.formed a.f (omega arith)) _ c.natural_at-kind.ensures.0 _ _ ws (omega arith) (omega arith)))
          (held_insert a.keys.now _ a.count _ _ ws key.1 (omega arith) h
          (put.0 ∙ ap (λ (k : ℕ). length (insert_key k old)) key.0)
          (put.1 ∙ ap (λ (k : ℕ). insert_key k old) key.0)),
    )

pub row_pairs-range_pairs-requires : goal.row_pairs-range_pairs-requires
unfolding row_at
row_pairs-range_pairs-requires t c =
    (omega (arith, c.decreases), (c.requires.0, omega (arith, c.natural_at-kind.ensures.0, c.if-kind-ge6.true)))

pub row_pairs-row_pairs-held-requires : goal.row_pairs-row_pairs-held-requires
unfolding row_at
row_pairs-row_pairs-held-requires t c =
    let w = c.requires.0 in
    let formed = w.passed.formed c.args.f (omega arith) in
    let left : c.natural_at-a.result < c.args.f = omega (arith, below_nat _ _ (junction_left _ _ formed _ c.natural_at-kind.ensures.0 c.if-kind-lt4.false c.if-kind-ge6.false), c.natural_at-a.ensures.0) in
    (omega (arith, left, c.decreases), (walk_below _ _ _ _ _ _ _ _ _ w left refl w.held, c.requires.1))

pub row_pairs-row_pairs-requires : goal.row_pairs-row_pairs-requires
unfolding row_at
row_pairs-row_pairs-requires t c =
    let w = c.requires.0 in
    let formed = w.passed.formed c.args.f (omega arith) in
    let right : c.natural_at-b.result < c.args.f = omega (arith, below_nat _ _ (junction_right _ _ formed _ c.natural_at-kind.ensures.0 c.if-kind-lt4.false c.if-kind-ge6.false), c.natural_at-b.ensures.0) in
    let left = c.row_pairs-held in
    (omega (arith, right, c.decreases), (walk_below _ _ _ _ _ _ _ _ _ w right left.auto.keys left.ensures.0, c.requires.1))

pub row_pairs-returns : goal.row_pairs-returns
unfolding row_at
row_pairs-returns t c =
    let a = c.args in
    let rows = row_at a.schema.now in
    let formed = c.requires.0.passed.formed a.f (omega arith) in
    let left = c.row_pairs-held in
    let right = c.row_pairs in (
      right.ensures.0,
      λ ws h. subst (Held right.new.keys right.result)
          (ap₂ (λ (f g : ℕ). inserted a.n (tree rows g) (unbiased a.i) (inserted a.n (tree rows f) (unbiased a.i) ws)) c.natural_at-a.ensures.0 c.natural_at-b.ensures.0
          ∙ sym (row_junction rows a.f formed _ c.natural_at-kind.ensures.0 _ _ ws c.if-kind-lt4.false c.if-kind-ge6.false))
          (right.ensures.1 _ (left.ensures.1 ws h)),
    )
