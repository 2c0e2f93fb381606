use Prim.Native.Nat.{ℕ, suc, ◌+◌, ◌<◌}
use native.Mathlib.Omega.{arith}
use mathlib.Core.List.{List}
use mathlib.Core.Path.{◌≡◌, sym, ◌∙◌, ap, subst}
use lib.IntN.{pos}
use borrow.Author.Rules.{rules}
use Rattle.stab.specs.Formula.{Row, row_at}
use Rattle.stab.specs.Basic.{eq_z}
use Rattle.formula.specs.Column.{column}
use Rattle.wide.proofs.Places.{start_next}
use Rattle.wide.specs.Plain.{rows_given, start_of, image, columns}
use Rattle.wide.specs.WideFormula.{wide_kind_of}
use Rattle.convert.specs.Emission.{stands_of, swapped, written, Imaged, Given}
use Rattle.convert.proofs.ImageLaws.{kind_number, kind_known, image_two, image_six, image_not, not_given, imaged_more}
use Rattle.convert.proofs.GivenLaws.{Plains, image_known, image_plain, swapped_plain, negation_below, two_given, six_given}
use Rattle.convert.proofs.rows.step.Statement.{statement}
use Rattle.convert.proofs.rows.step.Tie as tie

abbrev start : tie.After-natural_at-k → tie.Start
start c = c.before.before

abbrev rows : tie.Start → ℕ → Row
rows s = row_at s.args.wide.now

-- the number of the row's kind
kind_is : (c : tie.After-natural_at-k) → (rows (start c) (start c).args.r).kind ≡ pos c.natural_at-k.result
unfolding row_at
kind_is c =
    let s = start c in
    kind_number (rows s) s.args.r (s.requires.0.formed s.args.r (omega arith)) ∙ ap pos (sym c.natural_at-k.ensures.0)

-- where the next row's plain rows start
next : (c : tie.After-natural_at-k) → start_of (rows (start c)) (suc (start c).args.r) ≡ (start c).args.s + rows_given (wide_kind_of (pos c.natural_at-k.result))
next c =
    let s = start c in
    start_next (rows s) s.args.r
    ∙ (λ i. sym s.requires.1 i + rows_given (wide_kind_of (kind_is c i)))

given : (c : tie.After-natural_at-k) → let a = (start c).args in Given a.wide.now a.r c.natural_at-k.result a.s a.plain.now
given c =
    let s = start c in
    record {
      few = omega (arith, s.requires.0.few);
      formed = s.requires.0.formed s.args.r (omega arith);
      kind = kind_is c;
      start = s.requires.1;
      limit = omega (arith, next c, s.requires.0.limit);
      room = s.requires.0.room;
    }

-- kind 8
eight : (c : tie.Then-k-eq8) → let s = start c.before in (rows s s.args.r).kind ≡ pos 8
eight c = kind_is c.before ∙ ap pos c.if-k-eq8.true

-- what stands for a not
turned : (c : tie.After-swapped-f) → let s = start c.before.before.before in (stands_of (image (rows s) s.args.r) ≡ c.swapped-f.result) × Plains c.swapped-f.result
unfolding column
turned c =
    let s = start c.before.before.before in
    let smaller = negation_below (rows s) s.args.r (s.requires.0.formed s.args.r (omega arith)) (eight c.before.before) in
    let e = c.swapped-f.ensures ∙ ap swapped c.image_of.ensures in (
      image_not (rows s) s.args.r s.requires.0.formed (eight c.before.before) ∙ ap swapped (sym (image_known s.requires.2 _ smaller)) ∙ sym e,
      subst Plains (sym e) (swapped_plain (image_plain s.requires.2 _ smaller)),
    )

-- two rows are given
two_next : (c : tie.Then-k-lt10) → let s = start c.before.before in s.args.s + 2 ≡ start_of (rows s) (suc s.args.r)
two_next c =
    omega (arith, next c.before.before, two_given c.natural_at-k.result c.if-k-eq8.false (λ e. omega (arith, c.if-k-lt10.true)) (λ e. omega (arith, c.if-k-lt10.true)))

-- six rows are given
kind_less : (c : tie.After-natural_at-k) → c.natural_at-k.result < 12
unfolding row_at
kind_less c =
    let s = start c in
    omega (arith, c.natural_at-k.ensures.0, kind_known (rows s) s.args.r (s.requires.0.formed s.args.r (omega arith)))

six_next : (c : tie.Else-k-lt10) → let s = start c.before.before in s.args.s + 6 ≡ start_of (rows s) (suc s.args.r)
six_next c =
    omega (arith, next c.before.before, six_given c.natural_at-k.result c.if-k-lt10.false (kind_less c.before.before))

overflow_mul-r : tie.Need-overflow_mul-r
overflow_mul-r c = search rules

natural_at-k-requires : tie.Need-natural_at-k-requires
natural_at-k-requires c κs = search rules

image_of-requires : tie.Need-image_of-requires
image_of-requires c κs = search rules

swapped-f-requires : tie.Need-swapped-f-requires
swapped-f-requires c κs = search rules

keep-requires : tie.Need-keep-requires
keep-requires c κs =
    let t = turned c.before in
    (c.requires.3, t.1.own, t.1.negated)

shape_of-images-then-k-eq8 : tie.Need-shape_of-images-then-k-eq8
shape_of-images-then-k-eq8 c = search rules

returns-then-k-eq8 : tie.Need-returns-then-k-eq8
unfolding written columns rows_given wide_kind_of eq_z
returns-then-k-eq8 c =
    let s = start c.before.before.before.before.before.before.before in
    let r = s.args.r in
    let none = ap (λ (n : ℕ). rows_given (wide_kind_of (pos n))) c.if-k-eq8.true in (
      omega (arith, next c.before.before.before.before.before.before.before, none),
      (
        subst (λ (l : List ℕ). Imaged (rows s) l (suc r)) (sym c.keep.ensures)
            (imaged_more (rows s) s.args.images.now r c.swapped-f.result s.requires.2 s.requires.3 (turned c.before.before.before.before).0 (turned c.before.before.before.before).1),
        ap (written s.args.plain.now s.args.s) (not_given (rows s) r s.requires.0.formed (eight c.before.before.before.before.before.before)),
      ),
    )

two-requires : tie.Need-two-requires
two-requires c κs =
    (given c.before.before.before, c.if-k-lt10.true, c.if-k-eq8.false, (start c.before.before.before).requires.2)

overflow_add-s : tie.Need-overflow_add-s
overflow_add-s c = omega (arith, two_next c.before.before.before.before, (start c.before.before.before.before.before.before).requires.0.limit)

keep-requires-then-k-lt10 : tie.Need-keep-requires-then-k-lt10
keep-requires-then-k-lt10 c κs =
    let s = start c.before.before.before.before.before.before in
    (s.requires.3, omega (arith, two_next c.before.before.before.before, s.requires.0.limit), omega (arith, two_next c.before.before.before.before, s.requires.0.limit))

overflow_add-result : tie.Need-overflow_add-result
overflow_add-result c = omega (arith, two_next c.before.before.before.before.before.before.before, (start c.before.before.before.before.before.before.before.before.before).requires.0.limit)

shape_of-images-then-k-lt10 : tie.Need-shape_of-images-then-k-lt10
shape_of-images-then-k-lt10 c = search rules

shape_of-plain-then-k-lt10 : tie.Need-shape_of-plain-then-k-lt10
shape_of-plain-then-k-lt10 c = search rules

returns-then-k-lt10 : tie.Need-returns-then-k-lt10
returns-then-k-lt10 c =
    let s = start c.before.before.before.before.before.before.before.before.before in
    let r = s.args.r in
    let e = image_two (rows s) r s.requires.0.formed c.natural_at-k.result (kind_is c.before.before.before.before.before.before.before.before.before) c.if-k-eq8.false (λ e'. omega (arith, c.if-k-lt10.true)) (λ e'. omega (arith, c.if-k-lt10.true)) in (
      two_next c.before.before.before.before.before.before.before,
      (
        subst (λ (l : List ℕ). Imaged (rows s) l (suc r)) (sym c.keep-then-k-lt10.ensures)
            (imaged_more (rows s) s.args.images.now r _ s.requires.2 s.requires.3 (e ∙ (λ i. record { own = sym s.requires.1 i; negated = sym s.requires.1 i + 1 }))
            (record { own = omega (arith, two_next c.before.before.before.before.before.before.before, s.requires.0.limit); negated = omega (arith, two_next c.before.before.before.before.before.before.before, s.requires.0.limit) })),
        c.two.ensures,
      ),
    )

equivalence-requires : tie.Need-equivalence-requires
equivalence-requires c κs =
    (given c.before.before.before, c.if-k-lt10.false, kind_less c.before.before.before, (start c.before.before.before).requires.2)

overflow_add-s-2 : tie.Need-overflow_add-s-2
overflow_add-s-2 c = omega (arith, six_next c.before.before.before.before, (start c.before.before.before.before.before.before).requires.0.limit)

overflow_add-s-3 : tie.Need-overflow_add-s-3
overflow_add-s-3 c = omega (arith, six_next c.before.before.before.before, (start c.before.before.before.before.before.before).requires.0.limit)

keep-requires-2 : tie.Need-keep-requires-2
keep-requires-2 c κs =
    let s = start c.before.before.before.before.before.before in
    (s.requires.3, omega (arith, six_next c.before.before.before.before, s.requires.0.limit), omega (arith, six_next c.before.before.before.before, s.requires.0.limit))

overflow_add-result-2 : tie.Need-overflow_add-result-2
overflow_add-result-2 c = omega (arith, six_next c.before.before.before.before.before.before.before, (start c.before.before.before.before.before.before.before.before.before).requires.0.limit)

shape_of-images : tie.Need-shape_of-images
shape_of-images c = search rules

shape_of-plain : tie.Need-shape_of-plain
shape_of-plain c = search rules

returns : tie.Need-returns
returns c =
    let s = start c.before.before.before.before.before.before.before.before.before in
    let r = s.args.r in
    let e = image_six (rows s) r s.requires.0.formed c.natural_at-k.result c.if-k-lt10.false (kind_less c.before.before.before.before.before.before.before.before.before) (kind_is c.before.before.before.before.before.before.before.before.before) in (
      six_next c.before.before.before.before.before.before.before,
      (
        subst (λ (l : List ℕ). Imaged (rows s) l (suc r)) (sym c.keep-2.ensures)
            (imaged_more (rows s) s.args.images.now r _ s.requires.2 s.requires.3 (e ∙ (λ i. record { own = sym s.requires.1 i + 2; negated = sym s.requires.1 i + 5 }))
            (record { own = omega (arith, six_next c.before.before.before.before.before.before.before, s.requires.0.limit); negated = omega (arith, six_next c.before.before.before.before.before.before.before, s.requires.0.limit) })),
        c.equivalence.ensures,
      ),
    )

pub step_spec : {M : Type 1} → statement M
step_spec =
    tie.close
    (tie.spec
    overflow_mul-r
    natural_at-k-requires
    image_of-requires
    swapped-f-requires
    keep-requires
    shape_of-images-then-k-eq8
    returns-then-k-eq8
    two-requires
    overflow_add-s
    keep-requires-then-k-lt10
    overflow_add-result
    shape_of-images-then-k-lt10
    shape_of-plain-then-k-lt10
    returns-then-k-lt10
    equivalence-requires
    overflow_add-s-2
    overflow_add-s-3
    keep-requires-2
    overflow_add-result-2
    shape_of-images
    shape_of-plain
    returns)
