use native.Mathlib.Omega.{arith}
use mathlib.Core.Logic.{⊎_elim}
use mathlib.Core.Bool.{true}
use mathlib.Core.Path.{◌≡◌, sym, ◌∙◌, ap, ap₂, subst}
use lib.Dec.{ltb}
use lib.IntN.{pos}
use borrow.Author.Tests.{ltb-true, ltb-false}
use borrow.Author.Rules.{rules}
use Rattle.stab.proofs.Bools.{decide}
use Rattle.stab.specs.Basic.{below}
use Rattle.stab.specs.Formula.{row_at}
use Rattle.formula.specs.Column.{column}
use Rattle.wide.specs.Plain.{rows_given}
use Rattle.wide.specs.WideFormula.{wide_kind_of}
use Rattle.widerows.proofs.WideLaws.{TwoKind, two_kind}
use Rattle.convert.specs.Emission.{swapped, both_rows, written}
use Rattle.convert.proofs.GivenLaws.{Plains, image_plain, swapped_plain, parts_below, join_kind, junction_given, implication_given, two_given}
use Rattle.convert.proofs.rows.junction.Statement.{statement}
use Rattle.convert.proofs.rows.junction.Tie as tie

-- two rows are given
two : (s : tie.Start) → rows_given (wide_kind_of (pos s.args.k)) ≡ 2
two s = two_given s.args.k (λ e. omega (arith, s.requires.0, s.requires.3 (omega (arith, e)))) (λ e. omega (arith, s.requires)) (λ e. omega (arith, s.requires))

-- the row has two parts
parts : (s : tie.Start) → TwoKind (wide_kind_of (pos s.args.k))
parts s =
    let k = s.args.k in
    ⊎_elim
    (λ e. join_kind k s.requires.1 (ltb-true k 6 e))
    (λ e. two_kind k (s.requires.3 (ltb-false k 6 e)) (omega (arith, s.requires.2)))
    (decide (ltb k 6))

smaller : (s : tie.Start) → let w = row_at s.args.wide.now s.args.r in (below s.args.r w.a ≡ true) × (below s.args.r w.b ≡ true)
smaller s = parts_below (row_at s.args.wide.now) s.args.r s.requires.0.formed (parts s) (ap wide_kind_of s.requires.0.kind)

-- what stands for the parts
left : (c : tie.After-image_of-f) → Plains c.image_of-f.result
unfolding column
left c = subst Plains (sym c.image_of-f.ensures) (image_plain c.requires.4 _ (smaller c.before.before).0)

right : (c : tie.After-image_of-g) → Plains c.image_of-g.result
unfolding column
right c = subst Plains (sym c.image_of-g.ensures) (image_plain c.requires.4 _ (smaller c.before.before.before).1)

image_of-f-requires : tie.Need-image_of-f-requires
image_of-f-requires c κs = search rules

image_of-g-requires : tie.Need-image_of-g-requires
image_of-g-requires c κs = search rules

paired-requires : tie.Need-paired-requires
paired-requires c κs = search rules

put_both-requires : tie.Need-put_both-requires
put_both-requires c κs = (
  (omega arith, c.paired.ensures.1, omega (arith, two c.before.before.before.before.before.before, c.requires.0.limit, c.requires.0.room)),
  ((left c.before.before.before.before).own, (left c.before.before.before.before).negated, (right c.before.before.before).own, (right c.before.before.before).negated),
)

shape_of-plain-then-k-lt6 : tie.Need-shape_of-plain-then-k-lt6
shape_of-plain-then-k-lt6 c = search rules

returns-then-k-lt6 : tie.Need-returns-then-k-lt6
unfolding column
returns-then-k-lt6 c =
    let x = c.args in
    c.put_both.ensures
    ∙ ap (written x.plain.now x.s)
    ((λ i. both_rows x.k (c.paired.ensures.0 i) (c.image_of-f.ensures i) (c.image_of-g.ensures i))
    ∙ junction_given (row_at x.wide.now) x.r c.requires.0.formed x.images.now c.requires.4 x.k c.requires.1 c.if-k-lt6.true c.requires.0.kind)

swapped-h-requires : tie.Need-swapped-h-requires
swapped-h-requires c κs = search rules

put_both-requires-2 : tie.Need-put_both-requires-2
put_both-requires-2 c κs =
    let h = subst Plains (sym c.swapped-h.ensures) (swapped_plain (left c.before.before.before.before)) in (
      (omega arith, omega arith, omega (arith, two c.before.before.before.before.before.before, c.requires.0.limit, c.requires.0.room)),
      (h.own, h.negated, (right c.before.before.before).own, (right c.before.before.before).negated),
    )

shape_of-plain : tie.Need-shape_of-plain
shape_of-plain c = search rules

returns : tie.Need-returns
unfolding column
returns c =
    let x = c.args in
    let nine : x.k ≡ 9 = omega (arith, c.requires.3 c.if-k-lt6.false, c.requires.2) in
    c.put_both-2.ensures
    ∙ ap (written x.plain.now x.s)
    (ap₂ (both_rows 5 4) (c.swapped-h.ensures ∙ ap swapped c.image_of-f.ensures) c.image_of-g.ensures
    ∙ implication_given (row_at x.wide.now) x.r c.requires.0.formed x.images.now c.requires.4 (c.requires.0.kind ∙ ap pos nine))

pub junction_spec : {M : Type 1} → statement M
junction_spec =
    tie.close
    (tie.spec
    image_of-f-requires
    image_of-g-requires
    paired-requires
    put_both-requires
    shape_of-plain-then-k-lt6
    returns-then-k-lt6
    swapped-h-requires
    put_both-requires-2
    shape_of-plain
    returns)
