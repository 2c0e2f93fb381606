use native.Mathlib.Omega.{arith}
use mathlib.Core.Bool.{true}
use mathlib.Core.Path.{◌≡◌, sym, ◌∙◌, ap, subst}
use lib.IntN.{pos}
use borrow.Author.Rules.{rules}
use Rattle.stab.specs.Formula.{row_at}
use Rattle.stab.specs.Basic.{below}
use Rattle.formula.specs.Column.{column}
use Rattle.wide.specs.Plain.{rows_given}
use Rattle.wide.specs.WideFormula.{wide_kind_of}
use Rattle.widerows.proofs.WideLaws.{two_kind}
use Rattle.convert.specs.Emission.{swapped, six_rows, written}
use Rattle.convert.proofs.GivenLaws.{Plains, image_plain, swapped_plain, parts_below, equivalent_given, exclusive_given, six_given}
use Rattle.convert.proofs.rows.equivalence.Statement.{statement}
use Rattle.convert.proofs.rows.equivalence.Tie as tie

-- six rows are given
six : (s : tie.Start) → rows_given (wide_kind_of (pos s.args.k)) ≡ 6
six s = six_given s.args.k s.requires.1 s.requires.2

smaller : (s : tie.Start) → let w = row_at s.args.wide.now s.args.r in (below s.args.r w.a ≡ true) × (below s.args.r w.b ≡ true)
smaller s =
    parts_below (row_at s.args.wide.now) s.args.r s.requires.0.formed (two_kind s.args.k (omega (arith, s.requires.1)) s.requires.2) (ap wide_kind_of s.requires.0.kind)

-- what stands for the sides
left : (c : tie.After-image_of-f) → Plains c.image_of-f.result
unfolding column
left c = subst Plains (sym c.image_of-f.ensures) (image_plain c.requires.3 _ (smaller c.before.before).0)

right : (c : tie.After-image_of-g) → Plains c.image_of-g.result
unfolding column
right c = subst Plains (sym c.image_of-g.ensures) (image_plain c.requires.3 _ (smaller c.before.before.before).1)

image_of-f-requires : tie.Need-image_of-f-requires
image_of-f-requires c κs = search rules

image_of-g-requires : tie.Need-image_of-g-requires
image_of-g-requires c κs = search rules

put_six-requires : tie.Need-put_six-requires
put_six-requires c κs =
    ((omega (arith, six c.before.before.before.before.before, c.requires.0.limit), c.requires.0.room), ((left c.before.before.before).own, (left c.before.before.before).negated, (right c.before.before).own, (right c.before.before).negated))

shape_of-plain-then-k-eq10 : tie.Need-shape_of-plain-then-k-eq10
shape_of-plain-then-k-eq10 c = search rules

returns-then-k-eq10 : tie.Need-returns-then-k-eq10
unfolding column
returns-then-k-eq10 c =
    let x = c.args in
    let e = c.requires.0.kind ∙ ap pos c.if-k-eq10.true in
    c.put_six.ensures
    ∙ ap (written x.plain.now x.s)
    ((λ i. six_rows (c.requires.0.start i) (c.image_of-f.ensures i) (c.image_of-g.ensures i))
    ∙ equivalent_given (row_at x.wide.now) x.r c.requires.0.formed x.images.now c.requires.3 e)

swapped-h-requires : tie.Need-swapped-h-requires
swapped-h-requires c κs = search rules

put_six-requires-2 : tie.Need-put_six-requires-2
put_six-requires-2 c κs =
    let h = subst Plains (sym c.swapped-h.ensures) (swapped_plain (right c.before.before.before)) in
    ((omega (arith, six c.before.before.before.before.before.before, c.requires.0.limit), c.requires.0.room), ((left c.before.before.before.before).own, (left c.before.before.before.before).negated, h.own, h.negated))

shape_of-plain : tie.Need-shape_of-plain
shape_of-plain c = search rules

returns : tie.Need-returns
unfolding column
returns c =
    let x = c.args in
    let eleven : x.k ≡ 11 = omega (arith, c.if-k-eq10.false, c.requires.1, c.requires.2) in
    c.put_six-2.ensures
    ∙ ap (written x.plain.now x.s)
    ((λ i. six_rows (c.requires.0.start i) (c.image_of-f.ensures i) ((c.swapped-h.ensures ∙ ap swapped c.image_of-g.ensures) i))
    ∙ exclusive_given (row_at x.wide.now) x.r c.requires.0.formed x.images.now c.requires.3 (c.requires.0.kind ∙ ap pos eleven))

pub equivalence_spec : {M : Type 1} → statement M
equivalence_spec =
    tie.close
    (tie.spec
    image_of-f-requires
    image_of-g-requires
    put_six-requires
    shape_of-plain-then-k-eq10
    returns-then-k-eq10
    swapped-h-requires
    put_six-requires-2
    shape_of-plain
    returns)
