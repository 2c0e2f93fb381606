use Prim.Native.Nat.{◌+◌}
use native.Mathlib.Omega.{arith}
use mathlib.Core.List.{[], ◌∷◌}
use mathlib.Core.Path.{◌≡◌, refl, sym, ◌∙◌, ap, subst}
use lib.IntN.{pos}
use borrow.Author.Rules.{rules}
use Rattle.stab.specs.Formula.{row_at}
use Rattle.signed.proofs.Signs.{read_back}
use Rattle.formula.specs.Column.{column}
use Rattle.wide.specs.Plain.{rows_given, row}
use Rattle.wide.specs.WideFormula.{wide_kind_of}
use Rattle.convert.specs.declared.rows.Stands.{Stands}
use Rattle.convert.proofs.GivenLaws.{Plains, image_plain, body_below, iteration_given, two_given}
use Rattle.convert.proofs.WriteLaws.{then_written}
use Rattle.convert.proofs.rows.iteration.Statement.{statement}
use Rattle.convert.proofs.rows.iteration.Tie as tie

-- two rows are given
two : (s : tie.Start) → rows_given (wide_kind_of (pos s.args.k)) ≡ 2
two s = two_given s.args.k (λ e. omega (arith, s.requires)) (λ e. omega (arith, s.requires)) (λ e. omega (arith, s.requires))

-- what stands for the body
body : (c : tie.After-image_of-f) → Plains c.image_of-f.result
unfolding column
body c =
    let a = c.args in
    subst Plains (sym c.image_of-f.ensures)
    (image_plain c.requires.3 _ (body_below (row_at a.wide.now) a.r c.requires.0.formed a.k c.requires.1 c.requires.2 c.requires.0.kind))

image_of-f-requires : tie.Need-image_of-f-requires
image_of-f-requires c κs = search rules

overflow_mul-r : tie.Need-overflow_mul-r
overflow_mul-r c = search rules

overflow_add-r : tie.Need-overflow_add-r
overflow_add-r c = search rules

at-b-requires : tie.Need-at-b-requires
at-b-requires c κs = search rules

overflow_mul-r-2 : tie.Need-overflow_mul-r-2
overflow_mul-r-2 c = search rules

overflow_add-r-2 : tie.Need-overflow_add-r-2
overflow_add-r-2 c = search rules

at-c-requires : tie.Need-at-c-requires
at-c-requires c κs = search rules

of-requires : tie.Need-of-requires
of-requires c κs = omega (arith, (body c.before.before.before).own)

put-requires : tie.Need-put-requires
put-requires c κs =
    (omega arith, omega (arith, two c.before.before.before.before.before.before, c.requires.0.limit, c.requires.0.room))

overflow_add-s : tie.Need-overflow_add-s
overflow_add-s c = search rules

paired-requires : tie.Need-paired-requires
paired-requires c κs = search rules

of-requires-2 : tie.Need-of-requires-2
of-requires-2 c κs = omega (arith, (body c.before.before.before.before.before.before.before.before).negated)

put-requires-2 : tie.Need-put-requires-2
put-requires-2 c κs =
    (c.paired.ensures.1, omega (arith, c.put.auto.t, two c.before.before.before.before.before.before.before.before.before.before.before, c.requires.0.limit, c.requires.0.room))

shape_of-plain : tie.Need-shape_of-plain
shape_of-plain c = search rules

returns : tie.Need-returns
unfolding row_at column
returns c =
    let x = c.args in
    let rows = row_at x.wide.now in
    let f = read_back _ c.of.type_inv ∙ c.of.ensures ∙ ap (λ (n : Stands). pos n.own) c.image_of-f.ensures in
    let g = read_back _ c.of-2.type_inv ∙ c.of-2.ensures ∙ ap (λ (n : Stands). pos n.negated) c.image_of-f.ensures in
    let v = read_back _ c.at-b.type_inv ∙ c.at-b.ensures in
    let w = read_back _ c.at-c.type_inv ∙ c.at-c.ensures in
    then_written _ x.s (x.s + 1) _ _ c.put.ensures c.put-2.ensures refl
    ((λ i. row x.k (f i) (v i) (w i) ∷ row (c.paired.ensures.0 i) (g i) (v i) (w i) ∷ [])
    ∙ iteration_given rows x.r c.requires.0.formed x.images.now c.requires.3 x.k c.requires.1 c.requires.2 c.requires.0.kind)

pub iteration_spec : {M : Type 1} → statement M
iteration_spec =
    tie.close
    (tie.spec
    image_of-f-requires
    overflow_mul-r
    overflow_add-r
    at-b-requires
    overflow_mul-r-2
    overflow_add-r-2
    at-c-requires
    of-requires
    put-requires
    overflow_add-s
    paired-requires
    of-requires-2
    put-requires-2
    shape_of-plain
    returns)
