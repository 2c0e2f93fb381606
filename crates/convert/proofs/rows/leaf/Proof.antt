use Prim.Native.Nat.{◌+◌}
use native.Mathlib.Omega.{arith}
use mathlib.Core.List.{[], ◌∷◌}
use mathlib.Core.Path.{◌≡◌, refl, ◌∙◌}
use lib.IntN.{pos}
use borrow.Author.Rules.{rules}
use Rattle.stab.specs.Formula.{row_at}
use Rattle.signed.proofs.Signs.{read_back}
use Rattle.wide.specs.Plain.{rows_given, row}
use Rattle.wide.specs.WideFormula.{wide_kind_of}
use Rattle.convert.proofs.GivenLaws.{leaf_given, two_given}
use Rattle.convert.proofs.WriteLaws.{then_written}
use Rattle.convert.proofs.rows.leaf.Statement.{statement}
use Rattle.convert.proofs.rows.leaf.Tie as tie

-- two rows are given
two : (s : tie.Start) → rows_given (wide_kind_of (pos s.args.k)) ≡ 2
two s = two_given s.args.k (λ e. omega (arith, s.requires.1)) (λ e. omega (arith, s.requires.1)) (λ e. omega (arith, s.requires.1))

overflow_mul-r : tie.Need-overflow_mul-r
overflow_mul-r c = search rules

overflow_add-r : tie.Need-overflow_add-r
overflow_add-r c = search rules

at-a-requires : tie.Need-at-a-requires
at-a-requires c κs = search rules

overflow_mul-r-2 : tie.Need-overflow_mul-r-2
overflow_mul-r-2 c = search rules

overflow_add-r-2 : tie.Need-overflow_add-r-2
overflow_add-r-2 c = search rules

at-b-requires : tie.Need-at-b-requires
at-b-requires c κs = search rules

overflow_mul-r-3 : tie.Need-overflow_mul-r-3
overflow_mul-r-3 c = search rules

overflow_add-r-3 : tie.Need-overflow_add-r-3
overflow_add-r-3 c = search rules

at-c-requires : tie.Need-at-c-requires
at-c-requires c κs = search rules

put-requires : tie.Need-put-requires
put-requires c κs =
    (omega arith, omega (arith, two c.before.before.before.before, c.requires.0.limit, c.requires.0.room))

overflow_add-s : tie.Need-overflow_add-s
overflow_add-s c = search rules

paired-requires : tie.Need-paired-requires
paired-requires c κs = search rules

put-requires-2 : tie.Need-put-requires-2
put-requires-2 c κs =
    (c.paired.ensures.1, omega (arith, c.put.auto.t, two c.before.before.before.before.before.before.before.before, c.requires.0.limit, c.requires.0.room))

shape_of-plain : tie.Need-shape_of-plain
shape_of-plain c = search rules

returns : tie.Need-returns
unfolding row_at
returns c =
    let x = c.args in
    let k = c.paired.ensures.0 in
    let u = read_back _ c.at-a.type_inv ∙ c.at-a.ensures in
    let v = read_back _ c.at-b.type_inv ∙ c.at-b.ensures in
    let w = read_back _ c.at-c.type_inv ∙ c.at-c.ensures in
    then_written _ x.s (x.s + 1) _ _ c.put.ensures c.put-2.ensures refl
    ((λ i. row x.k (u i) (v i) (w i) ∷ row (k i) (u i) (v i) (w i) ∷ [])
    ∙ leaf_given (row_at x.wide.now) x.r c.requires.0.formed x.k c.requires.1 c.requires.0.kind)

pub leaf_spec : {M : Type 1} → statement M
leaf_spec =
    tie.close
    (tie.spec
    overflow_mul-r
    overflow_add-r
    at-a-requires
    overflow_mul-r-2
    overflow_add-r-2
    at-b-requires
    overflow_mul-r-3
    overflow_add-r-3
    at-c-requires
    put-requires
    overflow_add-s
    paired-requires
    put-requires-2
    shape_of-plain
    returns)
