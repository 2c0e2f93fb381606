use borrow.Author.Rules.{rules}
use native.Mathlib.Omega.{arith}
use Prim.Native.Nat.{ℕ, ◌+◌, ◌*◌}
use mathlib.Core.Path.{◌∙◌, ap}
use lib.Dec.{eqb}
use lib.IntN.{ℤ, neg_ℤ}
use lib.ListN.{get_or}
use mir.Facts.{to_z-of_z}
use Rattle.stab.specs.Basic.{nat}
use Rattle.sets.proofs.SetLaws.{outer_negative, outer_past, outer_row}
use Rattle.sets.proofs.is_outer.Statement.{statement}
use Rattle.sets.proofs.is_outer.Tie as tie

under-requires : tie.Need-under-requires
under-requires c κs = search rules

returns-then-under-gt0 : tie.Need-returns-then-under-gt0
returns-then-under-gt0 c =
    let a = c.args in
    let u = c.under.ensures ∙ ap (λ (z : ℤ). nat (neg_ℤ z)) (to_z-of_z c.ranges.z) in
    outer_negative a.facts.now a.n a.z (omega (arith, u))

natural-r-requires : tie.Need-natural-r-requires
natural-r-requires c κs = search rules

returns-then-n-r : tie.Need-returns-then-n-r
returns-then-n-r c =
    let a = c.args in
    let u = c.under.ensures ∙ ap (λ (z : ℤ). nat (neg_ℤ z)) (to_z-of_z c.ranges.z) in
    let e = c.natural-r.ensures ∙ ap nat (to_z-of_z c.ranges.z) in
    outer_past a.facts.now a.n a.z (omega (arith, u)) (omega (arith, e))

overflow_mul-result : tie.Need-overflow_mul-result
overflow_mul-result c = search rules

overflow_add-result : tie.Need-overflow_add-result
overflow_add-result c = search rules

offset_bounds-facts-r : tie.Need-offset_bounds-facts-r
offset_bounds-facts-r c = search rules

bounds-facts-r : tie.Need-bounds-facts-r
bounds-facts-r c = search rules

returns : tie.Need-returns
returns c =
    let a = c.args in
    let u = c.under.ensures ∙ ap (λ (z : ℤ). nat (neg_ℤ z)) (to_z-of_z c.ranges.z) in
    let e = c.natural-r.ensures ∙ ap nat (to_z-of_z c.ranges.z) in
    ap (λ (r : ℕ). eqb (get_or a.facts.now (4 * r + 2) 0) 0) e
    ∙ outer_row a.facts.now a.n a.z (omega (arith, u)) (omega (arith, e))

pub is_outer_spec : {M : Type 1} → statement M
is_outer_spec =
    tie.close
    (tie.spec
    under-requires
    returns-then-under-gt0
    natural-r-requires
    returns-then-n-r
    overflow_mul-result
    overflow_add-result
    offset_bounds-facts-r
    bounds-facts-r
    returns)
