use native.Mathlib.Omega.{arith}
use Prim.Native.Nat.{ℕ}
use mathlib.Core.Path.{sym, ◌∙◌, ap}
use lib.Dec.{ltb}
use lib.IntN.{ℤ, neg_ℤ}
use mir.Facts.{to_z-of_z}
use borrow.Author.Rules.{rules}
use Rattle.stab.specs.Basic.{nat}
use Rattle.formula.proofs.RowLaws.{below_negative, below_natural}
use Rattle.formula.proofs.rows.below.Statement.{statement}
use Rattle.formula.proofs.rows.below.Tie as tie

under-requires : tie.Need-under-requires
under-requires c κs = search rules

returns-then-under-gt0 : tie.Need-returns-then-under-gt0
returns-then-under-gt0 c =
    let e = c.under.ensures ∙ ap (λ (z : ℤ). nat (neg_ℤ z)) (to_z-of_z c.ranges.z) in
    sym (below_negative c.args.m c.args.z (omega arith))

natural-requires : tie.Need-natural-requires
natural-requires c κs = search rules

returns : tie.Need-returns
returns c =
    let e = c.under.ensures ∙ ap (λ (z : ℤ). nat (neg_ℤ z)) (to_z-of_z c.ranges.z) in
    ap (λ (n : ℕ). ltb n c.args.m) (c.natural.ensures ∙ ap nat (to_z-of_z c.ranges.z))
    ∙ sym (below_natural c.args.m c.args.z (omega arith))

pub below_spec : {M : Type 1} → statement M
below_spec = tie.close (tie.spec under-requires returns-then-under-gt0 natural-requires returns)
