use native.Mathlib.Omega.{arith}
use mathlib.Core.Path.{◌∙◌, ap}
use Prim.Native.Nat.{ℕ}
use lib.IntN.{ℤ, pos, neg_ℤ}
use mir.Facts.{to_z-of_z}
use borrow.Author.Rules.{rules}
use Rattle.stab.specs.Basic.{nat}
use Rattle.wide.specs.WideFormula.{wide_kind_of}
use Rattle.widerows.proofs.WideLaws.{kind_negative, kind_natural}
use Rattle.widerows.proofs.kind_of.Statement.{statement}
use Rattle.widerows.proofs.kind_of.Tie as tie

under-requires : tie.Need-under-requires
under-requires c κs = search rules

returns-then-under-gt0 : tie.Need-returns-then-under-gt0
returns-then-under-gt0 c =
    let e = c.under.ensures ∙ ap (λ (z : ℤ). nat (neg_ℤ z)) (to_z-of_z c.ranges.z) in
    kind_negative c.args.z (omega arith)

natural-requires : tie.Need-natural-requires
natural-requires c κs = search rules

returns : tie.Need-returns
returns c =
    let e = c.under.ensures ∙ ap (λ (z : ℤ). nat (neg_ℤ z)) (to_z-of_z c.ranges.z) in
    ap (λ (n : ℕ). wide_kind_of (pos n)) (c.natural.ensures ∙ ap nat (to_z-of_z c.ranges.z)) ∙ kind_natural c.args.z (omega arith)

pub kind_of_spec : {M : Type 1} → statement M
kind_of_spec = tie.close (tie.spec under-requires returns-then-under-gt0 natural-requires returns)
