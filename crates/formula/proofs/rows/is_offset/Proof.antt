use native.Mathlib.Omega.{arith}
use Prim.Native.Nat.{ℕ}
use mathlib.Core.Path.{sym, ◌∙◌, ap}
use lib.Dec.{leb}
use lib.IntN.{ℤ, neg_ℤ}
use mir.Facts.{to_z-of_z}
use borrow.Author.Rules.{rules}
use Rattle.stab.specs.Basic.{nat}
use Rattle.formula.proofs.RowLaws.{offset_negative, offset_natural}
use Rattle.formula.proofs.rows.is_offset.Statement.{statement}
use Rattle.formula.proofs.rows.is_offset.Tie as tie

under-requires : tie.Need-under-requires
under-requires c κs = search rules

returns-then-under-gt9999 : tie.Need-returns-then-under-gt9999
returns-then-under-gt9999 c =
    let e = c.under.ensures ∙ ap (λ (z : ℤ). nat (neg_ℤ z)) (to_z-of_z c.ranges.z) in
    sym (offset_negative c.args.z (omega arith))

natural-requires : tie.Need-natural-requires
natural-requires c κs = search rules

returns : tie.Need-returns
returns c =
    let e = c.under.ensures ∙ ap (λ (z : ℤ). nat (neg_ℤ z)) (to_z-of_z c.ranges.z) in
    ap (λ (n : ℕ). leb n 9999) (c.natural.ensures ∙ ap nat (to_z-of_z c.ranges.z))
    ∙ sym (offset_natural c.args.z (omega arith))

pub is_offset_spec : {M : Type 1} → statement M
is_offset_spec = tie.close (tie.spec under-requires returns-then-under-gt9999 natural-requires returns)
