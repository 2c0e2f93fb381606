use native.Mathlib.Omega.{arith}
use Prim.Native.Nat.{◌≤◌}
use mathlib.Core.Path.{sym, ◌∙◌, ap, subst}
use mir.Facts.{to_z-of_z}
use borrow.Author.Rules.{rules}
use Rattle.stab.specs.Basic.{nat}
use Rattle.stab.proofs.Trees.{below_nat}
use Rattle.formula.specs.Rows.{facts_at}
use Rattle.formula.specs.declared.rows.Facts.{Facts}
use Rattle.formula.proofs.rows.part.Statement.{statement}
use Rattle.formula.proofs.rows.part.Tie as tie

natural-requires : tie.Need-natural-requires
natural-requires c κs = search rules

known-requires : tie.Need-known-requires
known-requires c κs =
    omega (arith, c.natural.ensures ∙ ap nat (to_z-of_z c.ranges.z), below_nat _ c.args.z c.requires.1, c.requires.2.room)

returns : tie.Need-returns
returns c =
    let less = below_nat _ c.args.z c.requires.1 in
    let e = c.known.ensures ∙ ap (facts_at _) (c.natural.ensures ∙ ap nat (to_z-of_z c.ranges.z)) in (
      e,
      (
        subst (λ (f : Facts). f.size ≤ 4096) (sym e) (c.requires.2.size _ less),
        subst (λ (f : Facts). f.depth ≤ 64) (sym e) (c.requires.2.depth _ less),
      ),
    )

pub part_spec : {M : Type 1} → statement M
part_spec = tie.close (tie.spec natural-requires known-requires returns)
