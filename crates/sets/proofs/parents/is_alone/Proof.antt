use borrow.Author.Rules.{rules}
use Prim.Native.Nat.{ℕ}
use mathlib.Core.Path.{sym, ◌∙◌, ap, ap₂}
use lib.IntN.{pos}
use lib.ListN.{get_or}
use mir.Facts.{to_z-of_z}
use Rattle.stab.specs.Basic.{eq_z}
use Rattle.branch.proofs.ParentLaws.{alone_not, alone_at}
use Rattle.sets.proofs.parents.is_alone.Statement.{statement}
use Rattle.sets.proofs.parents.is_alone.Tie as tie

natural_of-requires : tie.Need-natural_of-requires
natural_of-requires c κs = search rules

returns-then-natural_of-ne1 : tie.Need-returns-then-natural_of-ne1
returns-then-natural_of-ne1 c =
    let a = c.args in
    alone_not a.nodes.now a.members.now a.j a.z c.requires.1 (λ e. c.if-natural_of-ne1.true (c.natural_of.ensures.0 ∙ e))

natural_of-requires-2 : tie.Need-natural_of-requires-2
natural_of-requires-2 c κs = search rules

is_at-requires : tie.Need-is_at-requires
is_at-requires c κs = search rules

returns : tie.Need-returns
returns c =
    let a = c.args in
    c.is_at.ensures
    ∙ ap₂ eq_z (ap (λ (i : ℕ). get_or a.members.now i (pos 0)) c.natural_of-2.ensures.0) (to_z-of_z c.ranges.z)
    ∙ alone_at a.nodes.now a.members.now a.j a.z c.requires.1 (sym c.natural_of.ensures.0 ∙ c.if-natural_of-ne1.false)

pub is_alone_spec : {M : Type 1} → statement M
is_alone_spec =
    tie.close (tie.spec natural_of-requires returns-then-natural_of-ne1 natural_of-requires-2 is_at-requires returns)
