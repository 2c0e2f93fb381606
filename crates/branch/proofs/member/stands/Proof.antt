use borrow.Author.Rules.{rules}
use Prim.Native.Nat.{ℕ}
use mathlib.Core.Path.{◌≡◌, ◌∙◌, ap, ap₂}
use lib.IntN.{ℤ}
use mir.Syntax.{w32}
use mir.Val.{to_z, of_z}
use mir.Facts.{to_z-of_z}
use Rattle.stab.specs.Search.{place_of, stands_at}
use Rattle.stab.proofs.Searches.{member_at_place}
use Rattle.branch.proofs.member.stands.Statement.{statement}
use Rattle.branch.proofs.member.stands.Tie as tie

place-requires : tie.Need-place-requires
place-requires c κs = search rules

stands_at-requires : tie.Need-stands_at-requires
stands_at-requires c κs = search rules

returns : tie.Need-returns
returns c =
    let a = c.args in
    let e : to_z w32 (of_z w32 a.z) ≡ a.z = to_z-of_z c.ranges.z in
    c.stands_at.ensures
    ∙ ap₂ (λ (z : ℤ) (i : ℕ). stands_at z a.list.now i) e (c.place.ensures ∙ ap (λ (z : ℤ). place_of z a.list.now) e)
    ∙ member_at_place a.z a.list.now c.requires

pub stands_spec : {M : Type 1} → statement M
stands_spec = tie.close (tie.spec place-requires stands_at-requires returns)
