use borrow.Author.Rules.{rules}
use native.Mathlib.Omega.{arith}
use mathlib.Core.Path.{sym, ◌∙◌, ap₂}
use mir.Facts.{to_z-of_z}
use Rattle.signed.proofs.Signs.{read_back}
use Rattle.stab.specs.Basic.{eq_z}
use Rattle.stab.proofs.Searches.{stands_at_lem, stands_past}
use Rattle.branch.proofs.member.stands_at.Statement.{statement}
use Rattle.branch.proofs.member.stands_at.Tie as tie

offset_bounds-list-i : tie.Need-offset_bounds-list-i
offset_bounds-list-i c = search rules

bounds-list-i : tie.Need-bounds-list-i
bounds-list-i c = search rules

equal-requires : tie.Need-equal-requires
equal-requires c κs = search rules

returns-then-i-list : tie.Need-returns-then-i-list
returns-then-i-list c =
    let a = c.args in
    c.equal.ensures ∙ ap₂ eq_z (to_z-of_z c.ranges.z) (read_back _ c.equal-arg-1.given) ∙ sym (stands_at_lem a.z a.list.now a.i (omega arith))

returns : tie.Need-returns
returns c = let a = c.args in sym (stands_past a.z a.list.now a.i (omega arith))

pub stands_at_spec : {M : Type 1} → statement M
stands_at_spec = tie.close (tie.spec offset_bounds-list-i bounds-list-i equal-requires returns-then-i-list returns)
