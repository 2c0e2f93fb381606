use borrow.Author.Rules.{rules}
use mathlib.Core.Path.{◌∙◌, ap₂}
use Rattle.stab.specs.Basic.{eq_z}
use mir.Facts.{to_z-of_z}
use Rattle.signed.proofs.Signs.{read_back}
use Rattle.signed.proofs.is_at.Statement.{statement}
use Rattle.signed.proofs.is_at.Tie as tie

at-requires : tie.Need-at-requires
at-requires c κs = search rules

equal-requires : tie.Need-equal-requires
equal-requires c κs = search rules

returns : tie.Need-returns
returns c =
    c.equal.ensures
    ∙ ap₂ eq_z (read_back _ c.at.type_inv ∙ c.at.ensures) (to_z-of_z c.ranges.z)

pub is_at_spec : {M : Type 1} → statement M
is_at_spec = tie.close (tie.spec at-requires equal-requires returns)
