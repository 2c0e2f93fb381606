use borrow.Author.Rules.{rules}
use mathlib.Core.Path.{◌∙◌, ap₂}
use Rattle.stab.specs.Basic.{eq_z}
use Rattle.signed.proofs.Signs.{read_back}
use Rattle.signed.proofs.same_at.Statement.{statement}
use Rattle.signed.proofs.same_at.Tie as tie

at-requires : tie.Need-at-requires
at-requires c κs = search rules

at-requires-2 : tie.Need-at-requires-2
at-requires-2 c κs = search rules

equal-requires : tie.Need-equal-requires
equal-requires c κs = search rules

returns : tie.Need-returns
returns c =
    c.equal.ensures
    ∙ ap₂ eq_z
    (read_back _ c.at.type_inv ∙ c.at.ensures)
    (read_back _ c.at-2.type_inv ∙ c.at-2.ensures)

pub same_at_spec : {M : Type 1} → statement M
same_at_spec = tie.close (tie.spec at-requires at-requires-2 equal-requires returns)
