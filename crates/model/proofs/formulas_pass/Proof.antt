use mathlib.Core.Path.{sym, ◌∙◌}
use borrow.Author.Rules.{rules}
use Rattle.model.proofs.formulas_pass.Statement.{statement}
use Rattle.model.proofs.formulas_pass.Tie as tie

slice_bounds-schema_formulas-end : tie.Need-slice_bounds-schema_formulas-end
slice_bounds-schema_formulas-end c = search rules

schema_formulas-requires : tie.Need-schema_formulas-requires
schema_formulas-requires c κs = search rules

returns : tie.Need-returns
returns c =
    let called = c.schema_formulas.ensures in
    (called.0, λ h. (called.1.0 (sym called.0 ∙ h)).formed)

pub formulas_pass_spec : {M : Type 1} → statement M
formulas_pass_spec = tie.close (tie.spec slice_bounds-schema_formulas-end schema_formulas-requires returns)
