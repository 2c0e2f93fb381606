use mathlib.Core.Path.{◌∙◌, ap₂}
use lib.IntN.{ℤ}
use mir.Facts.{to_z-of_z}
use borrow.Author.Rules.{rules}
use Rattle.stab.specs.Check.{schema_refusal}
use Rattle.stab.specs.Lent.{lent_schema, schema_header}
use Rattle.convert.proofs.plain_pass.Statement.{statement}
use Rattle.convert.proofs.plain_pass.Tie as tie

slice_bounds-schema_formulas-end : tie.Need-slice_bounds-schema_formulas-end
slice_bounds-schema_formulas-end c = search rules

schema_formulas-requires : tie.Need-schema_formulas-requires
schema_formulas-requires c κs = search rules

returns : tie.Need-returns
returns c =
    let a = c.args in
    c.schema_formulas.ensures.0
    ∙ ap₂ (λ (root least : ℤ). schema_refusal (lent_schema a.plain.now (schema_header a.rows root least))) (to_z-of_z c.ranges.root) (to_z-of_z c.ranges.least)

pub plain_pass_spec : {M : Type 1} → statement M
plain_pass_spec =
    tie.close (tie.spec slice_bounds-schema_formulas-end schema_formulas-requires returns)
