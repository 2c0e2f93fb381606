use mathlib.Core.Path.{refl, ◌∙◌, subst}
use mir.Facts.{to_z-of_z}
use Rattle.text.specs.Awaiting.{rest}
use Rattle.text.specs.Texts.{Came}
use Rattle.text.specs.declared.awaited.Awaited.{Awaited}
use Rattle.text.specs.declared.awaited.Awaited.TheVariants.{SchemaHeading}
use Rattle.text.proofs.EndLaws.{schema_all, schema_refused, schema_other}
use Rattle.text.proofs.Openings.{refused_at}
use Rattle.text.proofs.read.schema_read.Goals as goal

pub returns-in-Schema : goal.returns-in-Schema
returns-in-Schema c =
    let f = c.ranges in
    λ ls t u m x p r. let y = subst (λ (p : Awaited). Came SchemaHeading ls p t u m) c.in-Schema.is x in
    (schema_all ls t u m c.in-Schema.rows _ _ y (to_z-of_z f.root ∙ p) (to_z-of_z f.least ∙ r), y.room)

pub returns-in-NoHeading : goal.returns-in-NoHeading
unfolding rest
returns-in-NoHeading c =
    λ ls t u m x p r. refused_at c.at.ensures (schema_refused ls t u m _ _ _ (subst (λ (p : Awaited). Came SchemaHeading ls p t u m) c.in-NoHeading.is x) refl)

pub returns-in-BadLine : goal.returns-in-BadLine
unfolding rest
returns-in-BadLine c =
    λ ls t u m x p r. refused_at c.at-in-BadLine.ensures (schema_refused ls t u m _ _ _ (subst (λ (p : Awaited). Came SchemaHeading ls p t u m) c.in-BadLine.is x) refl)

pub returns-in-TooMany : goal.returns-in-TooMany
unfolding rest
returns-in-TooMany c =
    λ ls t u m x p r. refused_at c.at-in-TooMany.ensures (schema_refused ls t u m _ _ _ (subst (λ (p : Awaited). Came SchemaHeading ls p t u m) c.in-TooMany.is x) refl)

pub returns-in_default : goal.returns-in_default
returns-in_default c =
    let d = c.in_default in
    λ ls t u m x p r. refused_at c.at-in_default.ensures (schema_other ls t u m c.args.p d.not-Schema d.not-NoHeading d.not-BadLine d.not-TooMany x)
