use mathlib.Core.Path.{refl, ◌∙◌, subst}
use mir.Facts.{to_z-of_z}
use Rattle.text.specs.Awaiting.{rest}
use Rattle.text.specs.Texts.{Came}
use Rattle.text.specs.declared.awaited.Awaited.{Awaited}
use Rattle.text.specs.declared.awaited.Awaited.TheVariants.{ModelHeading}
use Rattle.text.proofs.EndLaws.{model_all, model_refused, model_other}
use Rattle.text.proofs.Openings.{refused_at}
use Rattle.text.proofs.read.model_read.Goals as goal

pub returns-in-Model : goal.returns-in-Model
returns-in-Model c =
    λ ls t u m x p. let y = subst (λ (p : Awaited). Came ModelHeading ls p t u m) c.in-Model.is x in
    (model_all ls t u m c.in-Model.pairs _ y (to_z-of_z c.ranges.n ∙ p), y.room)

pub returns-in-NoHeading : goal.returns-in-NoHeading
unfolding rest
returns-in-NoHeading c =
    λ ls t u m x p. refused_at c.at.ensures (model_refused ls t u m _ _ _ (subst (λ (p : Awaited). Came ModelHeading ls p t u m) c.in-NoHeading.is x) refl)

pub returns-in-BadLine : goal.returns-in-BadLine
unfolding rest
returns-in-BadLine c =
    λ ls t u m x p. refused_at c.at-in-BadLine.ensures (model_refused ls t u m _ _ _ (subst (λ (p : Awaited). Came ModelHeading ls p t u m) c.in-BadLine.is x) refl)

pub returns-in-TooMany : goal.returns-in-TooMany
unfolding rest
returns-in-TooMany c =
    λ ls t u m x p. refused_at c.at-in-TooMany.ensures (model_refused ls t u m _ _ _ (subst (λ (p : Awaited). Came ModelHeading ls p t u m) c.in-TooMany.is x) refl)

pub returns-in_default : goal.returns-in_default
returns-in_default c =
    let d = c.in_default in
    λ ls t u m x p. refused_at c.at-in_default.ensures (model_other ls t u m c.args.p d.not-Model d.not-NoHeading d.not-BadLine d.not-TooMany x)
