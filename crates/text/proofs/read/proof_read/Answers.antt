use mathlib.Core.Path.{refl, subst}
use Rattle.text.specs.Awaiting.{rest}
use Rattle.text.specs.Texts.{Came}
use Rattle.text.specs.declared.awaited.Awaited.{Awaited}
use Rattle.text.specs.declared.awaited.Awaited.TheVariants.{ProofHeading}
use Rattle.text.proofs.EndLaws.{proof_all, proof_refused, proof_other}
use Rattle.text.proofs.Openings.{refused_at}
use Rattle.text.proofs.read.proof_read.Goals as goal

pub returns-in-Proof : goal.returns-in-Proof
returns-in-Proof c =
    λ ls t u m x. let y = subst (λ (p : Awaited). Came ProofHeading ls p t u m) c.in-Proof.is x in
    (proof_all ls t u m c.in-Proof.rows c.in-Proof.nodes c.in-Proof.members y, y.room.0, y.room.1, y.room.2)

pub returns-in-NoHeading : goal.returns-in-NoHeading
unfolding rest
returns-in-NoHeading c =
    λ ls t u m x. refused_at c.at.ensures (proof_refused ls t u m _ _ _ (subst (λ (p : Awaited). Came ProofHeading ls p t u m) c.in-NoHeading.is x) refl)

pub returns-in-BadLine : goal.returns-in-BadLine
unfolding rest
returns-in-BadLine c =
    λ ls t u m x. refused_at c.at-in-BadLine.ensures (proof_refused ls t u m _ _ _ (subst (λ (p : Awaited). Came ProofHeading ls p t u m) c.in-BadLine.is x) refl)

pub returns-in-TooMany : goal.returns-in-TooMany
unfolding rest
returns-in-TooMany c =
    λ ls t u m x. refused_at c.at-in-TooMany.ensures (proof_refused ls t u m _ _ _ (subst (λ (p : Awaited). Came ProofHeading ls p t u m) c.in-TooMany.is x) refl)

pub returns-in_default : goal.returns-in_default
returns-in_default c =
    let d = c.in_default in
    λ ls t u m x. refused_at c.at-in_default.ensures (proof_other ls t u m c.args.p d.not-Proof d.not-NoHeading d.not-BadLine d.not-TooMany x)
