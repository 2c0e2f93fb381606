use native.Mathlib.Omega.{arith}
use mathlib.Core.Path.{refl, sym, ◌∙◌, subst}
use lib.ListN.{length}
use Rattle.stab.specs.Text.{lines, text_limit}
use Rattle.text.specs.Awaiting.{rest}
use Rattle.text.specs.Texts.{ProofOf}
use Rattle.text.specs.declared.awaited.Awaited.TheVariants.{ProofHeading}
use Rattle.text.proofs.ProofLaws.{proof_long, proof_short, proof_on, full_sizes}
use Rattle.text.proofs.EndLaws.{came}
use Rattle.text.proofs.Openings.{refused_at}
use Rattle.text.proofs.read.proof_text.Goals as goal

pub returns-then-text-gt65536 : goal.returns-then-text-gt65536
unfolding text_limit
returns-then-text-gt65536 c = let a = c.args in refused_at c.at.ensures (proof_long (length a.table.now) (length a.nodes.now) (length a.members.now) a.text.now c.if-text-gt65536.true)

pub returns-then-not-full : goal.returns-then-not-full
unfolding text_limit
returns-then-not-full c =
    let a = c.args in
    refused_at c.at-then-not-full.ensures
    (proof_short (length a.table.now) (length a.nodes.now) (length a.members.now) a.text.now c.if-text-gt65536.false (sym c.full.ensures ∙ c.if-not-full.true))

pub read_lines-requires : goal.read_lines-requires
unfolding text_limit
read_lines-requires c =
    let a = c.args in
    let s = full_sizes (length a.table.now) (length a.nodes.now) (length a.members.now) (sym c.full.ensures ∙ c.if-not-full.false) in
    record { within = omega arith; short = c.if-text-gt65536.false; room = s }

pub returns : goal.returns
unfolding rest text_limit
returns c =
    let a = c.args in
    let r = c.read_lines in
    subst (λ y. ProofOf y r.new.table r.new.nodes r.new.members c.proof_read.result) (sym (proof_on (length a.table.now) (length a.nodes.now) (length a.members.now) a.text.now c.if-text-gt65536.false (sym c.full.ensures ∙ c.if-not-full.false)))
    (c.proof_read.ensures (lines a.text.now) r.new.table r.new.nodes r.new.members (came a.text.now ProofHeading _ _ _ _ _ _ _ r.ensures refl))
