use borrow.Author.Rules.{rules}
use mathlib.Core.Path.{◌≡◌, sym, ◌∙◌, ap, ap₂, subst}
use mathlib.Core.List.{[], ◌∷◌}
use lib.IntN.{ℤ, pos}
use mir.Facts.{to_z-of_z}
use Rattle.stab.specs.Answer.{Packs}
use Rattle.stab.specs.Lent.{lent, header}
use Rattle.growing.specs.Growing.{growth_packed, shown_number}
use Rattle.growing.specs.Enquiry.{Editor, editor, commit, editor_answer, edited}
use Rattle.growing.specs.Lent.{held_header}
use Rattle.growing.specs.declared.Growth.{Growth}
use Rattle.grow.specs.Packed.{as_verdict}
use Rattle.enquire.proofs.EditPacks.{commit_packs}
use Rattle.zorambi.proofs.enquirer.zorambi_commit.Statement.{statement}
use Rattle.zorambi.proofs.enquirer.zorambi_commit.Tie as tie

-- the state at entry
abbrev E : tie.Start → ℤ → ℤ → Editor
E c root least =
    let a = c.args in
    editor (lent a.schema.now a.proof.now a.nodes.now a.members.now (held_header a.schema_rows a.proof_rows root least a.held.now)) a.waiting.now

-- a signed number is kept as bits, and read back from them
answer_is : (c : tie.After-commit-r) → c.commit-r.result.answer ≡ editor_answer (E c.before.before.before.before.before.before.before c.args.root c.args.least) commit
answer_is c =
    c.commit-r.ensures.0 ∙ ap₂ (λ (r l : ℤ). editor_answer (E c.before.before.before.before.before.before.before r l) commit) (to_z-of_z c.ranges.root) (to_z-of_z c.ranges.least)

left_is : (c : tie.After-commit-r) →
    let a = c.args in
    editor (lent a.schema.now a.proof.now c.commit-r.new.nodes c.commit-r.new.members (header a.schema_rows a.proof_rows a.root a.least c.commit-r.result.node_rows c.commit-r.result.member_count)) c.commit-r.new.waiting ≡ edited (E c.before.before.before.before.before.before.before a.root a.least) commit
left_is c =
    let a = c.args in
    sym (ap₂ (λ (r l : ℤ). editor (lent a.schema.now a.proof.now c.commit-r.new.nodes c.commit-r.new.members (header a.schema_rows a.proof_rows r l c.commit-r.result.node_rows c.commit-r.result.member_count)) c.commit-r.new.waiting) (to_z-of_z c.ranges.root) (to_z-of_z c.ranges.least))
    ∙ c.commit-r.ensures.1
    ∙ ap₂ (λ (r l : ℤ). edited (E c.before.before.before.before.before.before.before r l) commit) (to_z-of_z c.ranges.root) (to_z-of_z c.ranges.least)

bounds-held-0 : tie.Need-bounds-held-0
bounds-held-0 c = search rules

bounds-held-1 : tie.Need-bounds-held-1
bounds-held-1 c = search rules

commit-r-requires : tie.Need-commit-r-requires
commit-r-requires c κs = search rules

growth-requires : tie.Need-growth-requires
growth-requires c κs = subst (λ (r : Growth). Packs (as_verdict r)) (sym (answer_is c.before.before.before.before.before)) (commit_packs _)

shape_of-nodes : tie.Need-shape_of-nodes
shape_of-nodes c = search rules

shape_of-members : tie.Need-shape_of-members
shape_of-members c = search rules

returns : tie.Need-returns
returns c =
    (c.growth.ensures.0 ∙ ap growth_packed (answer_is c.before.before.before.before.before.before), (c.growth.ensures.1 ∙ ap (λ (r : Growth). pos (shown_number r) ∷ []) (answer_is c.before.before.before.before.before.before), left_is c.before.before.before.before.before.before))

pub zorambi_commit_spec : {M : Type 1} → statement M
zorambi_commit_spec =
    tie.close
    (tie.spec
    bounds-held-0
    bounds-held-1
    commit-r-requires
    growth-requires
    shape_of-nodes
    shape_of-members
    returns)
