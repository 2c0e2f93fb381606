use borrow.Author.Rules.{rules}
use mathlib.Core.Path.{◌≡◌, sym, ◌∙◌, ap, ap₂, subst}
use mathlib.Core.List.{[], ◌∷◌}
use lib.IntN.{ℤ, pos}
use mir.Facts.{to_z-of_z}
use Rattle.stab.specs.Answer.{Packs}
use Rattle.stab.specs.Lent.{lent, header}
use Rattle.growing.specs.Growing.{take_back, answered, growth_packed, shown_number}
use Rattle.growing.specs.Enquiry.{Editor, editor, editor_answer, edited, grow}
use Rattle.growing.specs.Lent.{held_header}
use Rattle.growing.specs.declared.Growth.{Growth}
use Rattle.grow.specs.Packed.{as_verdict}
use Rattle.grow.proofs.Packs.{call_packs}
use Rattle.enquire.proofs.Edits.{call_answer, held_is}
use Rattle.zorambi.proofs.grower.zorambi_take_back.Statement.{statement}
use Rattle.zorambi.proofs.grower.zorambi_take_back.Tie as tie

-- the state at entry
abbrev E : tie.Start → ℤ → ℤ → Editor
E c root least =
    let a = c.args in
    editor (lent a.schema.now a.proof.now a.nodes.now a.members.now (held_header a.schema_rows a.proof_rows root least a.held.now)) a.waiting.now

-- a signed number is kept as bits, and read back from them
answer_is : (c : tie.After-take_back-r) → c.take_back-r.result.answer ≡ answered (E c.before.before.before.before.before.before.before c.args.root c.args.least).held take_back
answer_is c =
    c.take_back-r.ensures.0
    ∙ ap₂ (λ (r l : ℤ). editor_answer (E c.before.before.before.before.before.before.before r l) (grow take_back)) (to_z-of_z c.ranges.root) (to_z-of_z c.ranges.least)
    ∙ sym (call_answer (E c.before.before.before.before.before.before.before c.args.root c.args.least) take_back)

left_is : (c : tie.After-take_back-r) →
    let a = c.args in
    editor (lent a.schema.now a.proof.now c.take_back-r.new.nodes c.take_back-r.new.members (header a.schema_rows a.proof_rows a.root a.least c.take_back-r.result.node_rows c.take_back-r.result.member_count)) c.take_back-r.new.waiting ≡ edited (E c.before.before.before.before.before.before.before a.root a.least) (grow take_back)
left_is c =
    let a = c.args in
    sym (ap₂ (λ (r l : ℤ). editor (lent a.schema.now a.proof.now c.take_back-r.new.nodes c.take_back-r.new.members (header a.schema_rows a.proof_rows r l c.take_back-r.result.node_rows c.take_back-r.result.member_count)) c.take_back-r.new.waiting) (to_z-of_z c.ranges.root) (to_z-of_z c.ranges.least))
    ∙ c.take_back-r.ensures.1
    ∙ ap₂ (λ (r l : ℤ). edited (E c.before.before.before.before.before.before.before r l) (grow take_back)) (to_z-of_z c.ranges.root) (to_z-of_z c.ranges.least)

bounds-held-0 : tie.Need-bounds-held-0
bounds-held-0 c = search rules

bounds-held-1 : tie.Need-bounds-held-1
bounds-held-1 c = search rules

take_back-r-requires : tie.Need-take_back-r-requires
take_back-r-requires c κs = search rules

growth-requires : tie.Need-growth-requires
growth-requires c κs = subst (λ (r : Growth). Packs (as_verdict r)) (sym (answer_is c.before.before.before.before.before)) (call_packs _ _)

shape_of-nodes : tie.Need-shape_of-nodes
shape_of-nodes c = search rules

shape_of-members : tie.Need-shape_of-members
shape_of-members c = search rules

returns : tie.Need-returns
returns c =
    (c.growth.ensures.0 ∙ ap growth_packed (answer_is c.before.before.before.before.before.before), (c.growth.ensures.1 ∙ ap (λ (r : Growth). pos (shown_number r) ∷ []) (answer_is c.before.before.before.before.before.before), (ap (λ (F : Editor). F.held) (left_is c.before.before.before.before.before.before) ∙ held_is (E c.before.before.before.before.before.before.before.before.before.before.before.before.before c.args.root c.args.least) take_back, ap (λ (F : Editor). F.waiting) (left_is c.before.before.before.before.before.before))))

pub zorambi_take_back_spec : {M : Type 1} → statement M
zorambi_take_back_spec =
    tie.close
    (tie.spec
    bounds-held-0
    bounds-held-1
    take_back-r-requires
    growth-requires
    shape_of-nodes
    shape_of-members
    returns)
