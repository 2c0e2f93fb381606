use borrow.Author.Rules.{rules}
use mathlib.Core.Path.{◌≡◌, sym, ◌∙◌, ap, ap₂, subst}
use mathlib.Core.List.{[], ◌∷◌}
use lib.IntN.{ℤ, pos}
use mir.Facts.{to_z-of_z}
use Rattle.stab.specs.Answer.{Packs}
use Rattle.stab.specs.Lent.{lent, header}
use Rattle.stab.specs.Node.{Tableau}
use Rattle.growing.specs.Growing.{begin_answer, growth_packed, shown_number}
use Rattle.growing.specs.Enquiry.{editor, opened}
use Rattle.growing.specs.Lent.{held_header}
use Rattle.growing.specs.declared.Growth.{Growth}
use Rattle.grow.specs.Packed.{as_verdict}
use Rattle.grow.proofs.Packs.{begin_packs}
use Rattle.zorambi.proofs.grower.zorambi_begin.Statement.{statement}
use Rattle.zorambi.proofs.grower.zorambi_begin.Tie as tie

-- the state at entry
abbrev T : tie.Start → ℤ → ℤ → Tableau
T c root least =
    let a = c.args in
    lent a.schema.now a.proof.now a.nodes.now a.members.now (held_header a.schema_rows a.proof_rows root least a.held.now)

-- a signed number is kept as bits, and read back from them
answer_is : (c : tie.After-begin-r) → c.begin-r.result.answer ≡ begin_answer (T c.before.before.before.before.before.before.before c.args.root c.args.least)
answer_is c =
    c.begin-r.ensures.0 ∙ ap₂ (λ (r l : ℤ). begin_answer (T c.before.before.before.before.before.before.before r l)) (to_z-of_z c.ranges.root) (to_z-of_z c.ranges.least)

left_is : (c : tie.After-begin-r) →
    let a = c.args in
    editor (lent a.schema.now a.proof.now c.begin-r.new.nodes c.begin-r.new.members (header a.schema_rows a.proof_rows a.root a.least c.begin-r.result.node_rows c.begin-r.result.member_count)) c.begin-r.new.waiting ≡ opened (T c.before.before.before.before.before.before.before a.root a.least)
left_is c =
    let a = c.args in
    sym (ap₂ (λ (r l : ℤ). editor (lent a.schema.now a.proof.now c.begin-r.new.nodes c.begin-r.new.members (header a.schema_rows a.proof_rows r l c.begin-r.result.node_rows c.begin-r.result.member_count)) c.begin-r.new.waiting) (to_z-of_z c.ranges.root) (to_z-of_z c.ranges.least))
    ∙ c.begin-r.ensures.1
    ∙ ap₂ (λ (r l : ℤ). opened (T c.before.before.before.before.before.before.before r l)) (to_z-of_z c.ranges.root) (to_z-of_z c.ranges.least)

bounds-held-0 : tie.Need-bounds-held-0
bounds-held-0 c = search rules

bounds-held-1 : tie.Need-bounds-held-1
bounds-held-1 c = search rules

begin-r-requires : tie.Need-begin-r-requires
begin-r-requires c κs = search rules

growth-requires : tie.Need-growth-requires
growth-requires c κs = subst (λ (r : Growth). Packs (as_verdict r)) (sym (answer_is c.before.before.before.before.before)) (begin_packs _)

shape_of-nodes : tie.Need-shape_of-nodes
shape_of-nodes c = search rules

shape_of-members : tie.Need-shape_of-members
shape_of-members c = search rules

returns : tie.Need-returns
returns c =
    (c.growth.ensures.0 ∙ ap growth_packed (answer_is c.before.before.before.before.before.before), (c.growth.ensures.1 ∙ ap (λ (r : Growth). pos (shown_number r) ∷ []) (answer_is c.before.before.before.before.before.before), left_is c.before.before.before.before.before.before))

pub zorambi_begin_spec : {M : Type 1} → statement M
zorambi_begin_spec =
    tie.close
    (tie.spec
    bounds-held-0
    bounds-held-1
    begin-r-requires
    growth-requires
    shape_of-nodes
    shape_of-members
    returns)
