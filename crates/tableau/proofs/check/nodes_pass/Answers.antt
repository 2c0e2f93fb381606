-- Sets, then that there are enough nodes, then parents.
use Rattle.std.proofs.Common.{◌≡◌, ℕ, ℤ, refl, sym, ◌∙◌, ap, not, ltb, Err, rules, w32, to_z, of_z}
use Rattle.std.proofs.lemmas.Result.{err_from_is_err_and}
use Rattle.stab.specs.Basic.{◌implies◌, scan}
use Rattle.stab.specs.Lent.{lent}
use Rattle.stab.specs.Check.{set_refusal, enough_nodes}
use Rattle.stab.specs.Finding.{no_refusal}
use Rattle.stab.specs.declared.Refusal.TheVariants.{Parent}
use Rattle.stab.proofs.Bools.{asked_false, asked_true}
use Rattle.stab.proofs.Findings.{stays, later}
use Rattle.signed.proofs.Signs.{read_back}
use Rattle.sets.specs.Faults.{set_fault, parent_fault}
use Rattle.sets.proofs.Faults.{sets_refusal, parents_refusal}
use Rattle.sets.proofs.SetRefusals.{sets_known, set_within}
use Rattle.tableau.specs.Passes.{nodes_refusal}
use Rattle.tableau.proofs.CheckLaws.{whole_found, whole_passes}
use Rattle.tableau.proofs.check.nodes_pass.Goals as goal

pub returns-in_err-sets : goal.returns-in_err-sets
unfolding nodes_refusal
returns-in_err-sets c =
    let a = c.args in
    let T = lent a.schema.now a.proof.now a.nodes.now a.members.now a.h in
    let p = err_from_is_err_and c.from_residual.result c.from_residual.ensures.1 in
    let found = c.in_err-sets.ensures ∙ ap (λ (n : ℕ). scan (set_fault a.facts.now n a.nodes.now a.h.node_rows a.members.now a.h.member_count) a.h.node_rows) c.row_count.ensures ∙ sets_refusal T _ c.requires.all_known a.h.node_rows in
    rw (p.1, p.2) (stays _ _ _ _ _ found refl)

pub returns-then-not-enough : goal.returns-then-not-enough
unfolding nodes_refusal enough_nodes
returns-then-not-enough c =
    let a = c.args in
    let T = lent a.schema.now a.proof.now a.nodes.now a.members.now a.h in
    let passed : scan (set_refusal T) a.h.node_rows ≡ no_refusal =
    sym (c.in_ok-sets.ensures ∙ ap (λ (n : ℕ). scan (set_fault a.facts.now n a.nodes.now a.h.node_rows a.members.now a.h.member_count) a.h.node_rows) c.row_count.ensures ∙ sets_refusal T _ c.requires.all_known a.h.node_rows) in
    ap Err c.whole.ensures
    ∙ later _ _ _ passed (whole_found (a.whole implies ltb 0 a.h.node_rows) Parent _ (asked_false c.enough.ensures (ap not c.if-not-enough.true)))

pub parents-requires : goal.parents-requires
parents-requires c =
    let a = c.args in
    let T = lent a.schema.now a.proof.now a.nodes.now a.members.now a.h in
    let passed : scan (set_refusal T) a.h.node_rows ≡ no_refusal =
    sym (c.in_ok-sets.ensures ∙ ap (λ (n : ℕ). scan (set_fault a.facts.now n a.nodes.now a.h.node_rows a.members.now a.h.member_count) a.h.node_rows) c.row_count.ensures ∙ sets_refusal T _ c.requires.all_known a.h.node_rows) in
    (c.requires.proof_rows_bound.2, λ j l. set_within T j (sets_known T a.h.node_rows passed j l) c.requires.proof_rows_bound.3)

pub returns : goal.returns
unfolding nodes_refusal enough_nodes
returns c =
    let a = c.args in
    let T = lent a.schema.now a.proof.now a.nodes.now a.members.now a.h in
    let passed : scan (set_refusal T) a.h.node_rows ≡ no_refusal =
    sym (c.in_ok-sets.ensures ∙ ap (λ (n : ℕ). scan (set_fault a.facts.now n a.nodes.now a.h.node_rows a.members.now a.h.member_count) a.h.node_rows) c.row_count.ensures ∙ sets_refusal T _ c.requires.all_known a.h.node_rows) in
    let root : to_z w32 (of_z w32 a.h.root) ≡ a.h.root = search (rules, read_back) in
    later _ _ _ passed
    (later _ _ _ (whole_passes (a.whole implies ltb 0 a.h.node_rows) Parent (asked_true c.enough.ensures (ap not c.if-not-enough.false)))
    (c.parents.ensures
    ∙ ap (λ (r : ℤ). scan (parent_fault a.nodes.now a.members.now r) a.h.node_rows) root
    ∙ parents_refusal T a.h.node_rows))
