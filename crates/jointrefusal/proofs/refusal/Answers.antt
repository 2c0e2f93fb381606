-- A faulty record, the first before the second; then 28; then 29.
use Rattle.std.proofs.Common.{◌≡◌, refl, sym, ◌∙◌, ap, not, true, arith, rules, w32, to_z, of_z, Err}
use mathlib.Core.Path.{ap₂}
use Rattle.std.proofs.lemmas.Result.{err_from_is_err_and}
use Rattle.stab.specs.Basic.{eq_z}
use Rattle.stab.specs.Lent.{lent}
use Rattle.stab.specs.Check.{whole_unless, present_mode}
use Rattle.stab.specs.Check.{refusal as refusal_in}
use Rattle.stab.specs.Finding.{no_refusal}
use Rattle.stab.proofs.Bools.{nothing_unless, found_unless, otherwise_found, asked_false, asked_true}
use Rattle.stab.proofs.Exactness.Refusals.{accepted_finds, refused_finds}
use Rattle.stab.proofs.Findings.{stays, later}
use Rattle.stab.proofs.Whole.{eq_z_true}
use Rattle.signed.proofs.Signs.{read_back}
use Rattle.jointrefusal.specs.Before.{sizes_fit, found_before}
use Rattle.jointrefusal.proofs.Before.{keeps, few_rows, schema_passes, sizes_are}
use Rattle.jointrefusal.proofs.refusal.Goals as goal

pub returns-in_err-check : goal.returns-in_err-check
unfolding found_before
returns-in_err-check c =
    let a = c.args in
    let A = lent a.first_schema.now a.first_proof.now a.first_nodes.now a.first_members.now a.first in
    let B = lent a.second_schema.now a.second_proof.now a.second_nodes.now a.second_members.now a.second in
    let p = err_from_is_err_and c.from_residual.result c.from_residual.ensures.1 in
    rw (p.1, p.2) (stays _ _ _ _ _ (sym (refused_finds A _ _ (sym c.in_err-check.ensures.value))) refl)

pub returns-in_err-check-2 : goal.returns-in_err-check-2
unfolding found_before
returns-in_err-check-2 c =
    let a = c.args in
    let A = lent a.first_schema.now a.first_proof.now a.first_nodes.now a.first_members.now a.first in
    let B = lent a.second_schema.now a.second_proof.now a.second_nodes.now a.second_members.now a.second in
    let first : refusal_in present_mode A ≡ no_refusal = accepted_finds A _ _ (sym c.in_ok-check.ensures.value) in
    let p = err_from_is_err_and c.from_residual-in_err-check-2.result c.from_residual-in_err-check-2.ensures.1 in
    rw (p.1, p.2) (later _ _ _ first (stays _ _ _ _ _ (sym (refused_finds B _ _ (sym c.in_err-check-2.ensures.value))) refl))

pub returns-then-not-equal : goal.returns-then-not-equal
unfolding found_before whole_unless
returns-then-not-equal c =
    let a = c.args in
    let A = lent a.first_schema.now a.first_proof.now a.first_nodes.now a.first_members.now a.first in
    let B = lent a.second_schema.now a.second_proof.now a.second_nodes.now a.second_members.now a.second in
    let first : refusal_in present_mode A ≡ no_refusal = accepted_finds A _ _ (sym c.in_ok-check.ensures.value) in
    let second : refusal_in present_mode B ≡ no_refusal = accepted_finds B _ _ (sym c.in_ok-check-2.ensures.value) in
    let p : to_z w32 (of_z w32 a.first.least) ≡ a.first.least = search (rules, read_back) in
    let q : to_z w32 (of_z w32 a.second.least) ≡ a.second.least = search (rules, read_back) in
    let asked : c.equal.result ≡ eq_z a.first.least a.second.least = c.equal.ensures ∙ ap₂ eq_z p q in
    ap Err c.whole.ensures
    ∙ later _ _ _ first (later _ _ _ second (sym (otherwise_found _ _ (found_unless _ _ _ (asked_false asked (ap not c.if-not-equal.true))))))

pub both_fit-requires : goal.both_fit-requires
both_fit-requires c =
    let a = c.args in
    let A = lent a.first_schema.now a.first_proof.now a.first_nodes.now a.first_members.now a.first in
    let B = lent a.second_schema.now a.second_proof.now a.second_nodes.now a.second_members.now a.second in
    let first : refusal_in present_mode A ≡ no_refusal = accepted_finds A _ _ (sym c.in_ok-check.ensures.value) in
    let second : refusal_in present_mode B ≡ no_refusal = accepted_finds B _ _ (sym c.in_ok-check-2.ensures.value) in
    let K = (keeps A first).older in
    let L = (keeps B second).older in
    record {
      schema_rows_bound = (omega (arith, few_rows A K), K.tables.node_limit, K.tables.schema_held);
      schema_rows_bound_2 = (omega (arith, few_rows B L), L.tables.node_limit, L.tables.schema_held);
      first_value = schema_passes A K;
      second_value = schema_passes B L;
    }

pub returns-then-not-both_fit : goal.returns-then-not-both_fit
unfolding found_before whole_unless sizes_fit
returns-then-not-both_fit c =
    let a = c.args in
    let A = lent a.first_schema.now a.first_proof.now a.first_nodes.now a.first_members.now a.first in
    let B = lent a.second_schema.now a.second_proof.now a.second_nodes.now a.second_members.now a.second in
    let first : refusal_in present_mode A ≡ no_refusal = accepted_finds A _ _ (sym c.in_ok-check.ensures.value) in
    let second : refusal_in present_mode B ≡ no_refusal = accepted_finds B _ _ (sym c.in_ok-check-2.ensures.value) in
    let p : to_z w32 (of_z w32 a.first.least) ≡ a.first.least = search (rules, read_back) in
    let q : to_z w32 (of_z w32 a.second.least) ≡ a.second.least = search (rules, read_back) in
    let asked : c.equal.result ≡ eq_z a.first.least a.second.least = c.equal.ensures ∙ ap₂ eq_z p q in
    let same : eq_z a.first.least a.second.least ≡ true = asked_true asked (ap not c.if-not-equal.false) in
    let fit = c.both_fit.ensures ∙ sizes_are A B (keeps _ first) (keeps _ second) (eq_z_true _ _ same) in
    ap Err c.whole-then-not-both_fit.ensures
    ∙ later _ _ _ first (later _ _ _ second (later _ _ _ (nothing_unless _ _ _ same) (sym (found_unless _ _ _ (asked_false fit (ap not c.if-not-both_fit.true))))))

pub returns : goal.returns
unfolding found_before whole_unless sizes_fit
returns c =
    let a = c.args in
    let A = lent a.first_schema.now a.first_proof.now a.first_nodes.now a.first_members.now a.first in
    let B = lent a.second_schema.now a.second_proof.now a.second_nodes.now a.second_members.now a.second in
    let first : refusal_in present_mode A ≡ no_refusal = accepted_finds A _ _ (sym c.in_ok-check.ensures.value) in
    let second : refusal_in present_mode B ≡ no_refusal = accepted_finds B _ _ (sym c.in_ok-check-2.ensures.value) in
    let p : to_z w32 (of_z w32 a.first.least) ≡ a.first.least = search (rules, read_back) in
    let q : to_z w32 (of_z w32 a.second.least) ≡ a.second.least = search (rules, read_back) in
    let asked : c.equal.result ≡ eq_z a.first.least a.second.least = c.equal.ensures ∙ ap₂ eq_z p q in
    let same : eq_z a.first.least a.second.least ≡ true = asked_true asked (ap not c.if-not-equal.false) in
    let fit = c.both_fit.ensures ∙ sizes_are A B (keeps _ first) (keeps _ second) (eq_z_true _ _ same) in
    later _ _ _ first (later _ _ _ second (later _ _ _ (nothing_unless _ _ _ same) (sym (nothing_unless _ _ _ (asked_true fit (ap not c.if-not-both_fit.false))))))
