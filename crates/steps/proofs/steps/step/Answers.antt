-- Each return is one case of what is found of a node: the tests before it hold, and it does not.
use Rattle.std.proofs.Common.{◌∙◌, ap, not, Err, arith, ◌≡◌, true, ◌<◌, ◌^◌}
use Rattle.stab.specs.Node.{node, row, rows, row_count, bound, formula}
use Rattle.stab.specs.Rule.{drawn, fields_fit, target_fits, bound_fits, partners_fit, is_instance, lowered_fits}
use Rattle.stab.specs.Lent.{lent}
use Rattle.stab.proofs.Bools.{asked_false, asked_true}
use Rattle.fields.proofs.FieldParts.{fields_known_lem, fields_bare}
use Rattle.steps.proofs.ReadyLaws.{set_held_lem, set_of_rows_lem, child_known_lem, target_less}
use Rattle.steps.proofs.StepLaws.{drawn_found, fields_found, target_found, bound_found, partner_found, lowered_found, nothing_found}
use Rattle.steps.proofs.steps.step.Goals as goal

pub drawn_fits-requires-clause-child_known : goal.drawn_fits-requires-clause-child_known
drawn_fits-requires-clause-child_known c =
    let a = c.args in
    let T = lent a.schema.now a.proof.now a.nodes.now a.members.now a.h in
    λ q. child_known_lem T _ _ _ c.requires.ready _ q c.requires.j_bound

pub returns-then-not-drawn_fits-clause-value : goal.returns-then-not-drawn_fits-clause-value
unfolding drawn target_fits bound_fits bound partners_fit lowered_fits is_instance formula row rows row_count node
returns-then-not-drawn_fits-clause-value c =
    let a = c.args in
    let T = lent a.schema.now a.proof.now a.nodes.now a.members.now a.h in
    ap Err c.at.ensures ∙ drawn_found T _ (asked_false c.drawn_fits.ensures (ap not c.if-not-drawn_fits.true))

pub fields_fit-requires-clause-j_bound : goal.fields_fit-requires-clause-j_bound
unfolding row_count
fields_fit-requires-clause-j_bound c = (omega (arith, c.requires.j_bound, c.requires.ready.node_limit), c.requires.ready.compared.few)

pub fields_fit-requires-clause-set_held : goal.fields_fit-requires-clause-set_held
fields_fit-requires-clause-set_held c =
    let a = c.args in
    let T = lent a.schema.now a.proof.now a.nodes.now a.members.now a.h in
    set_held_lem T _ _ _ c.requires.ready _ c.requires.j_bound

pub returns-then-not-fields_fit-clause-value : goal.returns-then-not-fields_fit-clause-value
unfolding drawn target_fits bound_fits bound partners_fit lowered_fits is_instance formula row rows row_count node
returns-then-not-fields_fit-clause-value c =
    let a = c.args in
    let T = lent a.schema.now a.proof.now a.nodes.now a.members.now a.h in
    let drawn : drawn T a.j ≡ true = asked_true c.drawn_fits.ensures (ap not c.if-not-drawn_fits.false) in
    ap Err c.at-then-not-fields_fit.ensures ∙ fields_found T _ drawn (asked_false c.fields_fit.ensures (ap not c.if-not-fields_fit.true))

pub returns-then-not-target_fits-clause-value : goal.returns-then-not-target_fits-clause-value
unfolding drawn target_fits bound_fits bound partners_fit lowered_fits is_instance formula row rows row_count node
returns-then-not-target_fits-clause-value c =
    let a = c.args in
    let T = lent a.schema.now a.proof.now a.nodes.now a.members.now a.h in
    let drawn : drawn T a.j ≡ true = asked_true c.drawn_fits.ensures (ap not c.if-not-drawn_fits.false) in
    let fields : fields_fit T a.j ≡ true = asked_true c.fields_fit.ensures (ap not c.if-not-fields_fit.false) in
    ap Err c.at-then-not-target_fits.ensures ∙ target_found T _ drawn fields (asked_false c.target_fits.ensures (ap not c.if-not-target_fits.true))

pub bound_fits-requires : goal.bound_fits-requires
unfolding drawn target_fits bound_fits bound partners_fit lowered_fits is_instance formula row rows row_count node
bound_fits-requires c =
    let a = c.args in
    let T = lent a.schema.now a.proof.now a.nodes.now a.members.now a.h in
    let fields : fields_fit T a.j ≡ true = asked_true c.fields_fit.ensures (ap not c.if-not-fields_fit.false) in
    let target : target_fits T a.j ≡ true = asked_true c.target_fits.ensures (ap not c.if-not-target_fits.false) in
    let r = c.requires.ready in
    record {
      j_bound = (c.requires.j_bound, r.node_limit, r.compared.few);
      fields_known = fields_bare _ _ _ _ _ _ (fields_known_lem T _ fields);
      all_formed = r.compared.formed;
      all_worked = r.worked;
      j_bound_2 = target_less T _ target;
    }

pub returns-then-not-bound_fits-clause-value : goal.returns-then-not-bound_fits-clause-value
unfolding drawn target_fits bound_fits bound partners_fit lowered_fits is_instance formula row rows row_count node
returns-then-not-bound_fits-clause-value c =
    let a = c.args in
    let T = lent a.schema.now a.proof.now a.nodes.now a.members.now a.h in
    let drawn : drawn T a.j ≡ true = asked_true c.drawn_fits.ensures (ap not c.if-not-drawn_fits.false) in
    let fields : fields_fit T a.j ≡ true = asked_true c.fields_fit.ensures (ap not c.if-not-fields_fit.false) in
    let target : target_fits T a.j ≡ true = asked_true c.target_fits.ensures (ap not c.if-not-target_fits.false) in
    ap Err c.at-then-not-bound_fits.ensures ∙ bound_found T _ drawn fields target (asked_false c.bound_fits.ensures (ap not c.if-not-bound_fits.true))

pub partners_fit-requires : goal.partners_fit-requires
unfolding drawn target_fits bound_fits bound partners_fit lowered_fits is_instance formula row rows row_count node
partners_fit-requires c =
    let a = c.args in
    let T = lent a.schema.now a.proof.now a.nodes.now a.members.now a.h in
    let fields : fields_fit T a.j ≡ true = asked_true c.fields_fit.ensures (ap not c.if-not-fields_fit.false) in
    let r = c.requires.ready in
    record {
      j_bound = omega (arith, c.requires.j_bound, r.node_limit);
      fields_known = fields_bare _ _ _ _ _ _ (fields_known_lem T _ fields);
      all_known = r.known;
      ready = r.compared;
      remembers = c.requires.remembers;
    }

pub returns-then-not-partners_fit-clause-value : goal.returns-then-not-partners_fit-clause-value
unfolding drawn target_fits bound_fits bound partners_fit lowered_fits is_instance formula row rows row_count node
returns-then-not-partners_fit-clause-value c =
    let a = c.args in
    let T = lent a.schema.now a.proof.now a.nodes.now a.members.now a.h in
    let drawn : drawn T a.j ≡ true = asked_true c.drawn_fits.ensures (ap not c.if-not-drawn_fits.false) in
    let fields : fields_fit T a.j ≡ true = asked_true c.fields_fit.ensures (ap not c.if-not-fields_fit.false) in
    let target : target_fits T a.j ≡ true = asked_true c.target_fits.ensures (ap not c.if-not-target_fits.false) in
    let bound : bound_fits T a.j ≡ true = asked_true c.bound_fits.ensures (ap not c.if-not-bound_fits.false) in
    ap Err c.at-then-not-partners_fit.ensures ∙ partner_found T _ drawn fields target bound (asked_false c.partners_fit.ensures.value (ap not c.if-not-partners_fit.true))

pub lowered_fits-requires : goal.lowered_fits-requires
unfolding drawn target_fits bound_fits bound partners_fit lowered_fits is_instance formula row rows row_count node
lowered_fits-requires c =
    let a = c.args in
    let T = lent a.schema.now a.proof.now a.nodes.now a.members.now a.h in
    let target : target_fits T a.j ≡ true = asked_true c.target_fits.ensures (ap not c.if-not-target_fits.false) in
    let r = c.requires.ready in
    let small : a.j < 2 ^ 32 = omega (arith, c.requires.j_bound, r.node_limit) in
    record {
      j_bound = small;
      compared = r.compared;
      set_of_rows = set_of_rows_lem T _ _ _ r _ c.requires.j_bound;
      j_bound_2 = λ h. (let l = target_less T _ target h in (omega (arith, l, small), set_of_rows_lem T _ _ _ r _ (omega (arith, l, c.requires.j_bound))));
      remembers = (c.partners_fit.ensures.remembers_2, omega (arith, c.partners_fit.auto.agreed, c.requires.remembers.1));
    }

pub returns-then-not-lowered_fits-clause-value : goal.returns-then-not-lowered_fits-clause-value
unfolding drawn target_fits bound_fits bound partners_fit lowered_fits is_instance formula row rows row_count node
returns-then-not-lowered_fits-clause-value c =
    let a = c.args in
    let T = lent a.schema.now a.proof.now a.nodes.now a.members.now a.h in
    let drawn : drawn T a.j ≡ true = asked_true c.drawn_fits.ensures (ap not c.if-not-drawn_fits.false) in
    let fields : fields_fit T a.j ≡ true = asked_true c.fields_fit.ensures (ap not c.if-not-fields_fit.false) in
    let target : target_fits T a.j ≡ true = asked_true c.target_fits.ensures (ap not c.if-not-target_fits.false) in
    let bound : bound_fits T a.j ≡ true = asked_true c.bound_fits.ensures (ap not c.if-not-bound_fits.false) in
    let partners : partners_fit T a.j ≡ true = asked_true c.partners_fit.ensures.value (ap not c.if-not-partners_fit.false) in
    ap Err c.at-then-not-lowered_fits.ensures ∙ lowered_found T _ drawn fields target bound partners (asked_false c.lowered_fits.ensures.value (ap not c.if-not-lowered_fits.true))

pub returns-clause-value : goal.returns-clause-value
unfolding drawn target_fits bound_fits bound partners_fit lowered_fits is_instance formula row rows row_count node
returns-clause-value c =
    let a = c.args in
    let T = lent a.schema.now a.proof.now a.nodes.now a.members.now a.h in
    let drawn : drawn T a.j ≡ true = asked_true c.drawn_fits.ensures (ap not c.if-not-drawn_fits.false) in
    let fields : fields_fit T a.j ≡ true = asked_true c.fields_fit.ensures (ap not c.if-not-fields_fit.false) in
    let target : target_fits T a.j ≡ true = asked_true c.target_fits.ensures (ap not c.if-not-target_fits.false) in
    let bound : bound_fits T a.j ≡ true = asked_true c.bound_fits.ensures (ap not c.if-not-bound_fits.false) in
    let partners : partners_fit T a.j ≡ true = asked_true c.partners_fit.ensures.value (ap not c.if-not-partners_fit.false) in
    nothing_found T _ drawn fields target bound partners (asked_true c.lowered_fits.ensures.value (ap not c.if-not-lowered_fits.false))
