use Rattle.std.proofs.Common.{◌≡◌, [], ◌∷◌, sym, ◌∙◌, ap, subst, arith, rules, w32, to_z, of_z}
use Rattle.stab.specs.Answer.{model_numbers, packed, verdict_numbers, refused_numbers}
use Rattle.stab.specs.Entry.{model_packed, model_results, without_counts, ModelFits}
use Rattle.told.proofs.model.Goals as goal

pub of-requires : goal.of-requires
of-requires c = let h = subst ModelFits c.in-Ok.is c.requires in omega (arith, h)

pub returns-in-Ok : goal.returns-in-Ok
unfolding model_results model_numbers model_packed without_counts packed verdict_numbers refused_numbers
returns-in-Ok c =
    let e = sym c.in-Ok.is in
    let n : to_z w32 (of_z w32 c.in-Ok.h.n) ≡ c.in-Ok.h.n = search rules in
    let pairs : to_z w32 (of_z w32 c.of.result) ≡ c.of.result = search rules in
    record { value = c.pack.ensures ∙ ap model_packed e; results_after = (λ i. n i ∷ (pairs ∙ c.of.ensures) i ∷ []) ∙ ap model_results e }

pub pack-requires-in-Err : goal.pack-requires-in-Err
pack-requires-in-Err c = subst ModelFits c.in-Err.is c.requires

pub returns-in-Err : goal.returns-in-Err
unfolding model_results model_numbers model_packed without_counts packed verdict_numbers refused_numbers
returns-in-Err c =
    let e = sym c.in-Err.is in
    record { value = c.pack-in-Err.ensures ∙ ap model_packed e; results_after = ap model_results e }
