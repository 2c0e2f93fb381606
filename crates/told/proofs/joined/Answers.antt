use Rattle.std.proofs.Common.{◌≡◌, [], ◌∷◌, sym, ◌∙◌, ap, rules, w32, to_z, of_z}
use Rattle.stab.specs.Answer.{packed, verdict_numbers, refused_numbers}
use Rattle.joint.specs.Joint.{joined_numbers, joined_packed, joined_results}
use Rattle.told.proofs.joined.Goals as goal

pub returns-in-Ok : goal.returns-in-Ok
unfolding joined_results joined_numbers joined_packed packed verdict_numbers refused_numbers
returns-in-Ok c =
    let e = sym c.in-Ok.is in
    let root : to_z w32 (of_z w32 c.in-Ok.h.root) ≡ c.in-Ok.h.root = search rules in
    let least : to_z w32 (of_z w32 c.in-Ok.h.least) ≡ c.in-Ok.h.least = search rules in
    let schema : to_z w32 (of_z w32 c.of.result) ≡ c.of.result = search rules in
    let proof : to_z w32 (of_z w32 c.of-in-Ok.result) ≡ c.of-in-Ok.result = search rules in
    let nodes : to_z w32 (of_z w32 c.of-in-Ok-2.result) ≡ c.of-in-Ok-2.result = search rules in
    let members : to_z w32 (of_z w32 c.of-in-Ok-3.result) ≡ c.of-in-Ok-3.result = search rules in
    record { value = c.pack.ensures ∙ ap joined_packed e; results_after = (λ i. root i ∷ least i ∷ (schema ∙ c.of.ensures) i ∷ (proof ∙ c.of-in-Ok.ensures) i ∷ (nodes ∙ c.of-in-Ok-2.ensures) i ∷ (members ∙ c.of-in-Ok-3.ensures) i ∷ []) ∙ ap joined_results e }

pub returns-in-Err : goal.returns-in-Err
unfolding joined_results joined_numbers joined_packed packed verdict_numbers refused_numbers
returns-in-Err c =
    let e = sym c.in-Err.is in
    record { value = c.pack-in-Err.ensures ∙ ap joined_packed e; results_after = ap joined_results e }
