use Rattle.std.proofs.Common.{◌≡◌, [], ◌∷◌, sym, ◌∙◌, ap, subst, arith, rules, w32, to_z, of_z}
use Rattle.stab.specs.Answer.{proof_numbers, packed, verdict_numbers, refused_numbers}
use Rattle.stab.specs.Entry.{proof_packed, proof_results, without_counts, ProofFits}
use Rattle.told.proofs.proof.Goals as goal

pub of-requires : goal.of-requires
of-requires c = let h = subst ProofFits c.in-Ok.is c.requires in omega (arith, h)

pub of-requires-in-Ok : goal.of-requires-in-Ok
of-requires-in-Ok c = let h = subst ProofFits c.in-Ok.is c.requires in omega (arith, h)

pub of-requires-in-Ok-2 : goal.of-requires-in-Ok-2
of-requires-in-Ok-2 c = let h = subst ProofFits c.in-Ok.is c.requires in omega (arith, h)

pub returns-in-Ok : goal.returns-in-Ok
unfolding proof_results proof_numbers proof_packed without_counts packed verdict_numbers refused_numbers
returns-in-Ok c =
    let e = sym c.in-Ok.is in
    let rows : to_z w32 (of_z w32 c.of.result) ≡ c.of.result = search rules in
    let nodes : to_z w32 (of_z w32 c.of-in-Ok.result) ≡ c.of-in-Ok.result = search rules in
    let members : to_z w32 (of_z w32 c.of-in-Ok-2.result) ≡ c.of-in-Ok-2.result = search rules in
    record { value = c.pack.ensures ∙ ap proof_packed e; results_after = (λ i. (rows ∙ c.of.ensures) i ∷ (nodes ∙ c.of-in-Ok.ensures) i ∷ (members ∙ c.of-in-Ok-2.ensures) i ∷ []) ∙ ap proof_results e }

pub pack-requires-in-Err : goal.pack-requires-in-Err
pack-requires-in-Err c = subst ProofFits c.in-Err.is c.requires

pub returns-in-Err : goal.returns-in-Err
unfolding proof_results proof_numbers proof_packed without_counts packed verdict_numbers refused_numbers
returns-in-Err c =
    let e = sym c.in-Err.is in
    record { value = c.pack-in-Err.ensures ∙ ap proof_packed e; results_after = ap proof_results e }
