use Rattle.std.proofs.Common.{◌≡◌, [], ◌∷◌, sym, ◌∙◌, ap, subst, arith, rules, w32, to_z, of_z}
use Rattle.stab.specs.Answer.{schema_numbers, packed, verdict_numbers, refused_numbers}
use Rattle.stab.specs.Entry.{schema_packed, schema_results, without_counts, SchemaFits}
use Rattle.told.proofs.schema.Goals as goal

pub of-requires : goal.of-requires
of-requires c = let h = subst SchemaFits c.in-Ok.is c.requires in omega (arith, h)

pub returns-in-Ok : goal.returns-in-Ok
unfolding schema_results schema_numbers schema_packed without_counts packed verdict_numbers refused_numbers
returns-in-Ok c =
    let e = sym c.in-Ok.is in
    let root : to_z w32 (of_z w32 c.in-Ok.h.root) ≡ c.in-Ok.h.root = search rules in
    let least : to_z w32 (of_z w32 c.in-Ok.h.least) ≡ c.in-Ok.h.least = search rules in
    let rows : to_z w32 (of_z w32 c.of.result) ≡ c.of.result = search rules in
    record { value = c.pack.ensures ∙ ap schema_packed e; results_after = (λ i. root i ∷ least i ∷ (rows ∙ c.of.ensures) i ∷ []) ∙ ap schema_results e }

pub pack-requires-in-Err : goal.pack-requires-in-Err
pack-requires-in-Err c = subst SchemaFits c.in-Err.is c.requires

pub returns-in-Err : goal.returns-in-Err
unfolding schema_results schema_numbers schema_packed without_counts packed verdict_numbers refused_numbers
returns-in-Err c =
    let e = sym c.in-Err.is in
    record { value = c.pack-in-Err.ensures ∙ ap schema_packed e; results_after = ap schema_results e }
