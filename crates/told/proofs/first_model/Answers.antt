use Rattle.std.proofs.Common.{◌≡◌, ◌≤◌, [], ◌∷◌, sym, ◌∙◌, ap, subst, arith, rules, w32, to_z, of_z, Ok, Some, None}
use Rattle.found.specs.Shown.{Shown}
use Rattle.found.specs.Find.{found_numbers, found_packed, found_results}
use Rattle.found.proofs.Packed.{packed_as}
use Rattle.told.proofs.first_model.Goals as goal

pub of-requires : goal.of-requires
unfolding found_numbers
of-requires c =
    let e : c.args.first ≡ Ok (Some c.in-Ok-Some.model) = search rules in
    let h = subst (λ (r : Shown). (found_numbers r).pairs ≤ 16) e c.requires.1 in
    omega (arith, h)

pub returns-in-Ok-Some : goal.returns-in-Ok-Some
unfolding found_results found_numbers
returns-in-Ok-Some c =
    let e : c.args.first ≡ Ok (Some c.in-Ok-Some.model) = search rules in
    let n : to_z w32 (of_z w32 c.in-Ok-Some.model.n) ≡ c.in-Ok-Some.model.n = search rules in
    let pairs : to_z w32 (of_z w32 c.of.result) ≡ c.of.result = search rules in
    record {
      value = c.pack.ensures ∙ sym (packed_as _) ∙ ap found_packed (sym e);
      results_after = (λ i. n i ∷ (pairs ∙ c.of.ensures) i ∷ []) ∙ ap found_results (sym e);
    }

pub returns-in-Ok-None : goal.returns-in-Ok-None
unfolding found_results found_numbers
returns-in-Ok-None c =
    let e : c.args.first ≡ Ok None = search rules in
    record { value = c.pack-in-Ok-None.ensures ∙ sym (packed_as _) ∙ ap found_packed (sym e); results_after = ap found_results (sym e) }

pub returns-in-Err : goal.returns-in-Err
unfolding found_results found_numbers
returns-in-Err c =
    let e = sym c.in-Err.is in
    record { value = c.pack-in-Err.ensures ∙ sym (packed_as _) ∙ ap found_packed e; results_after = ap found_results e }
