use Rattle.std.proofs.Common.{◌≡◌, [], ◌∷◌, sym, ◌∙◌, rules, w32, to_z, of_z}
use Rattle.growing.specs.Growing.{shown_number}
use Rattle.grow.proofs.Packs.{packed_is}
use Rattle.told.proofs.growth.Goals as goal

pub returns : goal.returns
unfolding shown_number
returns c =
    let told : to_z w32 (of_z w32 c.closed_number.result) ≡ c.closed_number.result = search rules in
    record { value = c.pack.ensures ∙ sym (packed_is c.args.r); shown_after = λ i. (told ∙ c.closed_number.ensures) i ∷ [] }
