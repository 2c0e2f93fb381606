use Prim.Native.Nat.{◌≤◌}
use mathlib.Core.Path.{sym, ◌∙◌, ap, subst}
use mir.Facts.{to_z-of_z}
use borrow.Author.Rules.{rules}
use Rattle.stab.specs.Answer.{Packs}
use Rattle.found.specs.Find.{found_numbers, found_packed, found_results, found_verdict}
use Rattle.found.specs.Shown.{Shown}
use Rattle.found.proofs.Packed.{found_packs, found_fits}
use Rattle.zorambi.proofs.failing.zorambi_find_model.Statement.{statement}
use Rattle.zorambi.proofs.failing.zorambi_find_model.Tie as tie

find_model-requires : tie.Need-find_model-requires
find_model-requires c κs = tt

first_model-requires : tie.Need-first_model-requires
first_model-requires c κs =
    subst (λ (r : Shown). Packs (found_verdict r) × ((found_numbers r).pairs ≤ 16)) (sym c.find_model.ensures.0) (found_packs _, (found_fits _).pairs)

shape_of-pairs : tie.Need-shape_of-pairs
shape_of-pairs c = search rules

returns : tie.Need-returns
returns c =
    -- a signed number is kept as bits, and read back from them
    let e = rw (to_z-of_z c.ranges.root, to_z-of_z c.ranges.least, to_z-of_z c.ranges.n) at c.find_model.ensures in
    (c.first_model.ensures.0 ∙ ap found_packed e.0, (c.first_model.ensures.1 ∙ ap found_results e.0, e.1))

pub zorambi_find_model_spec : {M : Type 1} → statement M
zorambi_find_model_spec =
    tie.close (tie.spec find_model-requires first_model-requires shape_of-pairs returns)
