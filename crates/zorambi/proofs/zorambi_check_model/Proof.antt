use mathlib.Core.Path.{sym, subst}
use mir.Facts.{to_z-of_z}
use Rattle.stab.specs.Answer.{Packs}
use Rattle.stab.proofs.Packed.{model_packs}
use Rattle.told.proofs.Says.{model_told}
use Rattle.zorambi.proofs.zorambi_check_model.Statement.{statement}
use Rattle.zorambi.proofs.zorambi_check_model.Tie as tie

check_model-requires : tie.Need-check_model-requires
check_model-requires c κs = tt

pack-requires : tie.Need-pack-requires
pack-requires c κs = subst Packs (sym c.check_model.ensures.0) (model_packs _)

-- a signed number is kept as bits, and read back from them
returns : tie.Need-returns
returns c =
    model_told (rw (to_z-of_z c.ranges.root, to_z-of_z c.ranges.least, to_z-of_z c.ranges.n) at c.check_model.ensures.0) c.pack.ensures

pub zorambi_check_model_spec : {M : Type 1} → statement M
zorambi_check_model_spec = tie.close (tie.spec check_model-requires pack-requires returns)
