use mathlib.Core.Path.{sym, subst}
use mir.Facts.{to_z-of_z}
use Rattle.stab.specs.Answer.{Packs}
use Rattle.stab.proofs.Packed.{check_packs}
use Rattle.told.proofs.Says.{check_told}
use Rattle.zorambi.proofs.zorambi_check.Statement.{statement}
use Rattle.zorambi.proofs.zorambi_check.Tie as tie

check-requires : tie.Need-check-requires
check-requires c κs = tt

pack-requires : tie.Need-pack-requires
pack-requires c κs = subst Packs (sym c.check.ensures.0) (check_packs _)

-- a signed number is kept as bits, and read back from them
returns : tie.Need-returns
returns c =
    check_told (rw (to_z-of_z c.ranges.root, to_z-of_z c.ranges.least) at c.check.ensures.0) c.pack.ensures

pub zorambi_check_spec : {M : Type 1} → statement M
zorambi_check_spec = tie.close (tie.spec check-requires pack-requires returns)
