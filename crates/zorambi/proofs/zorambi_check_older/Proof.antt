use mathlib.Core.Path.{sym, subst}
use mir.Facts.{to_z-of_z}
use Rattle.stab.specs.Check.{check_as}
use Rattle.stab.specs.Answer.{Packs}
use Rattle.stab.proofs.Packed.{checked_packs}
use Rattle.told.proofs.Says.{older_told}
use Rattle.zorambi.proofs.zorambi_check_older.Statement.{statement}
use Rattle.zorambi.proofs.zorambi_check_older.Tie as tie

check_as-requires : tie.Need-check_as-requires
check_as-requires c κs = tt

pack-requires : tie.Need-pack-requires
pack-requires c κs = subst Packs (sym c.check_as.ensures) (checked_packs _ _)

-- a signed number is kept as bits, and read back from them
returns : tie.Need-returns
unfolding check_as
returns c =
    older_told (rw (to_z-of_z c.ranges.root, to_z-of_z c.ranges.least) at c.check_as.ensures) c.pack.ensures

pub zorambi_check_older_spec : {M : Type 1} → statement M
zorambi_check_older_spec = tie.close (tie.spec check_as-requires pack-requires returns)
