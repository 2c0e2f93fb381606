use mir.Facts.{to_z-of_z}
use Rattle.signed.proofs.Signs.{mirrored_fits}
use Rattle.signed.proofs.mirrored.Statement.{statement}
use Rattle.signed.proofs.mirrored.Tie as tie

overflow_sub-result : tie.Need-overflow_sub-result
overflow_sub-result c = rw (to_z-of_z c.ranges.z) (mirrored_fits c.args.z c.ranges.z)

returns : tie.Need-returns
returns c = rw (to_z-of_z c.ranges.z) (to_z-of_z (mirrored_fits c.args.z c.ranges.z))

pub mirrored_spec : {M : Type 1} → statement M
mirrored_spec = tie.close (tie.spec overflow_sub-result returns)
