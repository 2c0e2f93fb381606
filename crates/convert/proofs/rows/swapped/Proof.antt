use mathlib.Core.Path.{refl}
use Rattle.convert.specs.Emission.{swapped}
use Rattle.convert.proofs.rows.swapped.Statement.{statement}
use Rattle.convert.proofs.rows.swapped.Tie as tie

returns : tie.Need-returns
unfolding swapped
returns c = refl

pub swapped_spec : {M : Type 1} → statement M
swapped_spec = tie.close (tie.spec returns)
