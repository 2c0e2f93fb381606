use native.Mathlib.Omega.{arith}
use Rattle.stab.specs.Entry.{texts_packed}
use Rattle.stab.proofs.Entries.{packed_below, fault_below}
use Rattle.told.proofs.texts.Statement.{statement}
use Rattle.told.proofs.texts.Tie as tie

pack-number-requires : tie.Need-pack-number-requires
pack-number-requires c κs = c.requires.0

fault-requires : tie.Need-fault-requires
fault-requires c κs = c.requires.1

overflow_mul-result : tie.Need-overflow_mul-result
overflow_mul-result c =
    omega (arith, c.fault.ensures, fault_below c.args.f c.requires.1)

overflow_add-result : tie.Need-overflow_add-result
overflow_add-result c =
    omega (arith, c.fault.ensures, fault_below c.args.f c.requires.1, c.pack-number.ensures, packed_below c.args.v c.requires.0)

returns : tie.Need-returns
unfolding texts_packed
returns c = omega (arith, c.fault.ensures, c.pack-number.ensures)

pub texts_spec : {M : Type 1} → statement M
texts_spec = tie.close (tie.spec pack-number-requires fault-requires overflow_mul-result overflow_add-result returns)
