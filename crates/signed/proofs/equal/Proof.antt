use Rattle.signed.proofs.Signs.{bits_equal}
use Rattle.signed.proofs.equal.Statement.{statement}
use Rattle.signed.proofs.equal.Tie as tie

returns : tie.Need-returns
returns c = bits_equal c.args.a c.args.b c.ranges.a c.ranges.b

pub equal_spec : {M : Type 1} → statement M
equal_spec = tie.close (tie.spec returns)
