use native.Mathlib.Omega.{arith}
use mathlib.Core.Path.{ap}
use lib.IntN.{nat_abs}
use Rattle.signed.proofs.Ranks.{rank_small, read_fits, sum_fits, sum_is}
use Rattle.signed.proofs.rank.Statement.{statement}
use Rattle.signed.proofs.rank.Tie as tie

overflow_cast-result : tie.Need-overflow_cast-result
overflow_cast-result c = read_fits c.args.z c.ranges.z

overflow_add-result : tie.Need-overflow_add-result
overflow_add-result c = sum_fits c.args.z c.ranges.z

overflow_cast-result-2 : tie.Need-overflow_cast-result-2
overflow_cast-result-2 c =
    rw (sum_is c.args.z c.ranges.z) (tt, record { fits = omega (arith, rank_small c.args.z c.ranges.z) })

returns : tie.Need-returns
returns c =
    let e = ap nat_abs (sum_is c.args.z c.ranges.z) in
    (e, omega (arith, e, rank_small c.args.z c.ranges.z))

pub rank_spec : {M : Type 1} → statement M
rank_spec = tie.close (tie.spec overflow_cast-result overflow_add-result overflow_cast-result-2 returns)
