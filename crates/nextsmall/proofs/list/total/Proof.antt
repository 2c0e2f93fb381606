use native.Mathlib.Omega.{arith}
use mathlib.Core.Path.{◌≡◌}
use Rattle.nextsmall.proofs.TablePlaces.{total_1, total_2, total_3, total_at}
use Rattle.nextsmall.proofs.list.total.Statement.{statement}
use Rattle.nextsmall.proofs.list.total.Tie as tie

returns-then-n-eq1 : tie.Need-returns-then-n-eq1
returns-then-n-eq1 c = (total_at _ 20 1 c.if-n-eq1.true total_1, omega arith)

returns-then-n-eq2 : tie.Need-returns-then-n-eq2
returns-then-n-eq2 c = (total_at _ 520 2 c.if-n-eq2.true total_2, omega arith)

returns : tie.Need-returns
returns c =
    let n = c.args.n in
    let e : n ≡ 3 = omega (arith, c.requires.0, c.requires.1, c.if-n-eq1.false, c.if-n-eq2.false) in
    (total_at n 18720 3 e total_3, omega arith)

pub total_spec : {M : Type 1} → statement M
total_spec = tie.close (tie.spec returns-then-n-eq1 returns-then-n-eq2 returns)
