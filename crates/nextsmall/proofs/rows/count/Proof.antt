use native.Mathlib.Omega.{arith}
use mathlib.Core.Path.{◌≡◌}
use Rattle.nextsmall.proofs.RowPlaces.{count_0, count_1, count_2, count_at}
use Rattle.nextsmall.proofs.rows.count.Statement.{statement}
use Rattle.nextsmall.proofs.rows.count.Tie as tie

returns-then-r-eq0 : tie.Need-returns-then-r-eq0
returns-then-r-eq0 c = (count_at _ 20 0 c.if-r-eq0.true count_0, omega arith, omega arith)

returns-then-r-eq1 : tie.Need-returns-then-r-eq1
returns-then-r-eq1 c = (count_at _ 26 1 c.if-r-eq1.true count_1, omega arith, omega arith)

returns : tie.Need-returns
returns c =
    let r = c.args.r in
    let e : r ≡ 2 = omega (arith, c.requires, c.if-r-eq0.false, c.if-r-eq1.false) in
    (count_at r 36 2 e count_2, omega arith, omega arith)

pub count_spec : {M : Type 1} → statement M
count_spec = tie.close (tie.spec returns-then-r-eq0 returns-then-r-eq1 returns)
