use Prim.Native.Nat.{◌/◌}
use native.Mathlib.Omega.{arith}
use mathlib.Core.Path.{refl}
use Rattle.stab.specs.Text.{digits_n}
use Rattle.digits.proofs.Decimals.{count_one, count_more}
use Rattle.digits.proofs.digit_count.Statement.{statement}
use Rattle.digits.proofs.digit_count.Tie as tie

returns-then-v-lt10 : tie.Need-returns-then-v-lt10
returns-then-v-lt10 c = count_one 4 _ (omega arith)

returns-then-v-lt100 : tie.Need-returns-then-v-lt100
returns-then-v-lt100 c = count_more 3 _ 1 (omega arith) (count_one 3 _ (omega arith))

returns-then-v-lt1000 : tie.Need-returns-then-v-lt1000
returns-then-v-lt1000 c = count_more 3 _ 2 (omega arith) (count_more 2 _ 1 (omega arith) (count_one 2 _ (omega arith)))

returns-then-v-lt10000 : tie.Need-returns-then-v-lt10000
returns-then-v-lt10000 c =
    count_more 3 _ 3 (omega arith)
    (count_more 2 _ 2 (omega arith) (count_more 1 _ 1 (omega arith) (count_one 1 _ (omega arith))))

returns : tie.Need-returns
unfolding digits_n
returns c =
    let v = c.args.v in
    count_more 3 v 4 (omega arith)
    (count_more 2 (v / 10) 3 (omega arith) (count_more 1 (v / 10 / 10) 2 (omega arith) (count_more 0 (v / 10 / 10 / 10) 1 (omega arith) refl)))

pub digit_count_spec : {M : Type 1} → statement M
digit_count_spec = tie.close (tie.spec returns-then-v-lt10 returns-then-v-lt100 returns-then-v-lt1000 returns-then-v-lt10000 returns)
