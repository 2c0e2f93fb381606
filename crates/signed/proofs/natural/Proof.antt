use mathlib.Core.Path.{◌≡◌, ◌∙◌, ap}
use mathlib.Core.Bool.{false}
use lib.IntN.{pos, nat_abs}
use lib.Signed.{lt_z}
use mir.Facts.{to_z-of_z}
use Rattle.signed.proofs.Signs.{nat_negative, non_neg_of, nat_abs_lem, abs_fits}
use Rattle.signed.proofs.natural.Statement.{statement}
use Rattle.signed.proofs.natural.Tie as tie

overflow_cast-result : tie.Need-overflow_cast-result
overflow_cast-result c =
    let e = to_z-of_z c.ranges.z in
    let h : lt_z c.args.z (pos 0) ≡ false = rw e at c.if-z-lt0.false in
    rw e (non_neg_of c.args.z h, abs_fits c.args.z c.ranges.z h)

returns-then-z-lt0 : tie.Need-returns-then-z-lt0
returns-then-z-lt0 c = nat_negative c.args.z (rw (to_z-of_z c.ranges.z) at c.if-z-lt0.true)

returns-else-z-lt0 : tie.Need-returns-else-z-lt0
returns-else-z-lt0 c =
    let e = to_z-of_z c.ranges.z in
    ap nat_abs e ∙ nat_abs_lem c.args.z (rw e at c.if-z-lt0.false)

pub natural_spec : {M : Type 1} → statement M
natural_spec = tie.close (tie.spec overflow_cast-result returns-then-z-lt0 returns-else-z-lt0)
