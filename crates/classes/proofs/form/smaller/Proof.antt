use native.Mathlib.Omega.{arith}
use mathlib.Core.Path.{sym}
use Rattle.classes.proofs.Shifts.{smaller_left, smaller_right, smaller_le, smaller_lt}
use Rattle.classes.proofs.form.smaller.Statement.{statement}
use Rattle.classes.proofs.form.smaller.Tie as tie

returns-then-p-eq0 : tie.Need-returns-then-p-eq0
returns-then-p-eq0 c = sym (smaller_left _ _ c.if-p-eq0.true)

returns-then-q-eq0 : tie.Need-returns-then-q-eq0
returns-then-q-eq0 c = sym (smaller_right _ _ (omega (arith, c.if-p-eq0.false)) c.if-q-eq0.true)

returns-then-p-q : tie.Need-returns-then-p-q
returns-then-p-q c = sym (smaller_le _ _ (omega (arith, c.if-p-eq0.false)) (omega (arith, c.if-q-eq0.false)) c.if-p-q.true)

returns-else-p-q : tie.Need-returns-else-p-q
returns-else-p-q c = sym (smaller_lt _ _ (omega (arith, c.if-p-eq0.false)) (omega (arith, c.if-q-eq0.false)) c.if-p-q.false)

pub smaller_spec : {M : Type 1} → statement M
smaller_spec = tie.close (tie.spec returns-then-p-eq0 returns-then-q-eq0 returns-then-p-q returns-else-p-q)
