use borrow.Author.Rules.{rules}
use native.Mathlib.Omega.{arith}
use mathlib.Core.Path.{sym}
use Rattle.classes.proofs.Remembering.{stands_itself, stands_other}
use Rattle.classes.proofs.agreed.stand_in.Statement.{statement}
use Rattle.classes.proofs.agreed.stand_in.Tie as tie

offset_bounds-agreed-r : tie.Need-offset_bounds-agreed-r
offset_bounds-agreed-r c = search rules

bounds-agreed-r : tie.Need-bounds-agreed-r
bounds-agreed-r c = search rules

overflow_cast-number : tie.Need-overflow_cast-number
overflow_cast-number c = omega (arith, c.shared_slice_known-1.given c.args.r)

returns-then-number-eq0 : tie.Need-returns-then-number-eq0
returns-then-number-eq0 c = (sym (stands_itself _ _ c.if-number-eq0.true), omega (arith, c.requires))

overflow_sub-result : tie.Need-overflow_sub-result
overflow_sub-result c = search rules

returns : tie.Need-returns
returns c =
    (sym (stands_other _ _ _ (omega (arith, c.if-number-eq0.false))), omega (arith, c.shared_slice_known-1.given c.args.r, c.if-number-eq0.false))

pub stand_in_spec : {M : Type 1} → statement M
stand_in_spec =
    tie.close (tie.spec offset_bounds-agreed-r bounds-agreed-r overflow_cast-number returns-then-number-eq0 overflow_sub-result returns)
