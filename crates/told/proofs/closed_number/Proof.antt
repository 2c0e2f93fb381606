use mathlib.Core.Path.{sym, ap}
use lib.IntN.{pos}
use Rattle.stab.proofs.Bools.{if_true, if_false}
use Rattle.told.proofs.closed_number.Statement.{statement}
use Rattle.told.proofs.closed_number.Tie as tie

returns-then-closed : tie.Need-returns-then-closed
returns-then-closed c = ap pos (sym (if_true _ _ _ c.if-closed.true))

returns-else-closed : tie.Need-returns-else-closed
returns-else-closed c = ap pos (sym (if_false _ _ _ c.if-closed.false))

pub closed_number_spec : {M : Type 1} → statement M
closed_number_spec = tie.close (tie.spec returns-then-closed returns-else-closed)
