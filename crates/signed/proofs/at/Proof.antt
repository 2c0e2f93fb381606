-- Past the end there is 0.
use lib.IntN.{pos}
use lib.ListN.{get_or-eq_default}
use mathlib.Core.Path.{sym}
use borrow.Author.Rules.{rules}
use Rattle.signed.proofs.at.Statement.{statement}
use Rattle.signed.proofs.at.Tie as tie

offset_bounds-t-i : tie.Need-offset_bounds-t-i
offset_bounds-t-i c = search rules

bounds-t-i : tie.Need-bounds-t-i
bounds-t-i c = search rules

returns-then-i-t : tie.Need-returns-then-i-t
returns-then-i-t c = search rules

returns-else-i-t : tie.Need-returns-else-i-t
returns-else-i-t c = sym (get_or-eq_default c.args.t.now (pos 0) c.if-i-t.false)

pub at_spec : {M : Type 1} → statement M
at_spec = tie.close (tie.spec offset_bounds-t-i bounds-t-i returns-then-i-t returns-else-i-t)
