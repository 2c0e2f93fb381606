use borrow.Author.Rules.{rules}
use native.Mathlib.Omega.{arith}
use mathlib.Core.Path.{refl}
use Rattle.classes.proofs.held.held_at.Statement.{statement}
use Rattle.classes.proofs.held.held_at.Tie as tie

offset_bounds-t-i : tie.Need-offset_bounds-t-i
offset_bounds-t-i c = search rules

bounds-t-i : tie.Need-bounds-t-i
bounds-t-i c = search rules

overflow_cast-result : tie.Need-overflow_cast-result
overflow_cast-result c = omega (arith, c.shared_slice_known-1.given c.args.i)

returns : tie.Need-returns
returns c = (refl, omega (arith, c.shared_slice_known-1.given c.args.i))

pub held_at_spec : {M : Type 1} → statement M
held_at_spec = tie.close (tie.spec offset_bounds-t-i bounds-t-i overflow_cast-result returns)
