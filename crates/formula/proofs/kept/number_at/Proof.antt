use borrow.Author.Rules.{rules}
use native.Mathlib.Omega.{arith}
use mathlib.Core.Path.{refl, sym}
use lib.ListN.{get_or-eq_default}
use Rattle.formula.proofs.kept.number_at.Statement.{statement}
use Rattle.formula.proofs.kept.number_at.Tie as tie

offset_bounds-t-i : tie.Need-offset_bounds-t-i
offset_bounds-t-i c = search rules

bounds-t-i : tie.Need-bounds-t-i
bounds-t-i c = search rules

overflow_cast-result : tie.Need-overflow_cast-result
overflow_cast-result c = omega (arith, c.shared_slice_known-1.given c.args.i)

returns-then-i-t : tie.Need-returns-then-i-t
returns-then-i-t c = refl

returns : tie.Need-returns
returns c = sym (get_or-eq_default c.args.t.now 0 c.if-i-t.false)

pub number_at_spec : {M : Type 1} → statement M
number_at_spec =
    tie.close (tie.spec offset_bounds-t-i bounds-t-i overflow_cast-result returns-then-i-t returns)
