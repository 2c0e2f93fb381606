use borrow.Author.Rules.{rules}
use native.Mathlib.Omega.{arith}
use mathlib.Core.Path.{sym}
use lib.ListN.{get_or-eq_default}
use Rattle.numerals.proofs.Runs.{get_d_any}
use Rattle.numerals.proofs.byte_at.Statement.{statement}
use Rattle.numerals.proofs.byte_at.Tie as tie

bounds-text-i : tie.Need-bounds-text-i
bounds-text-i c = search rules

overflow_cast-result : tie.Need-overflow_cast-result
overflow_cast-result c = omega (arith, c.shared_slice_known-1.given c.args.i)

returns-then-i-text : tie.Need-returns-then-i-text
returns-then-i-text c = let a = c.args in get_d_any a.text.now a.i 0 256 c.if-i-text.true

returns-else-i-text : tie.Need-returns-else-i-text
returns-else-i-text c = sym (get_or-eq_default c.args.text.now 256 c.if-i-text.false)

pub byte_at_spec : {M : Type 1} → statement M
byte_at_spec = tie.close (tie.spec bounds-text-i overflow_cast-result returns-then-i-text returns-else-i-text)
