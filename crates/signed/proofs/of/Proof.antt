use native.Mathlib.Omega.{arith}
use mir.Syntax.{w32}
use mir.Facts.{to_z_pos}
use borrow.Author.Rules.{rules}
use Rattle.signed.proofs.of.Statement.{statement}
use Rattle.signed.proofs.of.Tie as tie

overflow_cast-result : tie.Need-overflow_cast-result
overflow_cast-result c = search rules

-- its bits are its own
returns : tie.Need-returns
returns c = to_z_pos w32 (omega arith)

pub of_spec : {M : Type 1} → statement M
of_spec = tie.close (tie.spec overflow_cast-result returns)
