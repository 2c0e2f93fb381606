use native.Mathlib.Omega.{arith}
use lib.Pow.{pow_pos}
use borrow.Author.Rules.{rules}
use Rattle.pairs.proofs.Words.{one_shifted}
use Rattle.value.proofs.ones.Statement.{statement}
use Rattle.value.proofs.ones.Tie as tie

overflow_shl-result : tie.Need-overflow_shl-result
overflow_shl-result c = search rules

overflow_sub-result : tie.Need-overflow_sub-result
overflow_sub-result c = omega (arith, one_shifted c.args.width c.requires, pow_pos c.args.width)

returns : tie.Need-returns
returns c = omega (arith, one_shifted c.args.width c.requires, pow_pos c.args.width)

pub ones_spec : {M : Type 1} → statement M
ones_spec = tie.close (tie.spec overflow_shl-result overflow_sub-result returns)
