use borrow.Author.Rules.{rules}
use Rattle.formula.specs.Spread.{spread_of}
use Rattle.formula.proofs.spread.spread.Statement.{statement}
use Rattle.formula.proofs.spread.spread.Tie as tie

overflow_mul-low : tie.Need-overflow_mul-low
overflow_mul-low c = search rules

overflow_mul-low-2 : tie.Need-overflow_mul-low-2
overflow_mul-low-2 c = search rules

overflow_add-low : tie.Need-overflow_add-low
overflow_add-low c = search rules

overflow_mul-high : tie.Need-overflow_mul-high
overflow_mul-high c = search rules

overflow_mul-high-2 : tie.Need-overflow_mul-high-2
overflow_mul-high-2 c = search rules

overflow_add-high : tie.Need-overflow_add-high
overflow_add-high c = search rules

overflow_add-result : tie.Need-overflow_add-result
overflow_add-result c = search rules

returns : tie.Need-returns
unfolding spread_of
returns c = search rules

pub spread_spec : {M : Type 1} → statement M
spread_spec =
    tie.close (tie.spec overflow_mul-low overflow_mul-low-2 overflow_add-low overflow_mul-high overflow_mul-high-2 overflow_add-high overflow_add-result returns)
