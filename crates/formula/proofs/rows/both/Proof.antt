use Rattle.formula.proofs.RowLaws.{facts_same}
use Rattle.formula.specs.Rows.{both_facts}
use Prim.Native.Nat.{ℕ, ◌+◌}
use mathlib.Core.Path.{refl, ap}
use borrow.Author.Rules.{rules}
use Rattle.formula.proofs.rows.both.Statement.{statement}
use Rattle.formula.proofs.rows.both.Tie as tie

overflow_add-result : tie.Need-overflow_add-result
overflow_add-result c = search rules

overflow_add-result-2 : tie.Need-overflow_add-result-2
overflow_add-result-2 c = search rules

larger-requires : tie.Need-larger-requires
larger-requires c κs = search rules

overflow_add-result-3 : tie.Need-overflow_add-result-3
overflow_add-result-3 c = search rules

larger-requires-2 : tie.Need-larger-requires-2
larger-requires-2 c κs = search rules

larger-requires-3 : tie.Need-larger-requires-3
larger-requires-3 c κs = search rules

returns : tie.Need-returns
unfolding both_facts
returns c = facts_same refl (ap (λ (n : ℕ). 1 + n) c.larger.ensures) c.larger-2.ensures c.larger-3.ensures

pub both_spec : {M : Type 1} → statement M
both_spec =
    tie.close
    (tie.spec overflow_add-result overflow_add-result-2 larger-requires overflow_add-result-3 larger-requires-2 larger-requires-3 returns)
