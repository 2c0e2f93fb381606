use mathlib.Core.Path.{refl}
use Rattle.formula.specs.Rows.{facts_at}
use Rattle.formula.proofs.KeptLaws.{first_at_lem}
use Rattle.formula.proofs.RowLaws.{facts_same}
use borrow.Author.Rules.{rules}
use Rattle.formula.proofs.rows.known.Statement.{statement}
use Rattle.formula.proofs.rows.known.Tie as tie

overflow_mul-at : tie.Need-overflow_mul-at
overflow_mul-at c = search rules

overflow_add-result : tie.Need-overflow_add-result
overflow_add-result c = search rules

offset_bounds-facts-at : tie.Need-offset_bounds-facts-at
offset_bounds-facts-at c = search rules

bounds-facts-at : tie.Need-bounds-facts-at
bounds-facts-at c = search rules

overflow_add-result-2 : tie.Need-overflow_add-result-2
overflow_add-result-2 c = search rules

offset_bounds-facts-at-2 : tie.Need-offset_bounds-facts-at-2
offset_bounds-facts-at-2 c = search rules

bounds-facts-at-2 : tie.Need-bounds-facts-at-2
bounds-facts-at-2 c = search rules

overflow_add-result-3 : tie.Need-overflow_add-result-3
overflow_add-result-3 c = search rules

offset_bounds-facts-at-3 : tie.Need-offset_bounds-facts-at-3
offset_bounds-facts-at-3 c = search rules

bounds-facts-at-3 : tie.Need-bounds-facts-at-3
bounds-facts-at-3 c = search rules

overflow_add-result-4 : tie.Need-overflow_add-result-4
overflow_add-result-4 c = search rules

offset_bounds-facts-at-4 : tie.Need-offset_bounds-facts-at-4
offset_bounds-facts-at-4 c = search rules

bounds-facts-at-4 : tie.Need-bounds-facts-at-4
bounds-facts-at-4 c = search rules

returns : tie.Need-returns
unfolding facts_at
returns c =
    let a = c.args in
    facts_same (first_at_lem a.facts.now a.r) refl refl refl

pub known_spec : {M : Type 1} → statement M
known_spec =
    tie.close
    (tie.spec
    overflow_mul-at
    overflow_add-result
    offset_bounds-facts-at
    bounds-facts-at
    overflow_add-result-2
    offset_bounds-facts-at-2
    bounds-facts-at-2
    overflow_add-result-3
    offset_bounds-facts-at-3
    bounds-facts-at-3
    overflow_add-result-4
    offset_bounds-facts-at-4
    bounds-facts-at-4
    returns)
