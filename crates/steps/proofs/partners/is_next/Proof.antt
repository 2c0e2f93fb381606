use borrow.Author.Rules.{rules}
use native.Mathlib.Omega.{arith}
use Prim.Native.Nat.{ℕ, ◌+◌}
use mathlib.Core.Path.{◌∙◌, ap₂}
use lib.Dec.{eqb}
use Rattle.formula.specs.Column.{column}
use Rattle.formula.proofs.RowLaws.{offset_small}
use Rattle.steps.proofs.PartnerLaws.{next_test}
use Rattle.stab.specs.Formula.{formula_rows}
use Rattle.steps.proofs.partners.is_next.Statement.{statement}
use Rattle.steps.proofs.partners.is_next.Tie as tie

natural_in-requires : tie.Need-natural_in-requires
natural_in-requires c κs = search rules

under_in-requires : tie.Need-under_in-requires
under_in-requires c κs = search rules

overflow_add-result : tie.Need-overflow_add-result
unfolding column
overflow_add-result c =
    let p = c.requires.1 in
    omega (arith, c.under_in.ensures, c.natural_in.ensures, offset_small _ p.0, offset_small _ p.1)

natural_in-requires-2 : tie.Need-natural_in-requires-2
natural_in-requires-2 c κs = search rules

under_in-requires-2 : tie.Need-under_in-requires-2
under_in-requires-2 c κs = search rules

overflow_add-result-2 : tie.Need-overflow_add-result-2
unfolding column
overflow_add-result-2 c =
    let p = c.requires.1 in
    omega (arith, c.under_in-2.ensures, c.natural_in-2.ensures, offset_small _ p.0, offset_small _ p.1)

overflow_add-result-3 : tie.Need-overflow_add-result-3
unfolding column
overflow_add-result-3 c =
    let p = c.requires.1 in
    omega (arith, c.under_in-2.ensures, c.natural_in-2.ensures, offset_small _ p.0, offset_small _ p.1)

returns : tie.Need-returns
unfolding column
returns c =
    let a = c.args in
    ap₂ eqb
    (ap₂ ◌+◌ c.natural_in.ensures c.under_in.ensures)
    (ap₂ (λ (m n : ℕ). m + n + 1) c.natural_in-2.ensures c.under_in-2.ensures)
    ∙ next_test (formula_rows a.schema.now a.s a.proof.now a.with).c (formula_rows a.schema.now a.s a.proof.now a.on).c

pub is_next_spec : {M : Type 1} → statement M
is_next_spec =
    tie.close
    (tie.spec
    natural_in-requires
    under_in-requires
    overflow_add-result
    natural_in-requires-2
    under_in-requires-2
    overflow_add-result-2
    overflow_add-result-3
    returns)
