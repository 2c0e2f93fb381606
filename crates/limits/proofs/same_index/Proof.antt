use borrow.Author.Rules.{rules}
use native.Mathlib.Omega.{arith}
use Prim.Native.Nat.{ℕ, ◌+◌}
use mathlib.Core.Path.{◌∙◌, ap₂}
use lib.Dec.{eqb}
use Rattle.formula.specs.Column.{column}
use Rattle.formula.proofs.RowLaws.{offset_small}
use Rattle.limits.proofs.LimitLaws.{index_test}
use Rattle.limits.proofs.same_index.Statement.{statement}
use Rattle.limits.proofs.same_index.Tie as tie

base_at-requires : tie.Need-base_at-requires
base_at-requires c κs = search rules

natural_in-requires : tie.Need-natural_in-requires
natural_in-requires c κs = search rules

overflow_add-left : tie.Need-overflow_add-left
unfolding column
overflow_add-left c = omega (arith, c.natural_in.ensures, c.base_at.ensures.1, offset_small _ c.requires.1.0)

base_at-requires-2 : tie.Need-base_at-requires-2
base_at-requires-2 c κs = search rules

natural_in-requires-2 : tie.Need-natural_in-requires-2
natural_in-requires-2 c κs = search rules

overflow_add-right : tie.Need-overflow_add-right
unfolding column
overflow_add-right c = omega (arith, c.natural_in-2.ensures, c.base_at-2.ensures.1, offset_small _ c.requires.1.1)

under_in-requires : tie.Need-under_in-requires
under_in-requires c κs = search rules

overflow_add-result : tie.Need-overflow_add-result
unfolding column
overflow_add-result c =
    let p = c.requires.1 in
    omega (arith, c.under_in.ensures, c.natural_in.ensures, c.base_at.ensures.1, offset_small _ p.0, offset_small _ p.1)

under_in-requires-2 : tie.Need-under_in-requires-2
under_in-requires-2 c κs = search rules

overflow_add-result-2 : tie.Need-overflow_add-result-2
unfolding column
overflow_add-result-2 c =
    let p = c.requires.1 in
    omega (arith, c.under_in-2.ensures, c.natural_in-2.ensures, c.base_at-2.ensures.1, offset_small _ p.0, offset_small _ p.1)

returns : tie.Need-returns
unfolding column
returns c =
    ap₂ eqb
    (ap₂ (λ (m n : ℕ). c.base_at.result + m + n) c.natural_in.ensures c.under_in.ensures)
    (ap₂ (λ (m n : ℕ). c.base_at-2.result + m + n) c.natural_in-2.ensures c.under_in-2.ensures)
    ∙ index_test _ _ _ _ _ c.base_at.ensures.0 c.base_at-2.ensures.0

pub same_index_spec : {M : Type 1} → statement M
same_index_spec =
    tie.close
    (tie.spec
    base_at-requires
    natural_in-requires
    overflow_add-left
    base_at-requires-2
    natural_in-requires-2
    overflow_add-right
    under_in-requires
    overflow_add-result
    under_in-requires-2
    overflow_add-result-2
    returns)
