use borrow.Author.Rules.{rules}
use native.Mathlib.Omega.{arith}
use Prim.Native.Nat.{ℕ, ◌+◌}
use mathlib.Core.Path.{◌∙◌, ap₂}
use lib.Dec.{leb}
use Rattle.formula.specs.Column.{column}
use Rattle.formula.proofs.RowLaws.{offset_small}
use Rattle.limits.proofs.LimitLaws.{reach_test}
use Rattle.limits.proofs.reaches.Statement.{statement}
use Rattle.limits.proofs.reaches.Tie as tie

natural_in-requires : tie.Need-natural_in-requires
natural_in-requires c κs = search rules

natural_in-requires-2 : tie.Need-natural_in-requires-2
natural_in-requires-2 c κs = search rules

overflow_add-over : tie.Need-overflow_add-over
unfolding column
overflow_add-over c =
    let p = c.requires.1 in
    omega (arith, c.natural_in-2.ensures, c.natural_in.ensures, offset_small _ p.0, offset_small _ p.1)

under_in-requires : tie.Need-under_in-requires
under_in-requires c κs = search rules

under_in-requires-2 : tie.Need-under_in-requires-2
under_in-requires-2 c κs = search rules

overflow_add-under : tie.Need-overflow_add-under
unfolding column
overflow_add-under c =
    let p = c.requires.1 in
    omega (arith, c.under_in-2.ensures, c.under_in.ensures, offset_small _ p.0, offset_small _ p.1)

overflow_add-result : tie.Need-overflow_add-result
unfolding column
overflow_add-result c =
    let p = c.requires.1 in
    omega (arith, c.under_in-2.ensures, c.under_in.ensures, offset_small _ p.0, offset_small _ p.1)

returns : tie.Need-returns
unfolding column
returns c =
    ap₂ leb
    (ap₂ ◌+◌ c.natural_in.ensures c.natural_in-2.ensures)
    (ap₂ (λ (m n : ℕ). c.args.l + (m + n)) c.under_in.ensures c.under_in-2.ensures)
    ∙ reach_test _ _ _

pub reaches_spec : {M : Type 1} → statement M
reaches_spec =
    tie.close
    (tie.spec
    natural_in-requires
    natural_in-requires-2
    overflow_add-over
    under_in-requires
    under_in-requires-2
    overflow_add-under
    overflow_add-result
    returns)
