use Prim.Native.Nat.{ℕ, ◌+◌, ◌*◌}
use mathlib.Core.Path.{◌∙◌, ap}
use lib.ListN.{get_or}
use borrow.Author.Rules.{rules}
use Rattle.stab.specs.Basic.{nat}
use Rattle.formula.proofs.Columns.{column_at}
use Rattle.convert.specs.Emission.{image_at}
use Rattle.convert.proofs.rows.image_of.Statement.{statement}
use Rattle.convert.proofs.rows.image_of.Tie as tie

overflow_mul-r : tie.Need-overflow_mul-r
overflow_mul-r c = search rules

overflow_add-r : tie.Need-overflow_add-r
overflow_add-r c = search rules

natural_at-at-requires : tie.Need-natural_at-at-requires
natural_at-at-requires c κs = search rules

overflow_mul-at : tie.Need-overflow_mul-at
overflow_mul-at c = search rules

kept_at-requires : tie.Need-kept_at-requires
kept_at-requires c κs = search rules

overflow_add-at : tie.Need-overflow_add-at
overflow_add-at c = search rules

kept_at-requires-2 : tie.Need-kept_at-requires-2
kept_at-requires-2 c κs = search rules

returns : tie.Need-returns
unfolding image_at
returns c =
    let a = c.args in
    let e = c.natural_at-at.ensures.0 ∙ ap nat (column_at a.wide.now a.r a.k c.requires.1) in
    let own = c.kept_at.ensures.0 ∙ ap (λ (m : ℕ). get_or a.images.now (2 * m) 0) e in
    let negated = c.kept_at-2.ensures.0 ∙ ap (λ (m : ℕ). get_or a.images.now (2 * m + 1) 0) e in
    λ i. record { own = own i; negated = negated i }

pub image_of_spec : {M : Type 1} → statement M
image_of_spec =
    tie.close
    (tie.spec
    overflow_mul-r
    overflow_add-r
    natural_at-at-requires
    overflow_mul-at
    kept_at-requires
    overflow_add-at
    kept_at-requires-2
    returns)
