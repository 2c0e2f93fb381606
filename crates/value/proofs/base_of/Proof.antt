use native.Mathlib.Omega.{arith}
use mathlib.Core.Path.{sym, ◌∙◌}
use borrow.Author.Rules.{rules}
use Rattle.stab.specs.Formula.{row_at}
use Rattle.pairs.proofs.Parts.{unbiased_zero, unbiased_pos}
use Rattle.value.proofs.Values.{base_nothing, base_parameter, base_index}
use Rattle.value.proofs.base_of.Statement.{statement}
use Rattle.value.proofs.base_of.Tie as tie

overflow_mul-f : tie.Need-overflow_mul-f
overflow_mul-f c = search rules

overflow_add-f : tie.Need-overflow_add-f
overflow_add-f c = search rules

is_at-requires : tie.Need-is_at-requires
is_at-requires c κs = search rules

returns-then-is_at : tie.Need-returns-then-is_at
unfolding row_at
returns-then-is_at c =
    (omega arith, unbiased_zero ∙ sym (base_nothing _ _ _ (sym c.is_at.ensures ∙ c.if-is_at.true)))

overflow_mul-f-2 : tie.Need-overflow_mul-f-2
overflow_mul-f-2 c = search rules

overflow_add-f-2 : tie.Need-overflow_add-f-2
overflow_add-f-2 c = search rules

is_at-requires-2 : tie.Need-is_at-requires-2
is_at-requires-2 c κs = search rules

overflow_add-result : tie.Need-overflow_add-result
overflow_add-result c = search rules

returns-then-is_at-2 : tie.Need-returns-then-is_at-2
unfolding row_at
returns-then-is_at-2 c =
    (omega arith, unbiased_pos _ ∙ sym (base_parameter _ _ _ (sym c.is_at.ensures ∙ c.if-is_at.false) (sym c.is_at-2.ensures ∙ c.if-is_at-2.true)))

returns : tie.Need-returns
unfolding row_at
returns c =
    (c.requires.2, sym (base_index _ _ _ (sym c.is_at.ensures ∙ c.if-is_at.false) (sym c.is_at-2.ensures ∙ c.if-is_at-2.false)))

pub base_of_spec : {M : Type 1} → statement M
base_of_spec =
    tie.close
    (tie.spec
    overflow_mul-f
    overflow_add-f
    is_at-requires
    returns-then-is_at
    overflow_mul-f-2
    overflow_add-f-2
    is_at-requires-2
    overflow_add-result
    returns-then-is_at-2
    returns)
