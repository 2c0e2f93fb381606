use mathlib.Core.Path.{sym, ◌∙◌}
use borrow.Author.Rules.{rules}
use Rattle.stab.specs.Model.{pair_symbol, pair_index, pair_in_range}
use Rattle.stab.proofs.Bools.{and_first_false, and_first_true}
use Rattle.pairs.proofs.pair_in_range.Statement.{statement}
use Rattle.pairs.proofs.pair_in_range.Tie as tie

overflow_mul-k : tie.Need-overflow_mul-k
overflow_mul-k c = search rules

within_at-requires : tie.Need-within_at-requires
within_at-requires c κs = search rules

overflow_mul-k-then-within_at : tie.Need-overflow_mul-k-then-within_at
overflow_mul-k-then-within_at c = search rules

overflow_add-k : tie.Need-overflow_add-k
overflow_add-k c = search rules

within_at-requires-then-within_at : tie.Need-within_at-requires-then-within_at
within_at-requires-then-within_at c κs = search rules

returns-then-within_at : tie.Need-returns-then-within_at
unfolding pair_in_range pair_symbol pair_index
returns-then-within_at c = c.within_at-then-within_at.ensures ∙ sym (and_first_true _ _ (sym c.within_at.ensures ∙ c.if-within_at.true))

returns : tie.Need-returns
unfolding pair_in_range pair_symbol pair_index
returns c = sym (and_first_false _ _ (sym c.within_at.ensures ∙ c.if-within_at.false))

pub pair_in_range_spec : {M : Type 1} → statement M
pair_in_range_spec =
    tie.close
    (tie.spec
    overflow_mul-k
    within_at-requires
    overflow_mul-k-then-within_at
    overflow_add-k
    within_at-requires-then-within_at
    returns-then-within_at
    returns)
