use mathlib.Core.Path.{sym, ◌∙◌}
use borrow.Author.Rules.{rules}
use Rattle.stab.proofs.Bools.{and_first_false, and_first_true}
use Rattle.pairs.proofs.Keys.{in_range_more}
use Rattle.pairs.proofs.pair_fits.Statement.{statement}
use Rattle.pairs.proofs.pair_fits.Tie as tie

pair_in_range-requires : tie.Need-pair_in_range-requires
pair_in_range-requires c κs = search rules

pair_follows-requires : tie.Need-pair_follows-requires
pair_follows-requires c κs = (c.requires.0, in_range_more _ _ c.requires.1 (sym c.pair_in_range.ensures ∙ c.if-pair_in_range.true))

returns-then-pair_in_range : tie.Need-returns-then-pair_in_range
returns-then-pair_in_range c = c.pair_follows.ensures ∙ sym (and_first_true _ _ (sym c.pair_in_range.ensures ∙ c.if-pair_in_range.true))

returns : tie.Need-returns
returns c = sym (and_first_false _ _ (sym c.pair_in_range.ensures ∙ c.if-pair_in_range.false))

pub pair_fits_spec : {M : Type 1} → statement M
pair_fits_spec =
    tie.close (tie.spec pair_in_range-requires pair_follows-requires returns-then-pair_in_range returns)
