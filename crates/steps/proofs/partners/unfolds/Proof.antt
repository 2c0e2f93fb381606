use borrow.Author.Rules.{rules}
use mathlib.Core.Path.{sym, ◌∙◌}
use Rattle.stab.specs.Rule.{of_rule}
use Rattle.stab.proofs.Bools.{or_left, or_first_false}
use Rattle.steps.proofs.partners.unfolds.Statement.{statement}
use Rattle.steps.proofs.partners.unfolds.Tie as tie

is_of-requires : tie.Need-is_of-requires
is_of-requires c κs = search rules

returns-then-is_of : tie.Need-returns-then-is_of
unfolding of_rule
returns-then-is_of c = sym (or_left _ _ (sym c.is_of.ensures ∙ c.if-is_of.true))

is_of-requires-2 : tie.Need-is_of-requires-2
is_of-requires-2 c κs = search rules

returns : tie.Need-returns
unfolding of_rule
returns c = c.is_of-2.ensures ∙ sym (or_first_false _ _ (sym c.is_of.ensures ∙ c.if-is_of.false))

pub unfolds_spec : {M : Type 1} → statement M
unfolds_spec = tie.close (tie.spec is_of-requires returns-then-is_of is_of-requires-2 returns)
