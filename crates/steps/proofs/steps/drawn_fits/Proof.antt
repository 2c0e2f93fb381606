use native.Mathlib.Omega.{arith}
use mathlib.Core.Path.{◌∙◌}
use Rattle.stab.specs.Node.{node}
use Rattle.steps.proofs.StepLaws.{drawn_first, drawn_later}
use Rattle.steps.proofs.steps.drawn_fits.Statement.{statement}
use Rattle.steps.proofs.steps.drawn_fits.Tie as tie

returns-then-j-eq0 : tie.Need-returns-then-j-eq0
returns-then-j-eq0 c = drawn_first _ _ c.if-j-eq0.true

is_drawn-requires : tie.Need-is_drawn-requires
is_drawn-requires c κs = (c.requires.0, c.requires.1 (omega arith))

returns : tie.Need-returns
unfolding node
returns c = c.is_drawn.ensures ∙ drawn_later _ _ c.if-j-eq0.false

pub drawn_fits_spec : {M : Type 1} → statement M
drawn_fits_spec = tie.close (tie.spec returns-then-j-eq0 is_drawn-requires returns)
