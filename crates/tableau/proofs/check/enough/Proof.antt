use mathlib.Core.Path.{sym, ap}
use mathlib.Core.Bool.{Bool}
use lib.Dec.{ltb}
use Rattle.stab.specs.Basic.{◌implies◌}
use Rattle.tableau.proofs.check.enough.Statement.{statement}
use Rattle.tableau.proofs.check.enough.Tie as tie

returns-then-whole : tie.Need-returns-then-whole
unfolding ◌implies◌
returns-then-whole c = sym (ap (λ (w : Bool). w implies ltb 0 c.args.k) c.if-whole.true)

returns-else-whole : tie.Need-returns-else-whole
unfolding ◌implies◌
returns-else-whole c = sym (ap (λ (w : Bool). w implies ltb 0 c.args.k) c.if-whole.false)

pub enough_spec : {M : Type 1} → statement M
enough_spec = tie.close (tie.spec returns-then-whole returns-else-whole)
