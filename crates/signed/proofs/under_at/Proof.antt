use borrow.Author.Rules.{rules}
use mathlib.Core.Path.{◌∙◌, ap}
use lib.IntN.{ℤ, neg_ℤ}
use Rattle.stab.specs.Basic.{nat}
use Rattle.signed.proofs.Signs.{read_back}
use Rattle.signed.proofs.under_at.Statement.{statement}
use Rattle.signed.proofs.under_at.Tie as tie

at-requires : tie.Need-at-requires
at-requires c κs = search rules

under-requires : tie.Need-under-requires
under-requires c κs = search rules

returns : tie.Need-returns
returns c = c.under.ensures ∙ ap (λ (z : ℤ). nat (neg_ℤ z)) (read_back _ c.at.type_inv ∙ c.at.ensures)

pub under_at_spec : {M : Type 1} → statement M
under_at_spec = tie.close (tie.spec at-requires under-requires returns)
