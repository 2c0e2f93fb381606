use borrow.Author.Rules.{rules}
use mathlib.Core.Path.{sym, ◌∙◌, ap}
use Rattle.signed.specs.Numbers.{signed_of}
use Rattle.signed.proofs.Makes.{of_bits, minus_fits, minus_bits}
use Rattle.signed.proofs.with_sign.Statement.{statement}
use Rattle.signed.proofs.with_sign.Tie as tie

overflow_cast-z : tie.Need-overflow_cast-z
overflow_cast-z c = search rules

overflow_sub-result : tie.Need-overflow_sub-result
overflow_sub-result c = minus_fits c.args.v c.requires

returns-then-negative : tie.Need-returns-then-negative
unfolding signed_of
returns-then-negative c =
    let a = c.args in
    minus_bits a.v c.requires ∙ ap (signed_of a.v) (sym c.if-negative.true)

returns-else-negative : tie.Need-returns-else-negative
unfolding signed_of
returns-else-negative c =
    let a = c.args in
    of_bits a.v c.requires ∙ ap (signed_of a.v) (sym c.if-negative.false)

pub with_sign_spec : {M : Type 1} → statement M
with_sign_spec = tie.close (tie.spec overflow_cast-z overflow_sub-result returns-then-negative returns-else-negative)
