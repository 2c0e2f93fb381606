use Prim.Native.Nat.{ℕ}
use mathlib.Core.Path.{sym, ◌∙◌, ap}
use lib.IntN.{pos, ◌-ℤ◌}
use borrow.Author.Rules.{rules}
use Rattle.signed.proofs.Signs.{read_back}
use Rattle.signed.specs.Numbers.{signed_of}
use Rattle.nextsmall.proofs.RowPlaces.{one_less}
use Rattle.nextsmall.proofs.rows.less_one.Statement.{statement}
use Rattle.nextsmall.proofs.rows.less_one.Tie as tie

with_sign-requires : tie.Need-with_sign-requires
with_sign-requires c κs = search rules

returns-then-v-eq0 : tie.Need-returns-then-v-eq0
unfolding signed_of
returns-then-v-eq0 c = read_back _ c.with_sign.type_inv ∙ c.with_sign.ensures ∙ ap (λ (n : ℕ). pos n -ℤ pos 1) (sym c.if-v-eq0.true)

overflow_sub-v : tie.Need-overflow_sub-v
overflow_sub-v c = search rules

of-requires : tie.Need-of-requires
of-requires c κs = search rules

returns : tie.Need-returns
returns c = read_back _ c.of.type_inv ∙ c.of.ensures ∙ one_less c.args.v c.requires c.if-v-eq0.false

pub less_one_spec : {M : Type 1} → statement M
less_one_spec = tie.close (tie.spec with_sign-requires returns-then-v-eq0 overflow_sub-v of-requires returns)
