use mathlib.Core.Path.{sym, ap}
use mathlib.Core.Bool.{Bool}
use Rattle.pairs.specs.Word.{combined_word}
use Rattle.value.proofs.combined.Statement.{statement}
use Rattle.value.proofs.combined.Tie as tie

returns-then-any : tie.Need-returns-then-any
unfolding combined_word
returns-then-any c = ap (λ (v : Bool). combined_word v c.args.v c.args.w) (sym c.if-any.true)

returns-else-any : tie.Need-returns-else-any
unfolding combined_word
returns-else-any c = ap (λ (v : Bool). combined_word v c.args.v c.args.w) (sym c.if-any.false)

pub combined_spec : {M : Type 1} → statement M
combined_spec = tie.close (tie.spec returns-then-any returns-else-any)
