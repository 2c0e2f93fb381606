use mathlib.Core.Path.{sym, ap}
use mathlib.Core.Bool.{Bool}
use borrow.Author.Rules.{rules}
use Rattle.assigned.specs.Words.{turned_word}
use Rattle.assigned.proofs.turned.Statement.{statement}
use Rattle.assigned.proofs.turned.Tie as tie

returns-then-held : tie.Need-returns-then-held
unfolding turned_word
returns-then-held c = ap (λ (v : Bool). turned_word v c.args.w) (sym c.if-held.true)

overflow_sub-result : tie.Need-overflow_sub-result
overflow_sub-result c = search rules

returns-else-held : tie.Need-returns-else-held
unfolding turned_word
returns-else-held c = ap (λ (v : Bool). turned_word v c.args.w) (sym c.if-held.false)

pub turned_spec : {M : Type 1} → statement M
turned_spec = tie.close (tie.spec overflow_sub-result returns-then-held returns-else-held)
