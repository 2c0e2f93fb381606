use mathlib.Core.Path.{sym, ◌∙◌, ap}
use mathlib.Core.Bool.{Bool}
use borrow.Author.Rules.{rules}
use Rattle.pairs.specs.Word.{whole_word}
use Rattle.pairs.proofs.Words.{all_is}
use Rattle.value.proofs.whole_word.Statement.{statement}
use Rattle.value.proofs.whole_word.Tie as tie

returns-then-any : tie.Need-returns-then-any
unfolding whole_word
returns-then-any c = ap (λ (v : Bool). whole_word v c.args.w c.args.width) (sym c.if-any.true)

ones-requires : tie.Need-ones-requires
ones-requires c κs = search rules

returns : tie.Need-returns
unfolding whole_word
returns c =
    all_is _ _ _ c.ones.ensures
    ∙ ap (λ (v : Bool). whole_word v c.args.w c.args.width) (sym c.if-any.false)

pub whole_word_spec : {M : Type 1} → statement M
whole_word_spec = tie.close (tie.spec returns-then-any ones-requires returns)
