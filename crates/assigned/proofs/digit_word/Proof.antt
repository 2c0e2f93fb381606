use native.Mathlib.Omega.{arith}
use mathlib.Core.Path.{◌∙◌}
use borrow.Author.Rules.{rules}
use Rattle.pairs.proofs.Words.{word_same}
use Rattle.assigned.specs.Words.{digit}
use Rattle.assigned.proofs.DigitLaws.{digit_low, digit_high}
use Rattle.assigned.proofs.digit_word.Statement.{statement}
use Rattle.assigned.proofs.digit_word.Tie as tie

low_digits-requires : tie.Need-low_digits-requires
low_digits-requires c κs = search rules

returns-then-b-lt6 : tie.Need-returns-then-b-lt6
returns-then-b-lt6 c =
    c.low_digits.ensures ∙ word_same _ _ 64 (λ j l. digit_low c.args.m c.args.b c.requires.0 j c.if-b-lt6.true)

overflow_shr-m : tie.Need-overflow_shr-m
overflow_shr-m c = search rules

same-requires : tie.Need-same-requires
same-requires c κs = search rules

returns : tie.Need-returns
unfolding digit
returns c =
    c.same.ensures ∙ word_same _ _ 64 (λ j l. digit_high c.args.m c.args.b c.requires.0 j (omega arith) l)

pub digit_word_spec : {M : Type 1} → statement M
digit_word_spec =
    tie.close (tie.spec low_digits-requires returns-then-b-lt6 overflow_shr-m same-requires returns)
