use Rattle.std.proofs.Common.{ℕ, ◌+◌, ◌*◌, refl, ◌∙◌, ap, add_assoc, arith, length-set}
use Rattle.stab.specs.Meaning.{signed}
use Rattle.pairs.proofs.Words.{word_same}
use Rattle.assigned.specs.Words.{digit, words, turned_word}
use Rattle.assigned.proofs.DigitLaws.{turned_word_lem}
use Rattle.assigned.proofs.Blocks.{words_put, words_all}
use Rattle.assigned.proofs.digits.Goals as goal

pub loop-k-init : goal.loop-k-init
unfolding words
loop-k-init c = record { long = c.requires.3; front = refl }

pub loop-k-preserved : goal.loop-k-preserved
loop-k-preserved c =
    let a = c.args in
    let k = c.loop-k.k in
    record {
      long = simp length-set c.loop-k.invariant.long;
      front =
          words_put _ _ _ _ (omega arith) c.loop-k.invariant.front
          (c.turned.ensures
          ∙ ap (turned_word a.held) c.digit_word.ensures
          ∙ turned_word_lem a.held (λ j. digit (a.m + 64 * k + j) a.b)
          ∙ word_same _ _ 64 (λ j l. ap (λ (x : ℕ). signed a.held (digit x a.b)) (add_assoc a.m (64 * k) j)));
    }

pub returns : goal.returns
returns c =
    words_all _ _ _ 64 c.loop-k.invariant.long c.loop-k-test.false c.loop-k.auto.k-end c.loop-k.invariant.front
