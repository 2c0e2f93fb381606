use Rattle.std.proofs.Common.{◌≡◌, pos}
use Rattle.stab.specs.Model.{listed}
use Rattle.pairs.specs.Word.{word_at}
use Rattle.pairs.proofs.listed_word.Given as goal

-- the pairs passed are all that say something of the first digits
abbrev pub invariant-loop-k : goal.invariant-loop-k
invariant-loop-k l = l.w ≡ word_at (listed l.pairs l.k (pos l.symbol)) l.x l.width
