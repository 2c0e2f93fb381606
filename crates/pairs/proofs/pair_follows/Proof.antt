use native.Mathlib.Omega.{arith}
use mathlib.Core.Path.{sym, ◌∙◌, ap₂}
use lib.Dec.{ltb}
use borrow.Author.Rules.{rules}
use Rattle.pairs.proofs.Keys.{follows_first, follows_key}
use Rattle.pairs.proofs.pair_follows.Statement.{statement}
use Rattle.pairs.proofs.pair_follows.Tie as tie

returns-then-k-eq0 : tie.Need-returns-then-k-eq0
returns-then-k-eq0 c = sym (follows_first _ _ c.if-k-eq0.true)

overflow_sub-k : tie.Need-overflow_sub-k
overflow_sub-k c = search rules

key_at-requires : tie.Need-key_at-requires
key_at-requires c κs = (omega arith, c.requires.1 _ (omega arith))

key_at-requires-2 : tie.Need-key_at-requires-2
key_at-requires-2 c κs = (omega arith, c.requires.1 _ (omega arith))

returns : tie.Need-returns
returns c = ap₂ ltb c.key_at.ensures c.key_at-2.ensures
    ∙ sym (follows_key _ _ c.if-k-eq0.false c.requires.1)

pub pair_follows_spec : {M : Type 1} → statement M
pair_follows_spec =
    tie.close (tie.spec returns-then-k-eq0 overflow_sub-k key_at-requires key_at-requires-2 returns)
