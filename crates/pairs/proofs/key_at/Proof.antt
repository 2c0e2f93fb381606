use native.Mathlib.Omega.{arith}
use mathlib.Core.Path.{◌≡◌}
use Prim.Native.Nat.{◌+◌, ◌*◌}
use borrow.Author.Rules.{rules}
use Rattle.stab.specs.Model.{pair_symbol, pair_index}
use Rattle.pairs.specs.Pairs.{key_at}
use Rattle.pairs.proofs.Keys.{symbol_small, index_near, index_high, key_from, key_small}
use Rattle.pairs.proofs.key_at.Statement.{statement}
use Rattle.pairs.proofs.key_at.Tie as tie

overflow_mul-k : tie.Need-overflow_mul-k
overflow_mul-k c = search rules

natural_at-requires : tie.Need-natural_at-requires
natural_at-requires c κs = search rules

overflow_mul-result : tie.Need-overflow_mul-result
unfolding pair_symbol
overflow_mul-result c = omega (arith, symbol_small _ _ c.requires.1)

overflow_mul-k-2 : tie.Need-overflow_mul-k-2
overflow_mul-k-2 c = search rules

overflow_add-k : tie.Need-overflow_add-k
overflow_add-k c = search rules

moved-requires : tie.Need-moved-requires
unfolding pair_index
moved-requires c κs =
    record {
      start = omega arith;
      up = omega (arith, index_high _ _ c.requires.1);
      down = omega (arith, index_near _ _ c.requires.1);
    }

-- the sum is the key
known : (c : tie.After-moved) → c.natural_at.result * 131072 + c.moved.result ≡ key_at c.args.pairs.now c.args.k
unfolding pair_symbol pair_index
known c = key_from _ _ c.requires.1 _ _ c.natural_at.ensures.0 c.moved.ensures

overflow_add-result : tie.Need-overflow_add-result
overflow_add-result c = omega (arith, known c, key_small _ _ c.requires.1)

returns : tie.Need-returns
returns c = known c

pub key_at_spec : {M : Type 1} → statement M
key_at_spec =
    tie.close
    (tie.spec
    overflow_mul-k
    natural_at-requires
    overflow_mul-result
    overflow_mul-k-2
    overflow_add-k
    moved-requires
    overflow_add-result
    returns)
