-- The nine numbers of a node by their place.
use Rattle.std.specs.Prelude.{ℕ, zero, suc, ℤ}
use Rattle.stab.specs.Node.{Node}

-- up, rule, on, with, other, to, by, start, size
abbrev pub node_column : Node → ℕ → ℤ
node_column w zero = w.up
node_column w (suc zero) = w.rule
node_column w (suc (suc zero)) = w.on
node_column w (suc (suc (suc zero))) = w.with
node_column w (suc (suc (suc (suc zero)))) = w.other
node_column w (suc (suc (suc (suc (suc zero))))) = w.to
node_column w (suc (suc (suc (suc (suc (suc zero)))))) = w.by
node_column w (suc (suc (suc (suc (suc (suc (suc zero))))))) = w.start
node_column w (suc (suc (suc (suc (suc (suc (suc (suc k)))))))) = w.size
