-- No child is missing: what tells a closed tableau among rows that have passed.
use Rattle.std.specs.Prelude.{ℕ, zero, suc, Bool, true, ltb}
use Rattle.stab.specs.Basic.{◌and◌}
use Rattle.stab.specs.Node.{Tableau}
use Rattle.stab.specs.Rule.{children_fit}

-- the first n nodes have the numbers of children that their rules have
unfoldable pub children_all : Tableau → ℕ → Bool
children_all T zero = true
children_all T (suc j) = children_all T j and children_fit T j

-- there is a node, and no child is missing
unfoldable pub complete : Tableau → Bool
complete T = ltb 0 T.node_rows and children_all T T.node_rows
