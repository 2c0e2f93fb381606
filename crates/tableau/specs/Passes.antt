-- The check's refusals in groups, in the paper's order.
use Rattle.std.specs.Prelude.{Bool}
use Rattle.stab.specs.Basic.{◌otherwise◌, scan}
use Rattle.stab.specs.Node.{Tableau, rows, row_count}
use Rattle.stab.specs.Check.{whole_unless, formulas_refusal, set_refusal, parent_refusal, node_refusal, enough_nodes}
use Rattle.stab.specs.declared.Mode.{Mode}
use Rattle.stab.specs.declared.Refusal.TheVariants.{Parent}
use Rattle.stab.specs.Finding.{Finding}

-- 6, each row, and 6 again
unfoldable pub rows_refusal : Bool → Tableau → Finding
rows_refusal older T = formulas_refusal older (rows T) (row_count T) T.schema_rows T.root T.least

-- 9 and 10
unfoldable pub nodes_refusal : Bool → Tableau → Finding
nodes_refusal whole T =
    scan (set_refusal T) T.node_rows otherwise
    whole_unless (enough_nodes whole T) Parent otherwise
    scan (parent_refusal T) T.node_rows

-- from 6 to 10
unfoldable pub passes_refusal : Mode → Tableau → Finding
passes_refusal m T = rows_refusal m.older T otherwise nodes_refusal m.whole T

-- from 6 on
unfoldable pub later_refusal : Mode → Tableau → Finding
later_refusal m T = passes_refusal m T otherwise scan (node_refusal m.whole T) T.node_rows
