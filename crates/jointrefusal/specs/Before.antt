-- What is found of two records before any of their rows is tidied.
use Rattle.std.specs.Prelude.{◌+◌, Bool, leb, ltb}
use Rattle.stab.specs.Basic.{◌and◌, eq_z, ◌otherwise◌}
use Rattle.stab.specs.Formula.{Formula, size, depth, join, disj, small_enough, schema_formula}
use Rattle.stab.specs.Node.{Tableau, rows, schema_of}
use Rattle.stab.specs.Check.{whole_unless, refusal, present_mode}
use Rattle.stab.specs.declared.Refusal.TheVariants.{Leasts, Joint}
use Rattle.stab.specs.Finding.{Finding}
use Rattle.joint.specs.Joint.{or_row, joint}

-- the or of two formulas is within the limits
unfoldable pub or_small : Formula → Formula → Bool
or_small f g = leb (size (join disj f g)) 4096 and leb (depth (join disj f g)) 64

-- two records have few enough schema rows and nodes, and the or of their schemata is within the limits
unfoldable pub sizes_fit : Tableau → Tableau → Bool
sizes_fit A B =
    ltb (A.schema_rows + B.schema_rows) 1024 and ltb (A.node_rows + B.node_rows) 1024 and or_small (schema_formula (schema_of A)) (schema_formula (schema_of B))

-- two records are within the limits, but for their tidied rows and sets
unfoldable pub fits_before : Tableau → Tableau → Bool
fits_before A B =
    ltb (A.schema_rows + B.schema_rows) 1024 and ltb (A.node_rows + B.node_rows) 1024 and small_enough (rows (joint A B)) (or_row A B)

unfoldable pub found_before : Tableau → Tableau → Finding
found_before A B =
    refusal present_mode A otherwise
    refusal present_mode B otherwise
    whole_unless (eq_z A.least B.least) Leasts otherwise
    whole_unless (fits_before A B) Joint
