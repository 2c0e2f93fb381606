-- What is lent, as one: tables of numbers, and the numbers that go with them.
use Rattle.std.specs.Prelude.{ℕ, List, ℤ}
use Rattle.stab.specs.Formula.{Schema}
use Rattle.stab.specs.Node.{Tableau}
use Rattle.stab.specs.declared.Header.{Header}
use Rattle.stab.specs.declared.SchemaHeader.{SchemaHeader}

abbrev pub lent : List ℤ → List ℤ → List ℤ → List ℤ → Header → Tableau
lent schema proof nodes members h =
    record { schema = schema; schema_rows = h.schema_rows; proof = proof; proof_rows = h.proof_rows; root = h.root; least = h.least; nodes = nodes; node_rows = h.node_rows; members = members; member_count = h.member_count }

abbrev pub lent_schema : List ℤ → SchemaHeader → Schema
lent_schema table h = record { table = table; rows = h.rows; root = h.root; least = h.least }

-- the numbers of an entry, in its order
abbrev pub header : ℕ → ℕ → ℤ → ℤ → ℕ → ℕ → Header
header schema_rows proof_rows root least node_rows member_count =
    record { schema_rows = schema_rows; proof_rows = proof_rows; root = root; least = least; node_rows = node_rows; member_count = member_count }

abbrev pub schema_header : ℕ → ℤ → ℤ → SchemaHeader
schema_header rows root least = record { rows = rows; root = root; least = least }
