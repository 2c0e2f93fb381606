-- What two texts come to, as the code goes: the schema's rows in a table, then the second text.
use Rattle.std.specs.Prelude.{ℕ, ◌/◌, Bool, List, ℤ, pos, length, Some, Err}
use Rattle.stab.specs.Lent.{lent, lent_schema, header, schema_header}
use Rattle.stab.specs.Check.{check_as}
use Rattle.stab.specs.Model.{check_model}
use Rattle.stab.specs.Text.{padded}
use Rattle.stab.specs.Read.{Reading, read, stopped, SchemaText, ProofText, ModelText, read_schema, read_proof, read_model}
use Rattle.stab.specs.Finding.{Verdict}
use Rattle.stab.specs.declared.SchemaHeader.{SchemaHeader}
use Rattle.outcome.specs.declared.Outcome.{Outcome}
use Rattle.outcome.specs.declared.Outcome.TheVariants.{First, Second, Judged}

-- the verdict, a refusal in reading being one
abbrev pub verdict_of : Outcome → Verdict
verdict_of (First r) = Err r
verdict_of (Second r) = Err r
verdict_of (Judged v s p) = v

-- a schema text, and what comes after it: its rows in a table, their count, root and least value
unfoldable pub after_schema : (List ℤ → SchemaHeader → Outcome) → Reading SchemaText → Outcome
after_schema next (read s) = next (padded (pos 0) 4096 s.table) (schema_header (length s.table / 4) s.root s.least)
after_schema next (stopped why k) = First (record { why = why; place = Some k })

unfoldable pub check_after : Bool → Reading ProofText → List ℤ → SchemaHeader → Outcome
check_after older (read p) t h =
    Judged
    (check_as older (lent t (padded (pos 0) 4096 p.table) (padded (pos 0) 9216 p.nodes) (padded (pos 0) 8192 p.members)
    (header h.rows (length p.table / 4) h.root h.least (length p.nodes / 9) (length p.members))))
    h.rows
    (length p.table / 4)
check_after older (stopped why k) t h = Second (record { why = why; place = Some k })

unfoldable pub check_outcome : Bool → List ℕ → List ℕ → Outcome
check_outcome older schema proof = after_schema (check_after older (read_proof 4096 9216 8192 proof)) (read_schema 4096 schema)

unfoldable pub model_after : Reading ModelText → List ℤ → SchemaHeader → Outcome
model_after (read m) t h =
    Judged (check_model (record { schema = lent_schema t h; n = m.n; pairs = padded (pos 0) 8192 m.table; pair_rows = length m.table / 2 })) h.rows 0
model_after (stopped why k) t h = Second (record { why = why; place = Some k })

unfoldable pub model_outcome : List ℕ → List ℕ → Outcome
model_outcome schema model = after_schema (model_after (read_model 8192 model)) (read_schema 4096 schema)
