-- 01, "A whole record, and its neighbours": what the programs print; "Model, texts, lines": where a refusal points.
use Rattle.std.specs.Prelude.{ℕ, ◌/◌, Bool, true, false, List, [], ◌∷◌, ◌++◌, leb, ltb, pos, length, if◌then◌else◌, None, Some, Ok, Err}
use Rattle.stab.specs.Basic.{◌and◌}
use Rattle.stab.specs.Node.{Tableau}
use Rattle.stab.specs.Check.{check_as}
use Rattle.stab.specs.Model.{Model, check_model}
use Rattle.stab.specs.Text.{bytes, heading_line, row_line, padded}
use Rattle.stab.specs.Read.{Reading, read, stopped, SchemaText, ProofText, ModelText, read_schema, read_proof, read_model}
use Rattle.stab.specs.LineNumber.{schema_row_line, proof_row_line, node_line, pair_line}
use Rattle.stab.specs.Answer.{Numbers, refusal_number, verdict_numbers}
use Rattle.stab.specs.Finding.{Place, Verdict, refuse}
use Rattle.stab.specs.declared.Refusal.{Refusal}
use Rattle.stab.specs.declared.Fault.{Fault}

-- "prints `answer place nodes links`, then" the four numbers. "Each line ends with byte 10."
unfoldable pub printed : Numbers → List ℕ
printed a = heading_line (bytes "answer place nodes links") ++ row_line (pos a.answer ∷ a.place ∷ pos a.nodes ∷ pos a.links ∷ [])

-- the tables as the program lends them, at their full sizes, with the counts that reading gave
unfoldable pub tableau_of : SchemaText → ProofText → Tableau
tableau_of s p = record {
  schema = padded (pos 0) 4096 s.table;
  schema_rows = length s.table / 4;
  proof = padded (pos 0) 4096 p.table;
  proof_rows = length p.table / 4;
  root = s.root;
  least = s.least;
  nodes = padded (pos 0) 9216 p.nodes;
  node_rows = length p.nodes / 9;
  members = padded (pos 0) 8192 p.members;
  member_count = length p.members;
}

unfoldable pub model_of : SchemaText → ModelText → Model
model_of s m = record {
  schema = record { table = padded (pos 0) 4096 s.table; rows = length s.table / 4; root = s.root; least = s.least };
  n = m.n;
  pairs = padded (pos 0) 8192 m.table;
  pair_rows = length m.table / 2;
}

-- "A text refused in reading, the schema's first, is printed the same way with counts 0, and nothing is checked."
unfoldable pub after_reading : {A B : Type 0} → (A → B → Verdict) → Reading A → Reading B → Verdict
after_reading judge (read a) (read b) = judge a b
after_reading judge (read a) (stopped why k) = refuse why (Some k)
after_reading judge (stopped why k) r = refuse why (Some k)

-- the check's verdict on a schema text and a proof text; if `older` holds, that of the check for older records
unfoldable pub check_texts : Bool → List ℕ → List ℕ → Verdict
check_texts older schema proof = after_reading (λ s p. check_as older (tableau_of s p)) (read_schema 4096 schema) (read_proof 4096 9216 8192 proof)

-- the model check's verdict on a schema text and a model text
unfoldable pub model_texts : List ℕ → List ℕ → Verdict
model_texts schema model = after_reading (λ s m. check_model (model_of s m)) (read_schema 4096 schema) (read_model 8192 model)

-- what the check program, or the one for older records, prints for the bytes of schema.txt and of proof.txt
unfoldable pub check_program : Bool → List ℕ → List ℕ → List ℕ
check_program older schema proof = printed (verdict_numbers (check_texts older schema proof))

-- what the model check program prints for the bytes of schema.txt and of model.txt
unfoldable pub model_program : List ℕ → List ℕ → List ℕ
model_program schema model = printed (verdict_numbers (model_texts schema model))

-- ---- where a refusal points

unfoldable pub no_fault : Fault
no_fault = record { second = false; line = 0 }

unfoldable pub in_first : ℕ → Fault
in_first k = record { second = false; line = k }

unfoldable pub in_second : ℕ → Fault
in_second k = record { second = true; line = k }

-- "Schema row r is line 4 + r; with S schema and P proof rows, proof row r is line 2 + r - S"
unfoldable pub row_fault : ℕ → ℕ → Fault
row_fault S r = if ltb r S then in_first (schema_row_line r) else in_second (proof_row_line S r)

-- refusals a to b
unfoldable pub among : ℕ → ℕ → Refusal → Bool
among a b why = leb a (refusal_number why) and leb (refusal_number why) b

-- at place k of a tableau: 7, 8 and 27 name a formula row, 9 to 17 a node, "node j line 3 + P + j"
unfoldable pub check_points : ℕ → ℕ → Refusal → ℕ → Fault
check_points S P why k =
    if among 7 8 why then row_fault S k else
    if among 9 17 why then in_second (node_line P k) else
    if among 27 27 why then row_fault S k else
    no_fault

-- at place k of a model: 7 and 8 name a schema row, 18 a pair
unfoldable pub model_points : Refusal → ℕ → Fault
model_points why k = if among 7 8 why then in_first (schema_row_line k) else if among 18 18 why then in_second (pair_line k) else no_fault

unfoldable pub place_fault : (ℕ → Fault) → Place → Fault
place_fault points None = no_fault
place_fault points (Some k) = points k

unfoldable pub verdict_fault : (Refusal → ℕ → Fault) → Verdict → Fault
verdict_fault points (Ok c) = no_fault
verdict_fault points (Err r) = place_fault (points r.why) r.place

-- a text refused in reading, the schema's first: the place is the line, and 0, which is no line, for the whole text or a table
unfoldable pub fault_after_reading : {A B : Type 0} → (A → B → Fault) → Reading A → Reading B → Fault
fault_after_reading judge (read a) (read b) = judge a b
fault_after_reading judge (read a) (stopped why k) = in_second k
fault_after_reading judge (stopped why k) r = in_first k

-- where the check's refusal of a schema text and a proof text points, or that of the check for older records
unfoldable pub check_fault : Bool → List ℕ → List ℕ → Fault
check_fault older schema proof =
    fault_after_reading
    (λ s p. verdict_fault (check_points (length s.table / 4) (length p.table / 4)) (check_as older (tableau_of s p)))
    (read_schema 4096 schema)
    (read_proof 4096 9216 8192 proof)

-- where the model check's refusal of a schema text and a model text points
unfoldable pub model_fault : List ℕ → List ℕ → Fault
model_fault schema model =
    fault_after_reading (λ s m. verdict_fault model_points (check_model (model_of s m))) (read_schema 4096 schema) (read_model 8192 model)
