-- What is awaited of a text, and what its lines from there on come to.
use Rattle.std.specs.Prelude.{ℕ, suc, ◌+◌, ◌*◌, ◌-◌, ◌≤◌, ◌≡◌, Bool, true, false, List, [], eqb, ℤ, pos, length, take, get_or}
use Rattle.stab.specs.Text.{Line, lines, text_limit, row_heading, pair_heading}
use Rattle.stab.specs.Read.{Reading, read, stopped, ◌and_then◌, heading_at, values_at, rows_from, nodes_from, proof_rows_from}
use Rattle.stab.specs.Read.{SchemaText, read_schema_lines, ModelText, read_model_lines, ProofText, read_proof_lines}
use Rattle.stab.specs.declared.Refusal.TheVariants.{Heading as HeadingRefused, Line as LineRefused, TooMany as TooManyRefused}
use Rattle.text.specs.Rows.{ahead, proof_ahead}
use Rattle.text.specs.Nodes.{nodes_ahead}
use Rattle.text.specs.declared.awaited.Awaited.{Awaited}
use Rattle.text.specs.declared.awaited.Awaited.TheVariants.{Row, Pair, Formula, Node, SchemaHeading, SchemaValues, RowHeading, ModelHeading, ModelValue, PairHeading, ProofHeading, Schema, Model, Proof, NoHeading, BadLine, TooMany}

-- ---- what a text comes to

pub data Whole : Type 0 where
  schema : SchemaText → Whole
  model : ModelText → Whole
  proof : ProofText → Whole

-- rows after a schema's values, or a model's
unfoldable pub schema_with : List ℤ → Reading (List ℤ) → Reading Whole
schema_with vs r = r and_then λ t. read (schema (record { root = get_or vs 0 (pos 0); least = get_or vs 1 (pos 0); table = t }))

unfoldable pub model_with : List ℤ → Reading (List ℤ) → Reading Whole
model_with vs r = r and_then λ t. read (model (record { n = get_or vs 0 (pos 0); table = t }))

-- a second heading, and rows
unfoldable pub schema_rows : List ℤ → List Line → Reading Whole
schema_rows vs ls = heading_at row_heading 3 ls and_then λ rest. schema_with vs (rows_from 4 1024 4 rest)

unfoldable pub model_rows : List ℤ → List Line → Reading Whole
model_rows vs ls = heading_at pair_heading 3 ls and_then λ rest. model_with vs (rows_from 2 4096 4 rest)

unfoldable pub as_proof : Reading ProofText → Reading Whole
as_proof r = r and_then λ p. read (proof p)

-- node rows after formula rows
unfoldable pub proof_with : List ℤ → Reading (List ℤ × List ℤ) → Reading Whole
proof_with t r = r and_then λ n. read (proof (record { table = t; nodes = n.0; members = n.1 }))

-- What the lines from here on come to, where p is awaited, and the tables hold what the lines before gave.
unfoldable pub rest : Awaited → List ℤ → List ℤ → List ℤ → List Line → Reading Whole
rest (Row n) t u m ls = schema_with u (ahead (take (4 * n) t) (rows_from 4 (1024 - n) (4 + n) ls))
rest (Pair k) t u m ls = model_with u (ahead (take (2 * k) t) (rows_from 2 (4096 - k) (4 + k) ls))
rest (Formula n) t u m ls = as_proof (proof_ahead (take (4 * n) t) (proof_rows_from (1024 - n) (2 + n) ls))
rest (Node n j k) t u m ls = proof_with (take (4 * n) t) (nodes_ahead (take (9 * j) u) (take k m) (nodes_from (1024 - j) k (3 + n + j) ls))
rest SchemaHeading t u m ls = read_schema_lines ls and_then λ s. read (schema s)
rest SchemaValues t u m ls = values_at (eqb 2) 2 ls and_then λ v. schema_rows v.0 v.1
rest RowHeading t u m ls = schema_rows u ls
rest ModelHeading t u m ls = read_model_lines ls and_then λ s. read (model s)
rest ModelValue t u m ls = values_at (eqb 1) 2 ls and_then λ v. model_rows v.0 v.1
rest PairHeading t u m ls = model_rows u ls
rest ProofHeading t u m ls = as_proof (read_proof_lines ls)
rest (Schema n) t u m ls = schema_with u (read (take (4 * n) t))
rest (Model k) t u m ls = model_with u (read (take (2 * k) t))
rest (Proof n j k) t u m ls = read (proof (record { table = take (4 * n) t; nodes = take (9 * j) u; members = take k m }))
rest (NoHeading k) t u m ls = stopped HeadingRefused k
rest (BadLine k) t u m ls = stopped LineRefused k
rest (TooMany k) t u m ls = stopped TooManyRefused k

-- ---- a line is awaited, and how much is left to read

abbrev pub goes_on : Awaited → Bool
goes_on (Row n) = true
goes_on (Pair k) = true
goes_on (Formula n) = true
goes_on (Node n j k) = true
goes_on SchemaHeading = true
goes_on SchemaValues = true
goes_on RowHeading = true
goes_on ModelHeading = true
goes_on ModelValue = true
goes_on PairHeading = true
goes_on ProofHeading = true
goes_on (Schema n) = false
goes_on (Model k) = false
goes_on (Proof n j k) = false
goes_on (NoHeading k) = false
goes_on (BadLine k) = false
goes_on (TooMany k) = false

abbrev pub left_if : Bool → ℕ → ℕ
left_if true n = suc n
left_if false n = 0

abbrev pub left : List ℕ → ℕ → Awaited → ℕ
left text at p = left_if (goes_on p) (length text - at)

-- ---- reading a line

-- the tables' lengths allow what is awaited
abbrev pub Room : Awaited → ℕ → ℕ → ℕ → Type 0
Room (Row n) t u m = (n ≤ 1024) × (4096 ≤ t)
Room (Pair k) t u m = (k ≤ 4096) × (8192 ≤ t)
Room (Formula n) t u m = (n ≤ 1024) × (4096 ≤ t) × (9216 ≤ u) × (8192 ≤ m)
Room (Node n j k) t u m = (n ≤ 1024) × (j ≤ 1024) × (k ≤ 8192) × (4096 ≤ t) × (9216 ≤ u) × (8192 ≤ m)
Room SchemaHeading t u m = (4096 ≤ t) × (2 ≤ u)
Room SchemaValues t u m = (4096 ≤ t) × (2 ≤ u)
Room RowHeading t u m = 4096 ≤ t
Room ModelHeading t u m = (8192 ≤ t) × (1 ≤ u)
Room ModelValue t u m = (8192 ≤ t) × (1 ≤ u)
Room PairHeading t u m = 8192 ≤ t
Room ProofHeading t u m = (4096 ≤ t) × (9216 ≤ u) × (8192 ≤ m)
Room (Schema n) t u m = 4 * n ≤ t
Room (Model k) t u m = 2 * k ≤ t
Room (Proof n j k) t u m = (4 * n ≤ t) × (9 * j ≤ u) × (k ≤ m)
Room (NoHeading k) t u m = Unit {0}
Room (BadLine k) t u m = Unit {0}
Room (TooMany k) t u m = Unit {0}

pub record Ready (text : List ℕ) (at : ℕ) (p : Awaited) (t u m : List ℤ) : Type 0 where
  pub within : at ≤ length text
  pub short : length text ≤ text_limit
  pub room : Room p (length t) (length u) (length m)

-- All lines were read.
pub record ReadAll (text : List ℕ) (start : Awaited) (t u m : List ℤ) (p : Awaited) (t' u' m' : List ℤ) : Type 0 where
  pub over : goes_on p ≡ false
  pub same : rest start t u m (lines text) ≡ rest p t' u' m' []
  pub room : Room p (length t') (length u') (length m')
