-- 01, "Turning records away": reading a text. What is read, or the refusal and its line; and what the lent tables then hold.
use Rattle.std.specs.Prelude.{ℕ, suc, ◌+◌, ◌-◌, ◌/◌, Bool, true, false, List, [], ◌∷◌, ◌++◌, leb, eqb, ℤ, pos, length, take, drop, get_or, if◌then◌else◌, Some, Result, Ok}
use Rattle.std.proofs.Math.Option.{Option, none, some}
use Rattle.stab.specs.Basic.{◌and◌}
use Rattle.stab.specs.Text.{Line, lines, same_bytes, numbers, schema_heading, row_heading, node_heading, model_heading, pair_heading, text_limit, padded}
use Rattle.stab.specs.declared.ModelHeader.{ModelHeader}
use Rattle.stab.specs.declared.ProofCounts.{ProofCounts}
use Rattle.stab.specs.Finding.{refuse}
use Rattle.stab.specs.declared.SchemaHeader.{SchemaHeader}
use Rattle.stab.specs.declared.Refused.{Refused}
use Rattle.stab.specs.declared.Refusal.{Refusal}
use Rattle.stab.specs.declared.Refusal.TheVariants.{TextTooLong, TableTooShort, Heading, TooMany}
use Rattle.stab.specs.declared.Refusal.TheVariants.{Line as BadLine}

-- What reading comes to: what was read, or a refusal at a line.
pub data Reading (A : Type 0) : Type 0 where
  read : A → Reading A
  stopped : Refusal → ℕ → Reading A

infixl 22 ◌and_then◌
unfoldable pub ◌and_then◌ : {A B : Type 0} → Reading A → (A → Reading B) → Reading B
read a and_then f = f a
stopped why k and_then f = stopped why k

-- a step that is taken only where the test passes
unfoldable pub require : {A : Type 0} → Bool → Refusal → ℕ → Reading A → Reading A
require true why k r = r
require false why k r = stopped why k

-- ---- single lines, k the line's number

-- "3 heading absent or different"; "A line without its byte 10 is 3 as a heading"; what is read is the rest
unfoldable pub heading_at : List ℕ → ℕ → List Line → Reading (List Line)
heading_at h k [] = stopped Heading k
heading_at h k (l ∷ ls) = require (l.ended and same_bytes l.content h) Heading k (read ls)

-- "4 not a line of the required form and number of values": fits says which numbers of values are required
unfoldable pub values_of : (ℕ → Bool) → ℕ → Option (List ℤ) → Reading (List ℤ)
values_of fits k none = stopped BadLine k
values_of fits k (some vs) = require (fits (length vs)) BadLine k (read vs)

unfoldable pub values : (ℕ → Bool) → ℕ → Line → Reading (List ℤ)
values fits k l = require l.ended BadLine k (values_of fits k (numbers l.content))

-- the one line of values after a first heading; "A missing line counts as the next one."
unfoldable pub values_at : (ℕ → Bool) → ℕ → List Line → Reading (List ℤ × List Line)
values_at fits k [] = stopped BadLine k
values_at fits k (l ∷ ls) = values fits k l and_then λ vs. read (vs, ls)

-- ---- rows of w values up to the end of the text, at most m of them: "5 one row .. too many; the smaller number where both fit a line"

unfoldable pub rows_from : ℕ → ℕ → ℕ → List Line → Reading (List ℤ)
rows_from w m k [] = read []
rows_from w m k (l ∷ ls) =
    values (eqb w) k l and_then λ vs.
    require (leb 1 m) TooMany k
    (rows_from w (m - 1) (suc k) ls and_then λ rest.
    read (vs ++ rest))

-- ---- schema

pub record SchemaText : Type 0 where
  pub root : ℤ
  pub least : ℤ
  pub table : List ℤ

-- "Schema: `root least`, one line, `kind a b c`, rows."
unfoldable pub read_schema_lines : List Line → Reading SchemaText
read_schema_lines ls =
    heading_at schema_heading 1 ls and_then λ ls₁.
    values_at (eqb 2) 2 ls₁ and_then λ v.
    heading_at row_heading 3 v.1 and_then λ ls₃.
    rows_from 4 1024 4 ls₃ and_then λ t.
    read (record { root = get_or v.0 0 (pos 0); least = get_or v.0 1 (pos 0); table = t })

-- ---- proof

pub record ProofText : Type 0 where
  pub table : List ℤ
  pub nodes : List ℤ
  pub members : List ℤ

-- the line starts with `u`
unfoldable pub starts_with_u : List ℕ → Bool
starts_with_u [] = false
starts_with_u (x ∷ xs) = eqb x 117

-- a node row of nine numbers: the seven, then the set's start among the members and its length
unfoldable pub node_numbers : List ℤ → ℕ → List ℤ
node_numbers vs start = take 7 vs ++ pos start ∷ pos (length vs - 7) ∷ []

-- node rows up to the end of the text, at most m of them, after some that have `start` members between them
unfoldable pub nodes_from : ℕ → ℕ → ℕ → List Line → Reading (List ℤ × List ℤ)
nodes_from m start k [] = read ([], [])
nodes_from m start k (l ∷ ls) =
    values (leb 7) k l and_then λ vs.
    require (leb 1 m and leb (start + (length vs - 7)) 8192) TooMany k
    (nodes_from (m - 1) (start + (length vs - 7)) (suc k) ls and_then λ rest.
    read (node_numbers vs start ++ rest.0, drop 7 vs ++ rest.1))

-- "In a proof, a line after the first heading that starts with `u`, or is missing, is judged as the second heading, any other by 4."
unfoldable pub proof_rows_from : ℕ → ℕ → List Line → Reading ProofText
proof_rows_from m k [] = stopped Heading k
proof_rows_from m k (l ∷ ls) =
    if starts_with_u l.content
    then require (l.ended and same_bytes l.content node_heading) Heading k
    (nodes_from 1024 0 (suc k) ls and_then λ r.
    read (record { table = []; nodes = r.0; members = r.1 }))
    else (values (eqb 4) k l and_then λ vs.
    require (leb 1 m) TooMany k
    (proof_rows_from (m - 1) (suc k) ls and_then λ r.
    read (record { table = vs ++ r.table; nodes = r.nodes; members = r.members })))

-- "Proof: `kind a b c`, rows (perhaps none), `up rule on with other to by set`, rows."
unfoldable pub read_proof_lines : List Line → Reading ProofText
read_proof_lines ls =
    heading_at row_heading 1 ls and_then λ ls₁.
    proof_rows_from 1024 2 ls₁

-- ---- model

pub record ModelText : Type 0 where
  pub n : ℤ
  pub table : List ℤ

-- "Model: `n`, one line, `symbol index`, rows."
unfoldable pub read_model_lines : List Line → Reading ModelText
read_model_lines ls =
    heading_at model_heading 1 ls and_then λ ls₁.
    values_at (eqb 1) 2 ls₁ and_then λ v.
    heading_at pair_heading 3 v.1 and_then λ ls₃.
    rows_from 2 4096 4 ls₃ and_then λ t.
    read (record { n = get_or v.0 0 (pos 0); table = t })

-- ---- texts, into lent tables

-- "1 over 65,536 bytes (place 0); 2 a lent table under its full size .. (place 0); then line by line"
unfoldable pub read_text : {A : Type 0} → Bool → (List Line → Reading A) → List ℕ → Reading A
read_text full reader text =
    require (leb (length text) text_limit) TextTooLong 0
    (require full TableTooShort 0 (reader (lines text)))

-- n is the length of the table that is lent: "4,096 numbers for formulas"
unfoldable pub read_schema : ℕ → List ℕ → Reading SchemaText
read_schema n text = read_text (leb 4096 n) read_schema_lines text

-- "4,096 numbers for formulas .. 9,216 for nodes, 8,192 for members"
unfoldable pub read_proof : ℕ → ℕ → ℕ → List ℕ → Reading ProofText
read_proof n nodes members text = read_text (leb 4096 n and leb 9216 nodes and leb 8192 members) read_proof_lines text

-- "8,192 for pairs"
unfoldable pub read_model : ℕ → List ℕ → Reading ModelText
read_model n text = read_text (leb 8192 n) read_model_lines text

-- ---- what a reader answers, and what the lent tables hold as it returns: 0 past the last row and member, and all 0 after a refusal

-- the numbers that were read, in a lent table of n numbers
unfoldable pub table_of : {A : Type 0} → (A → List ℤ) → ℕ → Reading A → List ℤ
table_of part n (read a) = padded (pos 0) n (part a)
table_of part n (stopped why k) = padded (pos 0) n []

unfoldable pub schema_answer : Reading SchemaText → Result SchemaHeader Refused
schema_answer (read s) = Ok (record { root = s.root; least = s.least; rows = length s.table / 4 })
schema_answer (stopped why k) = refuse why (Some k)

unfoldable pub schema_table : ℕ → Reading SchemaText → List ℤ
schema_table n r = table_of (λ s. s.table) n r

unfoldable pub proof_answer : Reading ProofText → Result ProofCounts Refused
proof_answer (read p) = Ok (record { rows = length p.table / 4; nodes = length p.nodes / 9; members = length p.members })
proof_answer (stopped why k) = refuse why (Some k)

unfoldable pub proof_table : ℕ → Reading ProofText → List ℤ
proof_table n r = table_of (λ p. p.table) n r

unfoldable pub node_table : ℕ → Reading ProofText → List ℤ
node_table n r = table_of (λ p. p.nodes) n r

unfoldable pub member_table : ℕ → Reading ProofText → List ℤ
member_table n r = table_of (λ p. p.members) n r

unfoldable pub model_answer : Reading ModelText → Result ModelHeader Refused
model_answer (read m) = Ok (record { n = m.n; pairs = length m.table / 2 })
model_answer (stopped why k) = refuse why (Some k)

unfoldable pub pair_table : ℕ → Reading ModelText → List ℤ
pair_table n r = table_of (λ m. m.table) n r
