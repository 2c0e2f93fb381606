-- 01, "Turning records away": writing. The text of some rows, or the refusal; and what the lent output then holds.
use Rattle.std.specs.Prelude.{ℕ, zero, suc, ◌*◌, Bool, true, List, [], ◌∷◌, ◌++◌, leb, ℤ, pos, length, take, drop, Result, Ok, Err}
use Rattle.stab.specs.Basic.{◌and◌, eq_z, all_of, ◌otherwise◌}
use Rattle.stab.specs.Node.{node_at, set_of, set_start, set_follows}
use Rattle.stab.specs.Text.{five_digits, row_line, heading_line, schema_heading, row_heading, node_heading, model_heading, pair_heading, text_limit, padded}
use Rattle.stab.specs.Check.{holds, whole_unless}
use Rattle.stab.specs.declared.Refused.{Refused}
use Rattle.stab.specs.Finding.{Place, refuse, Finding}
use Rattle.stab.specs.declared.Refusal.{Refusal}
use Rattle.stab.specs.declared.Refusal.TheVariants.{TableTooShort, TooMany, Number, Output}

-- ---- the texts

-- n rows of w numbers, a line each
unfoldable pub row_lines : ℕ → ℕ → List ℤ → List ℕ
row_lines w zero t = []
row_lines w (suc n) t = row_line (take w t) ++ row_lines w n (drop w t)

-- a node row: seven numbers, then its set
unfoldable pub node_values : List ℤ → List ℤ → ℕ → List ℤ
node_values nodes members j = take 7 (drop (9 * j) nodes) ++ set_of members (node_at nodes j)

-- n node rows from node j on, a line each
unfoldable pub node_lines : List ℤ → List ℤ → ℕ → ℕ → List ℕ
node_lines nodes members j zero = []
node_lines nodes members j (suc n) = row_line (node_values nodes members j) ++ node_lines nodes members (suc j) n

unfoldable pub schema_text : List ℤ → ℕ → ℤ → ℤ → List ℕ
schema_text t n root least = heading_line schema_heading ++ row_line (root ∷ least ∷ []) ++ heading_line row_heading ++ row_lines 4 n t

unfoldable pub proof_text : List ℤ → ℕ → List ℤ → ℕ → List ℤ → List ℕ
proof_text t n nodes k members = heading_line row_heading ++ row_lines 4 n t ++ heading_line node_heading ++ node_lines nodes members 0 k

unfoldable pub model_text : ℤ → List ℤ → ℕ → List ℕ
model_text v t n = heading_line model_heading ++ row_line (v ∷ []) ++ heading_line pair_heading ++ row_lines 2 n t

-- ---- refusals

-- "21 a number beyond 5 digits": the first n rows of w numbers
unfoldable pub rows_writable : ℕ → ℕ → List ℤ → Bool
rows_writable w n t = all_of five_digits (take (w * n) t)

-- the seven numbers of node j that are written
unfoldable pub node_writable : List ℤ → ℕ → Bool
node_writable nodes j = all_of five_digits (take 7 (drop (9 * j) nodes))

-- of the first k nodes, the sets follow one another and the numbers can be written
unfoldable pub nodes_writable : List ℤ → ℕ → Bool
nodes_writable nodes zero = true
nodes_writable nodes (suc k) = nodes_writable nodes k and set_follows nodes k and node_writable nodes k

-- "sets not following one another to the last member"
unfoldable pub sets_writable : List ℤ → ℕ → List ℤ → ℕ → Bool
sets_writable nodes k members m = nodes_writable nodes k and eq_z (set_start nodes k) (pos m) and all_of five_digits (take m members)

-- the first refusal among 2, 5 and 21
unfoldable pub write_refusal : Bool → Bool → Bool → Finding
write_refusal held few writable = whole_unless held TableTooShort otherwise whole_unless few TooMany otherwise whole_unless writable Number

-- "22 output shorter than the text, or the text over 65,536 bytes", for an output of n bytes
unfoldable pub output_refusal : ℕ → List ℕ → Finding
output_refusal n text = whole_unless (leb (length text) n and leb (length text) text_limit) Output

-- What writing comes to: a refusal, or the text.
pub data Writing : Type 0 where
  refused : Refusal → Place → Writing
  wrote : List ℕ → Writing

unfoldable pub writing_of : Finding → List ℕ → Writing
writing_of (Ok u) text = wrote text
writing_of (Err r) text = refused r.why r.place

unfoldable pub writing : Finding → ℕ → List ℕ → Writing
writing why n text = writing_of (why otherwise output_refusal n text) text

-- n is the length of the output throughout
unfoldable pub write_schema : List ℤ → ℕ → ℤ → ℤ → ℕ → Writing
write_schema t r root least n =
    writing
    (write_refusal (holds t 4 r) (leb r 1024) (five_digits root and five_digits least and rows_writable 4 r t))
    n
    (schema_text t r root least)

unfoldable pub write_proof : List ℤ → ℕ → List ℤ → ℕ → List ℤ → ℕ → ℕ → Writing
write_proof t r nodes k members m n =
    writing
    (write_refusal (holds t 4 r and holds nodes 9 k and holds members 1 m) (leb r 1024 and leb k 1024 and leb m 8192) (rows_writable 4 r t and sets_writable nodes k members m))
    n
    (proof_text t r nodes k members)

unfoldable pub write_model : ℤ → List ℤ → ℕ → ℕ → Writing
write_model v t r n =
    writing
    (write_refusal (holds t 2 r) (leb r 4096) (five_digits v and rows_writable 2 r t))
    n
    (model_text v t r)

-- ---- what a writer answers, and what the lent output of n bytes holds as it returns: 0 past the last byte, and all 0 after a refusal

unfoldable pub written : Writing → Result ℕ Refused
written (refused why place) = refuse why place
written (wrote text) = Ok (length text)

unfoldable pub output : ℕ → Writing → List ℕ
output n (refused why place) = padded 0 n []
output n (wrote text) = padded 0 n text
