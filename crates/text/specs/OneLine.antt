-- One step of the line reader: what the line at a place comes to where p is awaited, the place where the reader then stands, and what the lent tables then hold.
-- It stands after that line's byte 10 where a line is awaited next, and stays where it was otherwise.
use Rattle.std.specs.Prelude.{ℕ, ◌+◌, ◌*◌, ◌≡◌, List, eqb, leb, ltb, ℤ, length, drop, get_or, if◌then◌else◌}
use Rattle.std.proofs.lemmas.List.Edits.{sets}
use Rattle.stab.specs.Basic.{◌or◌}
use Rattle.stab.specs.Text.{schema_heading, row_heading, node_heading, model_heading, pair_heading}
use Rattle.stab.specs.Read.{node_numbers}
use Rattle.numerals.specs.Here.{first_numbers}
use Rattle.numerals.specs.Headings.{is_heading}
use Rattle.text.specs.Rows.{past_line, row_found, row_into}
use Rattle.text.specs.Nodes.{node_found, set_into}
use Rattle.text.specs.declared.rows.Found.{Found}
use Rattle.text.specs.declared.rows.Found.TheVariants.{At, Nothing}
use Rattle.text.specs.declared.nodes.NodeFound.{NodeFound}
use Rattle.text.specs.declared.nodes.NodeFound.TheVariants.{At as NodeAt, Nothing as NoNode}
use Rattle.text.specs.declared.awaited.Taken.{Taken}
use Rattle.text.specs.declared.awaited.Awaited.{Awaited}
use Rattle.text.specs.declared.awaited.Awaited.TheVariants.{Row, Pair, Formula, Node, SchemaHeading, SchemaValues, RowHeading, ModelHeading, ModelValue, PairHeading, ProofHeading, Schema, Model, Proof, NoHeading, BadLine, TooMany}

-- ---- what a line comes to, k the line's number

abbrev pub stays : ℕ → Awaited → Taken
stays at p = record { next = at; got = p }

-- "3 heading absent or different"
unfoldable pub headed : List ℕ → List ℕ → ℕ → ℕ → Awaited → Taken
headed h text at k after = if is_heading h (drop at text) then record { next = past_line text at; got = after } else stays at (NoHeading k)

-- a row after n others: "4 not a line of the required form and number of values; 5 one row or member too many; the smaller number where both fit a line"
unfoldable pub row_by : ℕ → ℕ → ℕ → ℕ → Awaited → Found → Taken
row_by at n most k after Nothing = stays at (BadLine k)
row_by at n most k after (At next) = if eqb n most then stays at (TooMany k) else record { next = next; got = after }

-- a row of a schema or a model text, or the text's end
unfoldable pub listed_by : List ℕ → ℕ → ℕ → ℕ → ℕ → Awaited → Awaited → Taken
listed_by text at w n most after ended = if leb (length text) at then stays at ended else row_by at n most (4 + n) after (row_found text at w)

-- "In a proof, a line after the first heading that starts with `u`, or is missing, is judged as the second heading, any other by 4."
unfoldable pub formula_by : List ℕ → ℕ → ℕ → Taken
formula_by text at n =
    if leb (length text) at then stays at (NoHeading (2 + n)) else
    if eqb (get_or text at 256) 117 then headed node_heading text at (2 + n) (Node n 0 0) else
    row_by at n 1024 (2 + n) (Formula (n + 1)) (row_found text at 4)

-- a node row after n formula rows and j others that have k members between them, or the text's end
unfoldable pub node_by : ℕ → ℕ → ℕ → NodeFound → Taken
node_by at n j NoNode = stays at (BadLine (3 + n + j))
node_by at n j (NodeAt next last) = if eqb j 1024 or ltb 8192 last then stays at (TooMany (3 + n + j)) else record { next = next; got = Node n (j + 1) last }

unfoldable pub node_line_by : List ℕ → ℕ → ℕ → ℕ → ℕ → Taken
node_line_by text at n j k = if leb (length text) at then stays at (Proof n j k) else node_by at n j (node_found text at k)

-- what its numbers make of the nodes: a row of nine, or its numbers alone where it is refused
unfoldable pub nodes_by : List ℕ → ℕ → ℕ → ℕ → List ℤ → NodeFound → List ℤ
nodes_by text at j k u NoNode = row_into text at 7 (9 * j) u
nodes_by text at j k u (NodeAt next last) = if eqb j 1024 or ltb 8192 last then row_into text at 7 (9 * j) u else sets u (9 * j) (node_numbers (first_numbers (drop at text)) k)

-- ---- the step

pub record Stand : Type 0 where
  pub taken : Taken
  pub table : List ℤ
  pub nodes : List ℤ
  pub members : List ℤ

abbrev pub stand : Taken → List ℤ → List ℤ → List ℤ → Stand
stand r t u m = record { taken = r; table = t; nodes = u; members = m }

-- a line of values goes where a proof's nodes go
unfoldable pub step : List ℕ → ℕ → Awaited → List ℤ → List ℤ → List ℤ → Stand
step text at (Row n) t u m = stand (listed_by text at 4 n 1024 (Row (n + 1)) (Schema n)) (row_into text at 4 (4 * n) t) u m
step text at (Pair k) t u m = stand (listed_by text at 2 k 4096 (Pair (k + 1)) (Model k)) (row_into text at 2 (2 * k) t) u m
step text at (Formula n) t u m = stand (formula_by text at n) (row_into text at 4 (4 * n) t) u m
step text at (Node n j k) t u m = stand (node_line_by text at n j k) t (nodes_by text at j k u (node_found text at k)) (set_into text at k m)
step text at SchemaHeading t u m = stand (headed schema_heading text at 1 SchemaValues) t u m
step text at SchemaValues t u m = stand (row_by at 0 1 2 RowHeading (row_found text at 2)) t (row_into text at 2 0 u) m
step text at RowHeading t u m = stand (headed row_heading text at 3 (Row 0)) t u m
step text at ModelHeading t u m = stand (headed model_heading text at 1 ModelValue) t u m
step text at ModelValue t u m = stand (row_by at 0 1 2 PairHeading (row_found text at 1)) t (row_into text at 1 0 u) m
step text at PairHeading t u m = stand (headed pair_heading text at 3 (Pair 0)) t u m
step text at ProofHeading t u m = stand (headed row_heading text at 1 (Formula 0)) t u m
step text at (Schema n) t u m = stand (stays at (Schema n)) t u m
step text at (Model k) t u m = stand (stays at (Model k)) t u m
step text at (Proof n j k) t u m = stand (stays at (Proof n j k)) t u m
step text at (NoHeading k) t u m = stand (stays at (NoHeading k)) t u m
step text at (BadLine k) t u m = stand (stays at (BadLine k)) t u m
step text at (TooMany k) t u m = stand (stays at (TooMany k)) t u m

-- The step was made.
abbrev pub Stepped : List ℕ → ℕ → Awaited → List ℤ → List ℤ → List ℤ → Taken → List ℤ → List ℤ → List ℤ → Type 0
Stepped text at p t u m r t' u' m' = stand r t' u' m' ≡ step text at p t u m

-- ---- the lines that are no rows of a list

abbrev pub Single : Awaited → Type 0
Single (Row n) = ⊥
Single (Pair k) = ⊥
Single (Formula n) = ⊥
Single (Node n j k) = ⊥
Single SchemaHeading = Unit {0}
Single SchemaValues = Unit {0}
Single RowHeading = Unit {0}
Single ModelHeading = Unit {0}
Single ModelValue = Unit {0}
Single PairHeading = Unit {0}
Single ProofHeading = Unit {0}
Single (Schema n) = Unit {0}
Single (Model k) = Unit {0}
Single (Proof n j k) = Unit {0}
Single (NoHeading k) = Unit {0}
Single (BadLine k) = Unit {0}
Single (TooMany k) = Unit {0}

-- the step at such a line, which leaves all but one table alone
abbrev pub OnceStepped : List ℕ → ℕ → Awaited → List ℤ → List ℤ → Taken → Type 0
OnceStepped text at p u u' r = (t m : List ℤ) → Single p → Stepped text at p t u m r t u' m
