-- What the functions on node rows give.
use Rattle.std.specs.Prelude.{ℕ, ◌+◌, ◌-◌, ◌≡◌, List, ◌++◌, leb, ℤ, length, drop}
use Rattle.std.proofs.Math.Option.{Option, none, some}
use Rattle.std.proofs.lemmas.List.Edits.{sets}
use Rattle.stab.specs.Read.{Reading, read, ◌and_then◌}
use Rattle.numerals.specs.Here.{row, first_numbers}
use Rattle.text.specs.Rows.{RowEnded, wanted, past_line}
use Rattle.text.specs.declared.nodes.NodeFound.{NodeFound}
use Rattle.text.specs.declared.nodes.NodeFound.TheVariants.{At, Nothing}

-- the rest of a line, into the members
abbrev pub SetOf : List ℕ → ℕ → List ℤ → ℕ → List ℤ → NodeFound → Type 0
SetOf text at m start m' Nothing = row (drop at text) ≡ none
SetOf text at m start m' (At next last) = RowEnded text at m start m' last next

unfoldable pub node_found_by : Option (List ℤ) → ℕ → ℕ → NodeFound
node_found_by none next start = Nothing
node_found_by (some vs) next start = At next (start + (length vs - 7))

-- a node row at a place, its set to stand from `start` on among the members
unfoldable pub node_found : List ℕ → ℕ → ℕ → NodeFound
node_found text at start = node_found_by (wanted (leb 7) (row (drop at text))) (past_line text at) start

-- the numbers that a line starts with, after seven of them, among the members from `start` on
unfoldable pub set_into : List ℕ → ℕ → ℕ → List ℤ → List ℤ
set_into text at start m = sets m start (drop 7 (first_numbers (drop at text)))

-- nodes and members in front of those that are read
unfoldable pub nodes_ahead : List ℤ → List ℤ → Reading (List ℤ × List ℤ) → Reading (List ℤ × List ℤ)
nodes_ahead us vs r = r and_then λ rest. read (us ++ rest.0, vs ++ rest.1)
