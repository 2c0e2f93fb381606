-- 01, "Model, texts, lines": a line asked for by its number, and the numbers of lines.
use Rattle.std.specs.Prelude.{ℕ, zero, suc, ◌+◌, ◌-◌, ◌<◌, ◌≡◌, List, [], ◌∷◌, ◌++◌, length, take, drop, if◌then◌else◌}
use Rattle.stab.specs.Text.{Line, newline, lines}

-- A part of a text: where it starts, and its length.
pub record Span : Type 0 where
  pub start : ℕ
  pub len : ℕ

-- "if there is no such line (line 0 and an unfinished last line count as none), as that text's empty start"
unfoldable pub empty_start : Span
empty_start = record { start = 0; len = 0 }

-- line k, counted from 1, of lines of which the first starts at `at`
unfoldable pub span_from : ℕ → ℕ → List Line → Span
span_from at k [] = empty_start
span_from at zero (l ∷ ls) = empty_start
span_from at (suc zero) (l ∷ ls) = if l.ended then record { start = at; len = length l.content } else empty_start
span_from at (suc (suc k)) (l ∷ ls) = span_from (at + length l.content + 1) (suc k) ls

-- "A line asked for by number is handed over as that very part of the schema text or the proof text, without its byte 10"
unfoldable pub line_span : List ℕ → ℕ → Span
line_span text k = span_from 0 k (lines text)

unfoldable pub spanned : List ℕ → Span → List ℕ
spanned text s = take s.len (drop s.start text)

unfoldable pub line_of : List ℕ → ℕ → List ℕ
line_of text k = spanned text (line_span text k)

-- "Schema row r is line 4 + r; with S schema and P proof rows, proof row r is line 2 + r - S and node j line 3 + P + j."
unfoldable pub schema_row_line : ℕ → ℕ
schema_row_line r = 4 + r

unfoldable pub proof_row_line : ℕ → ℕ → ℕ
proof_row_line S r = 2 + r - S

unfoldable pub node_line : ℕ → ℕ → ℕ
node_line P j = 3 + P + j

-- pairs start on the fourth line of a model text: "Model: `n`, one line, `symbol index`, rows."
unfoldable pub pair_line : ℕ → ℕ
pair_line r = 4 + r

-- Line k of a text is there, and with its byte 10 it is this row's text.
pub record LineIs (text : List ℕ) (k : ℕ) (row : List ℕ) : Type 0 where
  -- what is handed over, and byte 10
  pub bytes : line_of text k ++ newline ∷ [] ≡ row
  -- that byte 10 is the text's own, right behind what is handed over
  pub ended : take (suc (line_span text k).len) (drop (line_span text k).start text) ≡ row
  -- it is not the text's empty start
  pub there : 0 < (line_span text k).start
