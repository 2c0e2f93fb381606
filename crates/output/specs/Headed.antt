-- The form that a schema's text and a model's share: a heading, one line, a heading, rows.
use Rattle.std.specs.Prelude.{ℕ, ◌+◌, ◌*◌, ◌≤◌, ◌≡◌, true, List, ◌++◌, leb, ℤ, length, take}
use Rattle.stab.specs.Basic.{◌and◌, all_of}
use Rattle.stab.specs.Text.{five_digits, row_line, heading_line}
use Rattle.stab.specs.Check.{holds}
use Rattle.stab.specs.Write.{row_lines, rows_writable, write_refusal, Writing, writing}

-- r rows of w numbers
unfoldable pub headed_text : List ℕ → List ℤ → List ℕ → ℕ → List ℤ → ℕ → List ℕ
headed_text first line second w t r = heading_line first ++ row_line line ++ heading_line second ++ row_lines w r t

-- at most `most` rows, into an output of n bytes
unfoldable pub write_headed : List ℕ → List ℤ → List ℕ → ℕ → ℕ → List ℤ → ℕ → ℕ → Writing
write_headed first line second w most t r n =
    writing
    (write_refusal (holds t w r) (leb r most) (all_of five_digits line and rows_writable w r t))
    n
    (headed_text first line second w t r)

-- r rows of w numbers stand in the table, and can be written
pub record Writable (w : ℕ) (t : List ℤ) (r : ℕ) : Type 0 where
  pub some : 1 ≤ w
  pub held : w * r ≤ length t
  pub digits : all_of five_digits (take (w * r) t) ≡ true

-- the line in front can be written
pub record Front (line : List ℤ) : Type 0 where
  pub some : 1 ≤ length line
  pub digits : all_of five_digits line ≡ true

-- headings and a line that are short
pub record Short (first : List ℕ) (line : List ℤ) (second : List ℕ) : Type 0 where
  pub few : length first + length second ≤ 1000
  pub some : 1 ≤ length line
  pub short : length line ≤ 2
