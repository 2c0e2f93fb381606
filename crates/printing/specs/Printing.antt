-- What is printed, by the row of four numbers.
use Rattle.std.specs.Prelude.{ℕ, ◌≤◌, ◌≡◌, List, [], ◌∷◌, ◌++◌, ℤ, pos, length, take}
use Rattle.stab.specs.Text.{bytes, heading_line, row_line}
use Rattle.stab.specs.Answer.{Numbers}

unfoldable pub number_row : Numbers → List ℤ
number_row a = pos a.answer ∷ a.place ∷ pos a.nodes ∷ pos a.links ∷ []

unfoldable pub printed_row : List ℤ → List ℕ
printed_row row = heading_line (bytes "answer place nodes links") ++ row_line row

-- n counts bytes at the start of xs; stated in the two parts that the proof of `&out[..n]` asks
abbrev pub Counts : ℕ → List ℕ → Type 0
Counts n xs = (n ≤ length xs) × (n ≡ length (take n xs))
