-- What the functions on lines give.
use Rattle.std.specs.Prelude.{ℕ, suc, ◌+◌, ◌<◌, ◌≤◌, ◌≡◌, Bool, List, ◌++◌, eqb, ℤ, length, take, drop}
use Rattle.std.proofs.Math.Option.{Option, none, some}
use Rattle.std.proofs.lemmas.List.Edits.{sets}
use Rattle.stab.specs.Text.{some_if}
use Rattle.stab.specs.Read.{Reading, read, ◌and_then◌, ProofText}
use Rattle.numerals.specs.Here.{first_line, after_line, row, first_numbers}
use Rattle.text.specs.declared.rows.Part.{Part}
use Rattle.text.specs.declared.rows.Part.TheVariants.{Bad, Ended, Open}
use Rattle.text.specs.declared.rows.Found.{Found}
use Rattle.text.specs.declared.rows.Found.TheVariants.{At, Nothing}

-- ---- rows

-- numbers in front of the rest of a row
unfoldable pub row_front : List ℤ → Option (List ℤ) → Option (List ℤ)
row_front us none = none
row_front us (some vs) = some (us ++ vs)

-- The line at a place ends with the numbers that were stored last.
pub record RowEnded (text : List ℕ) (at : ℕ) (t : List ℤ) (to : ℕ) (t' : List ℤ) (to' next : ℕ) : Type 0 where
  pub vs : List ℤ
  pub numbers : row (drop at text) ≡ some vs
  pub table : t' ≡ sets t to vs
  pub count : to' ≡ to + length vs
  pub rest : after_line (drop at text) ≡ drop next text
  pub ahead : at < next
  pub within : next ≤ length text

-- It goes on after them, whether or not what follows is as it has to be.
pub record RowOpen (text : List ℕ) (at : ℕ) (t : List ℤ) (to : ℕ) (t' : List ℤ) (to' next : ℕ) : Type 0 where
  pub vs : List ℤ
  pub numbers : row (drop at text) ≡ row_front vs (row (drop next text))
  pub first : first_numbers (drop at text) ≡ vs ++ first_numbers (drop next text)
  pub table : t' ≡ sets t to vs
  pub count : to' ≡ to + length vs
  pub rest : after_line (drop at text) ≡ after_line (drop next text)
  pub ahead : at + length vs ≤ next
  pub within : next ≤ length text

-- w numbers of the line at a place, into a table from `to` on
abbrev pub PartOf : List ℕ → ℕ → List ℤ → ℕ → ℕ → List ℤ → Part → Type 0
PartOf text at t to w t' Bad = (row (drop at text) ≡ none) × (length (first_numbers (drop at text)) ≤ w)
PartOf text at t to w t' (Ended to' next) = RowEnded text at t to t' to' next × (to' ≤ to + w)
PartOf text at t to w t' (Open next) = RowOpen text at t to t' (to + w) next

-- ---- rows as they have to be

-- numbers, if there are as many as required
unfoldable pub wanted : (ℕ → Bool) → Option (List ℤ) → Option (List ℤ)
wanted fits none = none
wanted fits (some vs) = some_if (fits (length vs)) vs

-- the place after the line at a place, with its byte 10
unfoldable pub past_line : List ℕ → ℕ → ℕ
past_line text at = at + suc (length (first_line (drop at text)).content)

unfoldable pub found_by : Option (List ℤ) → ℕ → Found
found_by none next = Nothing
found_by (some vs) next = At next

-- a row of w numbers at a place
unfoldable pub row_found : List ℕ → ℕ → ℕ → Found
row_found text at w = found_by (wanted (eqb w) (row (drop at text))) (past_line text at)

-- the numbers that a line starts with, w of them at most, in a table from `to` on: what was stored before the line was found to be no row stays
unfoldable pub row_into : List ℕ → ℕ → ℕ → ℕ → List ℤ → List ℤ
row_into text at w to t = sets t to (take w (first_numbers (drop at text)))

-- ---- rows in front of those that are read

unfoldable pub ahead : List ℤ → Reading (List ℤ) → Reading (List ℤ)
ahead vs r = r and_then λ rest. read (vs ++ rest)

unfoldable pub proof_ahead : List ℤ → Reading ProofText → Reading ProofText
proof_ahead vs r = r and_then λ p. read (record { table = vs ++ p.table; nodes = p.nodes; members = p.members })
