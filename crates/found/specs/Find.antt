-- 02, No. 13: a failing width, shown.
use Rattle.std.specs.Prelude.{ℕ, ◌≡◌, ◌⊎◌, Bool, true, false, List, [], ◌∷◌, ◌++◌, leb, ℤ, pos, length, if◌then◌else◌, Ok, Err, Some, None}
use Rattle.std.proofs.Math.Option.{Option, none, some, or_else}
use Rattle.std.specs.Int.Signed.{le_z}
use Rattle.stab.specs.Basic.{◌and◌, ◌or◌, eq_z, nat, ◌otherwise◌}
use Rattle.stab.specs.Formula.{Schema, Formula, schema_formula}
use Rattle.stab.specs.Meaning.{Assignment, truth}
use Rattle.stab.specs.Check.{whole_unless, at_unless, holds, schema_refusal}
use Rattle.stab.specs.Occurs.{Wire, occurring, table}
use Rattle.stab.specs.Text.{padded}
use Rattle.stab.specs.Answer.{refusal_number, place_number, one_number}
use Rattle.stab.specs.declared.Refusal.TheVariants.{TableTooShort, TooMany, Width, Wires}
use Rattle.stab.specs.Finding.{accept, Verdict, Finding}
use Rattle.found.specs.Shown.{Shown}

-- What the search is lent: a schema and n; how many numbers the result table has room for.
pub record Query : Type 0 where
  pub schema : Schema
  pub n : ℤ
  pub room : ℕ

-- the schema's formula
unfoldable pub formula : Query → Formula
formula Q = schema_formula Q.schema

-- the pairs that "occur in the sense of No. 12", ascending
unfoldable pub wires : Query → List Wire
wires Q = occurring (nat Q.n) (formula Q)

-- ---- the first model

-- these pairs are true, every other is false
unfoldable pub among : List Wire → Assignment
among [] s z = false
among (w ∷ ws) s z = (eq_z w.symbol s and eq_z w.index z) or among ws s z

-- "Take these ascending, the first most significant, false before true, and give the first assignment in that order that makes the
-- schema true": the pairs chosen to be true so far, and those that are still to be given a value
unfoldable pub first_from : (List Wire → Bool) → List Wire → List Wire → Option (List Wire)
first_from holds chosen [] = if holds chosen then some chosen else none
first_from holds chosen (w ∷ ws) = or_else (first_from holds chosen ws) (first_from holds (chosen ++ w ∷ []) ws)

-- the schema is true at n where just these pairs are true
unfoldable pub holds_with : Query → List Wire → Bool
holds_with Q chosen = truth (among chosen) (nat Q.n) (formula Q)

-- the true pairs of the first assignment that makes the schema true, if there is one
unfoldable pub first_model : Query → Option (List Wire)
first_model Q = first_from (holds_with Q) [] (wires Q)

-- ---- the answer

-- "Result tables .. fall first under 2 as in reading"; then 2, 5, 6, 7, 8, 6 as in checking a model; "n is limited as in 19"; "30,
-- after 19, when more than 16 pairs occur"
unfoldable pub find_refusal : Query → Finding
find_refusal Q =
    at_unless (leb 8192 Q.room) TableTooShort 0 otherwise
    whole_unless (holds Q.schema.table 4 Q.schema.rows) TableTooShort otherwise
    whole_unless (leb Q.schema.rows 1024) TooMany otherwise
    schema_refusal Q.schema otherwise
    whole_unless (le_z Q.schema.least Q.n and le_z Q.n (pos 9999)) Width otherwise
    whole_unless (leb (length (wires Q)) 16) Wires

-- a model, or "none"
unfoldable pub model_or : ℤ → Option (List Wire) → Shown
model_or n none = (Ok None)
model_or n (some ws) = Ok (Some (record { n = n; pairs = length ws }))

-- what is found, by what was found before the search
unfoldable pub found_by : Finding → Query → Shown
found_by (Ok u) Q = model_or Q.n (first_model Q)
found_by (Err r) Q = Err r

unfoldable pub find : Query → Shown
find Q = found_by (find_refusal Q) Q

-- the pairs that are given: none where there is no model
unfoldable pub model_pairs : Option (List Wire) → List Wire
model_pairs none = []
model_pairs (some ws) = ws

unfoldable pub given_by : Finding → Query → List Wire
given_by (Ok u) Q = model_pairs (first_model Q)
given_by (Err r) Q = []

unfoldable pub given : Query → List Wire
given Q = given_by (find_refusal Q) Q

-- the lent result table: 0 past the last pair, all 0 with "none" and after a refusal
unfoldable pub found_table : Query → List ℤ
found_table Q = padded (pos 0) Q.room (table (given Q))

-- ---- the answer in numbers

-- "given" is 1 where a model is given, and stands where a check's number of nodes does
pub record FoundNumbers : Type 0 where
  pub answer : ℕ
  pub place : ℤ
  pub given : ℕ
  pub n : ℤ
  pub pairs : ℕ

unfoldable pub found_numbers : Shown → FoundNumbers
found_numbers (Ok (Some c)) = record { answer = 0; place = pos 0; given = 1; n = c.n; pairs = c.pairs }
found_numbers (Ok None) = record { answer = 0; place = pos 0; given = 0; n = pos 0; pairs = 0 }
found_numbers (Err r) = record { answer = refusal_number r.why; place = place_number r.place; given = 0; n = pos 0; pairs = 0 }

-- the one number
unfoldable pub found_packed : Shown → ℕ
found_packed r = let a = found_numbers r in one_number (record { answer = a.answer; place = a.place; nodes = a.given; links = 0 })

-- the verdict with that number
abbrev pub found_verdict : Shown → Verdict
found_verdict (Ok (Some c)) = accept 1 0
found_verdict (Ok None) = accept 0 0
found_verdict (Err r) = Err r

-- the lent results: n, pairs
unfoldable pub found_results : Shown → List ℤ
found_results r = let a = found_numbers r in a.n ∷ pos a.pairs ∷ []

-- ---- the order of assignments, as a plain statement

-- over these pairs one assignment comes before another: at the first pair at which they differ it is false
abbrev pub Earlier : List Wire → Assignment → Assignment → Type 0
Earlier [] σ τ = ⊥
Earlier (w ∷ ws) σ τ =
    ((σ w.symbol w.index ≡ false) × (τ w.symbol w.index ≡ true)) ⊎
    ((σ w.symbol w.index ≡ τ w.symbol w.index) × Earlier ws σ τ)
