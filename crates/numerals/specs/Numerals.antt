-- What the functions on fields give.
use Rattle.std.specs.Prelude.{ℕ, ◌+◌, List, eqb, ℤ, drop, set, if◌then◌else◌}
use Rattle.std.proofs.Math.Option.{Option, none, some}
use Rattle.stab.specs.Text.{space, newline}
use Rattle.numerals.specs.Here.{ends_field, field_end, past_field, natural_here, number_here}
use Rattle.numerals.specs.declared.Numeral.{Numeral}
use Rattle.numerals.specs.declared.Step.{Step}
use Rattle.numerals.specs.declared.Step.TheVariants.{Bad, More, Last}

unfoldable pub no_numeral : Numeral
no_numeral = record { value = 0; next = 0; end = 0 }

-- digits that stand for v, up to the place e, before the byte b
unfoldable pub closed_by : ℕ → ℕ → ℕ → Numeral
closed_by v e b = if ends_field b then record { value = v; next = e + 1; end = b } else no_numeral

unfoldable pub numeral_as : Option ℕ → ℕ → ℕ → Numeral
numeral_as none e b = no_numeral
numeral_as (some v) e b = record { value = v; next = e; end = b }

-- the natural number that is the whole of the field at a place
unfoldable pub natural_at : List ℕ → ℕ → Numeral
natural_at text at = let xs = drop at text in numeral_as (natural_here xs) (at + past_field xs) (field_end xs)

-- ---- a number goes into a lent table

-- what follows the number, by the byte that ends its field
unfoldable pub step_by : ℕ → ℕ → Step
step_by e next = if eqb e space then More next else if eqb e newline then Last next else Bad

unfoldable pub step_of : Option ℤ → ℕ → ℕ → Step
step_of none e next = Bad
step_of (some z) e next = step_by e next

-- the number at k, if there is one
unfoldable pub kept_of : List ℤ → ℕ → Option ℤ → List ℤ
kept_of t k none = t
kept_of t k (some z) = set t k z

unfoldable pub kept_by : ℕ → List ℤ → ℕ → ℤ → List ℤ
kept_by e t k z = if ends_field e then set t k z else t

unfoldable pub step_at : List ℕ → ℕ → Step
step_at text at = let xs = drop at text in step_of (number_here xs) (field_end xs) (at + past_field xs)
