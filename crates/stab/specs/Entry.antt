-- What the text entries give: the one number, and the numbers that were read, in lent results; of two texts also where a refusal points.
use Rattle.std.specs.Prelude.{ℕ, ◌+◌, ◌*◌, ◌/◌, ◌%◌, ◌≤◌, List, [], ◌∷◌, eqb, ℤ, pos, if◌then◌else◌, Err, Result, Ok}
use Rattle.stab.specs.Answer.{WrittenNumbers, one_number, packed, answer_in, place_in, Packs, schema_numbers, proof_numbers, model_numbers, written_numbers}
use Rattle.stab.specs.declared.ModelHeader.{ModelHeader}
use Rattle.stab.specs.declared.ProofCounts.{ProofCounts}
use Rattle.stab.specs.declared.SchemaHeader.{SchemaHeader}
use Rattle.stab.specs.declared.Refused.{Refused}
use Rattle.stab.specs.Finding.{Verdict}
use Rattle.stab.specs.declared.Fault.{Fault}

-- ---- the one number: answer and place as in a check's, both counts 0

unfoldable pub without_counts : ℕ → ℤ → ℕ
without_counts answer place = one_number (record { answer = answer; place = place; nodes = 0; links = 0 })

unfoldable pub schema_packed : Result SchemaHeader Refused → ℕ
schema_packed r = let a = schema_numbers r in without_counts a.answer a.place

unfoldable pub proof_packed : Result ProofCounts Refused → ℕ
proof_packed r = let a = proof_numbers r in without_counts a.answer a.place

unfoldable pub model_packed : Result ModelHeader Refused → ℕ
model_packed r = let a = model_numbers r in without_counts a.answer a.place

-- the bytes stand where a check's two counts do
unfoldable pub written_packed : Result ℕ Refused → ℕ
written_packed w = let a = written_numbers w in without_counts a.answer a.place + a.bytes

-- read back as zorambi_bytes of include/zorambi.h does
unfoldable pub written_in : ℕ → WrittenNumbers
written_in x = record { answer = answer_in x; place = place_in x; bytes = x % 67108864 }

-- what is read is within the limits, and a refusal's place fits
abbrev pub SchemaFits : Result SchemaHeader Refused → Type 0
SchemaFits (Ok c) = c.rows ≤ 1024
SchemaFits (Err r) = Packs (Err r)

abbrev pub ProofFits : Result ProofCounts Refused → Type 0
ProofFits (Ok c) = (c.rows ≤ 1024) × (c.nodes ≤ 1024) × (c.members ≤ 8192)
ProofFits (Err r) = Packs (Err r)

abbrev pub ModelFits : Result ModelHeader Refused → Type 0
ModelFits (Ok c) = c.pairs ≤ 4096
ModelFits (Err r) = Packs (Err r)

-- the bytes stay below the place
abbrev pub WrittenFits : Result ℕ Refused → Type 0
WrittenFits (Ok n) = n ≤ 65536
WrittenFits (Err r) = Packs (Err r)

-- ---- the lent results: "all 0 on refusal"

-- root, least, rows
unfoldable pub schema_results : Result SchemaHeader Refused → List ℤ
schema_results r = let a = schema_numbers r in a.root ∷ a.least ∷ pos a.rows ∷ []

-- rows, nodes, members
unfoldable pub proof_results : Result ProofCounts Refused → List ℤ
proof_results r = let a = proof_numbers r in pos a.rows ∷ pos a.nodes ∷ pos a.members ∷ []

-- n, pairs
unfoldable pub model_results : Result ModelHeader Refused → List ℤ
model_results r = let a = model_numbers r in a.n ∷ pos a.pairs ∷ []

-- ---- where a refusal points, as a number: twice the line, and 1 more in the second text; line 0 is none

unfoldable pub fault_number : Fault → ℕ
fault_number f = 2 * f.line + (if f.second then 1 else 0)

unfoldable pub fault_in : ℕ → Fault
fault_in x = record { second = eqb (x % 2) 1; line = x / 2 }

-- ---- two texts read and checked: the number of where the refusal points, and below it the verdict's one number

-- 17592186044416 is 32 × 8192 × 8192 × 8192: every verdict's number is below it, since a refusal's is at most 31
unfoldable pub texts_packed : Verdict → Fault → ℕ
texts_packed v f = fault_number f * 17592186044416 + packed v

-- its two parts, as the functions of include/zorambi.h shift and mask
abbrev pub number_part : ℕ → ℕ
number_part x = x % 17592186044416

abbrev pub fault_part : ℕ → Fault
fault_part x = fault_in (x / 17592186044416)
