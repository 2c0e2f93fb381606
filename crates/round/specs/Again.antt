-- What a way there and back comes to: a text that is read and written, and rows that are written and read.
use Rattle.std.specs.Prelude.{ℕ, zero, suc, Bool, true, false, List, [], ℤ, pos, length, Some, Ok, Err, Result}
use Rattle.stab.specs.Text.{padded}
use Rattle.stab.specs.Read.{Reading, read, stopped}
use Rattle.stab.specs.Write.{Writing, refused, wrote, writing, written, output}
use Rattle.stab.specs.Answer.{refusal_number}
use Rattle.stab.specs.Finding.{refuse, no_refusal}
use Rattle.stab.specs.declared.Refused.{Refused}
use Rattle.stab.specs.declared.ModelHeader.{ModelHeader}
use Rattle.stab.specs.declared.ProofCounts.{ProofCounts}
use Rattle.stab.specs.declared.SchemaHeader.{SchemaHeader}
use Rattle.stab.specs.declared.Refusal.TheVariants.{TableTooShort}
use Rattle.stab.specs.Check.{refusal}

-- ---- "Lent result memory is then all 0": what stays of lent memory where the answer has this number, and what is 0 in it

unfoldable pub kept : {A : Type 0} → A → ℕ → List A → List A
kept nothing zero memory = memory
kept nothing (suc refusal) memory = padded nothing (length memory) []

-- the number of such an answer: 0, or that of the refusal
unfoldable pub answer_number : {A : Type 0} → Result A Refused → ℕ
answer_number (Ok a) = 0
answer_number (Err e) = refusal_number e.why

-- ---- a text that is read, and written into an output of n bytes: the text itself, or 22 where the output is shorter; or the refusal in reading

unfoldable pub text_again : {A : Type 0} → Reading A → ℕ → List ℕ → Result ℕ Refused
text_again (read a) n text = written (writing no_refusal n text)
text_again (stopped why k) n text = refuse why (Some k)

-- what the output then holds
unfoldable pub bytes_again : {A : Type 0} → Reading A → ℕ → List ℕ → List ℕ
bytes_again (read a) n text = output n (writing no_refusal n text)
bytes_again (stopped why k) n text = padded 0 n []

-- ---- rows that are written, and read into tables of full size or not: the same rows; or the refusal in writing; or 2

unfoldable pub schema_again : Writing → Bool → ℤ → ℤ → ℕ → Result SchemaHeader Refused
schema_again (wrote text) true root least rows = Ok (record { root = root; least = least; rows = rows })
schema_again (wrote text) false root least rows = refuse TableTooShort (Some 0)
schema_again (refused why place) full root least rows = refuse why place

unfoldable pub proof_again : Writing → Bool → ℕ → ℕ → ℕ → Result ProofCounts Refused
proof_again (wrote text) true rows nodes members = Ok (record { rows = rows; nodes = nodes; members = members })
proof_again (wrote text) false rows nodes members = refuse TableTooShort (Some 0)
proof_again (refused why place) full rows nodes members = refuse why place

unfoldable pub model_again : Writing → Bool → ℤ → ℕ → Result ModelHeader Refused
model_again (wrote text) true n pairs = Ok (record { n = n; pairs = pairs })
model_again (wrote text) false n pairs = refuse TableTooShort (Some 0)
model_again (refused why place) full n pairs = refuse why place

-- what a table of n numbers then holds, for the numbers that were written
unfoldable pub table_again : Writing → Bool → ℕ → List ℤ → List ℤ
table_again (wrote text) true n numbers = padded (pos 0) n numbers
table_again (wrote text) false n numbers = padded (pos 0) n []
table_again (refused why place) full n numbers = padded (pos 0) n []
