-- The paper's numbers for every case of every answer, and the one number that provers get.
use Rattle.std.specs.Prelude.{ℕ, ◌+◌, ◌*◌, ◌/◌, ◌%◌, ◌<◌, ℤ, pos, neg_ℤ, ◌+ℤ◌, ◌-ℤ◌, None, Some, Ok, Err, Result}
use Rattle.stab.specs.Basic.{nat}
use Rattle.stab.specs.declared.ModelHeader.{ModelHeader}
use Rattle.stab.specs.declared.ProofCounts.{ProofCounts}
use Rattle.stab.specs.declared.SchemaHeader.{SchemaHeader}
use Rattle.stab.specs.declared.Refused.{Refused}
use Rattle.stab.specs.Finding.{Place, Verdict}
use Rattle.stab.specs.declared.Refusal.{Refusal}
use Rattle.stab.specs.declared.Refusal.TheVariants.{TextTooLong, TableTooShort, Heading, Line, TooMany, Root, IllFormed, TooLarge, Set, Parent, Drawn, Fields, Target, Bound, Partner, Lowered, Children, Pair, Width, False, Number, Output, Repeated, Wires, Plain, Leasts, Joint, Room, NoRow, Waiting, NotListed}

-- ---- numbers of refusals and places

abbrev pub refusal_number : Refusal → ℕ
refusal_number TextTooLong = 1
refusal_number TableTooShort = 2
refusal_number Heading = 3
refusal_number Line = 4
refusal_number TooMany = 5
refusal_number Root = 6
refusal_number IllFormed = 7
refusal_number TooLarge = 8
refusal_number Set = 9
refusal_number Parent = 10
refusal_number Drawn = 11
refusal_number Fields = 12
refusal_number Target = 13
refusal_number Bound = 14
refusal_number Partner = 15
refusal_number Lowered = 16
refusal_number Children = 17
refusal_number Pair = 18
refusal_number Width = 19
refusal_number False = 20
refusal_number Number = 21
refusal_number Output = 22
refusal_number Plain = 23
refusal_number Room = 24
refusal_number NoRow = 25
refusal_number Waiting = 26
refusal_number Repeated = 27
refusal_number Leasts = 28
refusal_number Joint = 29
refusal_number Wires = 30
refusal_number NotListed = 31

abbrev pub place_number : Place → ℤ
place_number None = neg_ℤ (pos 1)
place_number (Some k) = pos k

-- ---- an answer in numbers: "Every refusal gives its number, a place and zero counts." "Acceptance gives .., place 0. Other successes also have place 0"

-- answer, place and the two counts of a check
pub record Numbers : Type 0 where
  pub answer : ℕ
  pub place : ℤ
  pub nodes : ℕ
  pub links : ℕ

unfoldable pub refused_numbers : Refusal → Place → Numbers
refused_numbers why p = record { answer = refusal_number why; place = place_number p; nodes = 0; links = 0 }

unfoldable pub verdict_numbers : Verdict → Numbers
verdict_numbers (Ok c) = record { answer = 0; place = pos 0; nodes = c.nodes; links = c.links }
verdict_numbers (Err r) = refused_numbers r.why r.place

-- "reading gives root and least, or n, and the numbers of formula, pair or node rows and of members, all 0 on refusal"
pub record SchemaNumbers : Type 0 where
  pub answer : ℕ
  pub place : ℤ
  pub root : ℤ
  pub least : ℤ
  pub rows : ℕ

unfoldable pub schema_numbers : Result SchemaHeader Refused → SchemaNumbers
schema_numbers (Ok c) = record { answer = 0; place = pos 0; root = c.root; least = c.least; rows = c.rows }
schema_numbers (Err r) = record { answer = refusal_number r.why; place = place_number r.place; root = pos 0; least = pos 0; rows = 0 }

pub record ProofNumbers : Type 0 where
  pub answer : ℕ
  pub place : ℤ
  pub rows : ℕ
  pub nodes : ℕ
  pub members : ℕ

unfoldable pub proof_numbers : Result ProofCounts Refused → ProofNumbers
proof_numbers (Ok c) = record { answer = 0; place = pos 0; rows = c.rows; nodes = c.nodes; members = c.members }
proof_numbers (Err r) = record { answer = refusal_number r.why; place = place_number r.place; rows = 0; nodes = 0; members = 0 }

pub record ModelNumbers : Type 0 where
  pub answer : ℕ
  pub place : ℤ
  pub n : ℤ
  pub pairs : ℕ

unfoldable pub model_numbers : Result ModelHeader Refused → ModelNumbers
model_numbers (Ok c) = record { answer = 0; place = pos 0; n = c.n; pairs = c.pairs }
model_numbers (Err r) = record { answer = refusal_number r.why; place = place_number r.place; n = pos 0; pairs = 0 }

-- "writing gives the bytes"
pub record WrittenNumbers : Type 0 where
  pub answer : ℕ
  pub place : ℤ
  pub bytes : ℕ

unfoldable pub written_numbers : Result ℕ Refused → WrittenNumbers
written_numbers (Ok n) = record { answer = 0; place = pos 0; bytes = n }
written_numbers (Err r) = record { answer = refusal_number r.why; place = place_number r.place; bytes = 0 }

-- ---- the one number: "((answer × 8192 + place + 1) × 8192 + nodes) × 8192 + links"

unfoldable pub one_number : Numbers → ℕ
one_number a = ((a.answer * 8192 + nat (a.place +ℤ pos 1)) * 8192 + a.nodes) * 8192 + a.links

unfoldable pub packed : Verdict → ℕ
packed v = one_number (verdict_numbers v)

-- its four parts, as the functions of include/zorambi.h shift and mask: 549755813888 is 8192 × 8192 × 8192, 67108864 is 8192 × 8192
abbrev pub answer_in : ℕ → ℕ
answer_in x = x / 549755813888

abbrev pub place_in : ℕ → ℤ
place_in x = pos (x / 67108864 % 8192) -ℤ pos 1

abbrev pub nodes_in : ℕ → ℕ
nodes_in x = x / 8192 % 8192

abbrev pub links_in : ℕ → ℕ
links_in x = x % 8192

unfoldable pub numbers_in : ℕ → Numbers
numbers_in x = record { answer = answer_in x; place = place_in x; nodes = nodes_in x; links = links_in x }

-- place + 1 as a natural number
abbrev pub place_code : Place → ℕ
place_code None = 0
place_code (Some k) = k + 1

-- no part of the one number runs into another: each is below 8192
abbrev pub PlacePacks : Place → Type 0
PlacePacks None = Unit {0}
PlacePacks (Some k) = k + 1 < 8192

abbrev pub Packs : Verdict → Type 0
Packs (Ok c) = (c.nodes < 8192) × (c.links < 8192)
Packs (Err r) = PlacePacks r.place
