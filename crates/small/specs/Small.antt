-- 02, No. 14: all small schemata.
use Rattle.std.specs.Prelude.{ℕ, zero, suc, ◌*◌, ◌-◌, Bool, true, false, List, [], ◌∷◌, ◌++◌, leb, ℤ, pos, neg_ℤ, take, if◌then◌else◌, Ok, Err, Result}
use Rattle.std.proofs.Math.Option.{Option, none, some}
use Rattle.std.specs.Int.Signed.{lt_z}
use Rattle.stab.specs.Basic.{◌and◌, ◌or◌, eq_z, within, ◌otherwise◌}
use Rattle.stab.specs.Formula.{Row, row_at, Kind, kind_of, constant, literal, junction, iteration, unknown, tree, is_outer, well_formed}
use Rattle.stab.specs.Check.{whole_unless, holds}
use Rattle.stab.specs.Text.{padded}
use Rattle.stab.specs.Answer.{refusal_number, place_number, one_number}
use Rattle.stab.specs.declared.Refusal.TheVariants.{TableTooShort, NotListed}
use Rattle.stab.specs.Finding.{accept, Verdict, Finding}
use Rattle.small.specs.declared.Next.TheVariants.{Table, Last}
use Rattle.stab.specs.declared.Refused.{Refused}
use Rattle.small.specs.declared.Next.{Next}

-- ---- which tables are on the list

-- "symbol 0, literal offsets -1 to 1, iterations from 0 with c 0 or 1"
unfoldable pub small_as : Row → Kind → Bool
small_as w (constant v) = true
small_as w (literal v) = eq_z w.a (pos 0) and within (neg_ℤ (pos 1)) (pos 1) w.c
small_as w (junction o) = true
small_as w (iteration o) = eq_z w.b (pos 0) and within (pos 0) (pos 1) w.c
small_as w unknown = false

-- row r is well formed as in 01, and small
unfoldable pub is_small : (ℕ → Row) → ℕ → Bool
is_small rows r = well_formed rows r and small_as (rows r) (kind_of (rows r).kind)

-- so are the first n rows
unfoldable pub all_small : (ℕ → Row) → ℕ → Bool
all_small rows zero = true
all_small rows (suc n) = all_small rows n and is_small rows n

-- "For 1 to 3 formula rows, .. every well-formed table with" such rows, "and an outer last row as root"
unfoldable pub on_list : ℕ → List ℤ → Bool
on_list n t = leb 1 n and leb n 3 and all_small (row_at t) n and is_outer (tree (row_at t) (n - 1))

-- ---- "in ascending order of their numbers, read row after row"

-- one table comes before another of the same length: its number is smaller at the first place at which they differ
unfoldable pub table_before : List ℤ → List ℤ → Bool
table_before [] [] = false
table_before [] (y ∷ ys) = true
table_before (x ∷ xs) [] = false
table_before (x ∷ xs) (y ∷ ys) = lt_z x y or eq_z x y and table_before xs ys

-- ---- the list itself, ascending: each row is drawn from those that a row of its number can be

-- f at 0, 1, .. n - 1, one after another
unfoldable pub over_each : {A : Type 0} → (ℕ → List A) → ℕ → List A
over_each f zero = []
over_each f (suc n) = over_each f n ++ f n

unfoldable pub row_of : ℕ → ℤ → ℤ → ℤ → List ℤ
row_of kind a b c = pos kind ∷ a ∷ b ∷ c ∷ []

-- a literal or negated literal: b 0 to 2, c -1 to 1
unfoldable pub literal_rows : ℕ → List (List ℤ)
literal_rows kind =
    over_each (λ b. row_of kind (pos 0) (pos b) (neg_ℤ (pos 1)) ∷ row_of kind (pos 0) (pos b) (pos 0) ∷ row_of kind (pos 0) (pos b) (pos 1) ∷ []) 3

-- an and or an or: earlier rows
unfoldable pub junction_rows : ℕ → ℕ → List (List ℤ)
junction_rows kind r = over_each (λ a. over_each (λ b. row_of kind (pos a) (pos b) (pos 0) ∷ []) r) r

-- an iteration: an earlier row, from 0, c 0 or 1
unfoldable pub iteration_rows : ℕ → ℕ → List (List ℤ)
iteration_rows kind r = over_each (λ a. row_of kind (pos a) (pos 0) (pos 0) ∷ row_of kind (pos a) (pos 0) (pos 1) ∷ []) r

-- what row r can be, ascending
unfoldable pub rows_for : ℕ → List (List ℤ)
rows_for r =
    (row_of 0 (pos 0) (pos 0) (pos 0) ∷ row_of 1 (pos 0) (pos 0) (pos 0) ∷ []) ++
    literal_rows 2 ++ literal_rows 3 ++ junction_rows 4 r ++ junction_rows 5 r ++ iteration_rows 6 r ++ iteration_rows 7 r

-- a table with each of these rows after it
unfoldable pub extended : List ℤ → List (List ℤ) → List (List ℤ)
extended t [] = []
extended t (w ∷ ws) = (t ++ w) ∷ extended t ws

unfoldable pub extended_all : List (List ℤ) → List (List ℤ) → List (List ℤ)
extended_all [] ws = []
extended_all (t ∷ ts) ws = extended t ws ++ extended_all ts ws

-- every table of n such rows
unfoldable pub tables : ℕ → List (List ℤ)
tables zero = [] ∷ []
tables (suc r) = extended_all (tables r) (rows_for r)

unfoldable pub filtered : (List ℤ → Bool) → List (List ℤ) → List (List ℤ)
filtered p [] = []
filtered p (t ∷ ts) = if p t then t ∷ filtered p ts else filtered p ts

-- "list every well-formed table"
unfoldable pub small_tables : ℕ → List (List ℤ)
small_tables n = filtered (on_list n) (tables n)

-- ---- the next table

-- the first of an ascending list that comes after t
unfoldable pub first_after : List ℤ → List (List ℤ) → Option (List ℤ)
first_after t [] = none
first_after t (u ∷ us) = if table_before t u then some u else first_after t us

-- "From one table the operation gives the next": of n rows, read up to their count
unfoldable pub next_table : ℕ → List ℤ → Option (List ℤ)
next_table n t = first_after (take (4 * n) t) (small_tables n)

-- "31, after 2 as in checking (for both tables), if the number of rows is not 1 to 3 or the given table is not on the list", with room
-- for `room` numbers in the result table
unfoldable pub next_refusal : ℕ → List ℤ → ℕ → Finding
next_refusal n t room =
    whole_unless (holds t 4 n and leb (4 * n) room) TableTooShort otherwise
    whole_unless (on_list n t) NotListed

unfoldable pub next_or : Option (List ℤ) → Result Next Refused
next_or none = Ok Last
next_or (some u) = Ok Table

unfoldable pub next_by : Finding → Option (List ℤ) → Result Next Refused
next_by (Ok u) next = next_or next
next_by (Err r) next = Err r

unfoldable pub next_small : ℕ → List ℤ → ℕ → Result Next Refused
next_small n t room = next_by (next_refusal n t room) (next_table n t)

-- the lent result table: the next one, 0 past its rows; with "last" and after a refusal "a result table of 0s"
unfoldable pub numbers_or : Option (List ℤ) → List ℤ
numbers_or none = []
numbers_or (some u) = u

unfoldable pub next_numbers : Finding → Option (List ℤ) → List ℤ
next_numbers (Ok u) next = numbers_or next
next_numbers (Err r) next = []

unfoldable pub next_small_table : ℕ → List ℤ → ℕ → List ℤ
next_small_table n t room = padded (pos 0) room (next_numbers (next_refusal n t room) (next_table n t))

-- ---- the answer in numbers

-- "given" is 1 where a next table is given, and stands where a check's number of nodes does
pub record NextNumbers : Type 0 where
  pub answer : ℕ
  pub place : ℤ
  pub given : ℕ

unfoldable pub next_small_numbers : Result Next Refused → NextNumbers
next_small_numbers (Ok Table) = record { answer = 0; place = pos 0; given = 1 }
next_small_numbers (Ok Last) = record { answer = 0; place = pos 0; given = 0 }
next_small_numbers (Err r) = record { answer = refusal_number r.why; place = place_number r.place; given = 0 }

-- the one number
unfoldable pub next_packed : Result Next Refused → ℕ
next_packed r = let a = next_small_numbers r in one_number (record { answer = a.answer; place = a.place; nodes = a.given; links = 0 })

-- the verdict with that number
abbrev pub next_verdict : Result Next Refused → Verdict
next_verdict (Ok Table) = accept 1 0
next_verdict (Ok Last) = accept 0 0
next_verdict (Err r) = Err r
