-- Trials of the definitions. Each expected value is worked out from 02.
use Prim.Native.Nat.{ℕ, ◌/◌}
use Prim.Native.String.{String}
use mathlib.Core.Path.{◌≡◌, refl}
use mathlib.Core.List.{List, [], ◌∷◌, ◌++◌}
use mathlib.Core.Option.{or_else}
use lib.IntN.{ℤ, pos, negsuc}
use lib.ListN.{length, take, replicate}
use Rattle.stab.specs.Occurs.{wire_before, insert, gathered, inserted, occurring, table}
use Rattle.stab.specs.Text.{bytes, row_line}
use Rattle.stab.specs.Read.{Reading, read, stopped, SchemaText, read_schema}
use Rattle.std.specs.Prelude.{None, Some, Ok}
use Rattle.stab.specs.Finding.{refuse, no_refusal, Finding}
use Rattle.stab.specs.declared.Refusal.TheVariants.{TableTooShort, Wires}
use Rattle.stab.proofs.Evaluate.{evaluated}
use Rattle.found.specs.Find.{Query, formula, wires, among, first_from, holds_with, first_model, find_refusal, model_or, found_by, find, model_pairs, given_by, given, found_table, found_numbers, found_packed, found_results}

-- ---- what is asked, and what is answered

query_of : Reading SchemaText → ℤ → ℕ → Query
query_of (read s) n room =
    record { schema = record { table = s.table; rows = length s.table / 4; root = s.root; least = s.least }; n = n; room = room }
query_of (stopped why k) n room = record { schema = record { table = []; rows = 0; root = pos 0; least = pos 0 }; n = n; room = room }

-- root and least, then the rows
asked : String → String → ℤ → ℕ → Query
asked root_and_least rows n room =
    query_of (read_schema 4096 (bytes "root least\n" ++ bytes root_and_least ++ bytes "\nkind a b c\n" ++ bytes rows)) n room

-- rows of true, whatever the table holds
true_rows : List ℤ → ℕ → ℕ → Query
true_rows table rows room = record { schema = record { table = table; rows = rows; root = pos 0; least = pos 0 }; n = pos 0; room = room }

-- answer, place, whether a model is given; n and pairs; the first six numbers of the table
shown : Query → List ℕ
shown Q =
    row_line
    (pos (found_numbers (find Q)).answer ∷
    (found_numbers (find Q)).place ∷
    pos (found_numbers (find Q)).given ∷
    (found_results (find Q) ++ take 6 (found_table Q)))

-- the same with a table of full size
found : String → String → ℤ → List ℕ
found root_and_least rows n = shown (asked root_and_least rows n 8192)

-- ---- schemata

-- symbol 5 at every i from 0 up to n
every : String
every = "2 5 2 0\n6 0 0 0\n"

-- symbol 0 at n, and not
both : String
both = "2 0 1 0\n3 0 1 0\n4 0 1 0\n"

-- of the symbols 1, 2 and 3 at 0: the first and not the second and the third
one : String
one = "2 1 0 0\n3 2 0 0\n2 3 0 0\n4 0 1 0\n4 3 2 0\n"

-- not the first and the second and the third, or the first and neither of the others
two : String
two = "2 1 0 0\n3 1 0 0\n2 2 0 0\n3 2 0 0\n2 3 0 0\n3 3 0 0\n4 1 2 0\n4 6 4 0\n4 0 3 0\n4 8 5 0\n5 7 9 0\n"

-- symbol 0 at some i from 1 up to n, and at every one
some_from_one : String
some_from_one = "2 0 2 0\n7 0 1 0\n"

every_from_one : String
every_from_one = "2 0 2 0\n6 0 1 0\n"

-- ---- the trials

pub computed : List (List ℕ)
computed =
    -- only the last assignment; none; one in the middle; the first of two
    found "1 0" every (pos 2) ∷
    found "2 0" both (pos 4) ∷
    found "4 0" one (pos 7) ∷
    found "10 0" two (pos 0) ∷
    -- not symbol 0 at n: the first assignment, which has no true pair
    found "0 0" "3 0 1 0\n" (pos 5) ∷
    -- symbol 255 at i - 5 for some i from -3 up to n - 2: at n = 0 that is 255 at -8 or at -7
    found "1 0" "2 255 2 -5\n7 0 -3 2\n" (pos 0) ∷
    -- empty ranges, and a range of one
    found "1 0" some_from_one (pos 0) ∷
    found "1 0" every_from_one (pos 0) ∷
    found "1 0" some_from_one (pos 1) ∷
    -- no pair at all: true, false
    found "0 0" "0 0 0 0\n" (pos 9999) ∷
    found "0 0" "1 0 0 0\n" (pos 9999) ∷
    -- a result table under its full size, and one of which every number is seen; it comes before a schema table that is too short
    shown (asked "1 0" every (pos 2) 8191) ∷
    shown (asked "1 0" every (pos 2) 6) ∷
    shown (true_rows [] 1 0) ∷
    shown (true_rows [] 1 8192) ∷
    -- one row too many; a root that is no row; a row of no kind; a root that is not outer
    shown (true_rows (replicate 4100 (pos 0)) 1025 8192) ∷
    found "1 0" "0 0 0 0\n" (pos 0) ∷
    found "0 0" "8 0 0 0\n" (pos 0) ∷
    found "0 0" "2 0 2 0\n" (pos 0) ∷
    -- n below the least value, over 9999, below 0; n below the least value where 17 pairs occur
    found "0 3" "0 0 0 0\n" (pos 2) ∷
    found "0 3" "0 0 0 0\n" (pos 10000) ∷
    found "0 0" "0 0 0 0\n" (negsuc 0) ∷
    found "1 17" every (pos 16) ∷
    -- the one number: a model, none, 2 at 0, 30
    (found_packed (Ok (Some (record { n = pos 7; pairs = 2 }))) ∷ found_packed (Ok None) ∷ found_packed (refuse TableTooShort (Some 0)) ∷ found_packed (refuse Wires None) ∷ []) ∷ []

pub stated : List (List ℕ)
stated =
    bytes "0 0 1 2 3 5 0 5 1 5 2\n" ∷
    bytes "0 0 0 0 0 0 0 0 0 0 0\n" ∷
    bytes "0 0 1 7 2 1 0 3 0 0 0\n" ∷
    bytes "0 0 1 0 2 2 0 3 0 0 0\n" ∷
    bytes "0 0 1 5 0 0 0 0 0 0 0\n" ∷
    bytes "0 0 1 0 1 255 -7 0 0 0 0\n" ∷
    bytes "0 0 0 0 0 0 0 0 0 0 0\n" ∷
    bytes "0 0 1 0 0 0 0 0 0 0 0\n" ∷
    bytes "0 0 1 1 1 0 1 0 0 0 0\n" ∷
    bytes "0 0 1 9999 0 0 0 0 0 0 0\n" ∷
    bytes "0 0 0 0 0 0 0 0 0 0 0\n" ∷
    bytes "2 0 0 0 0 0 0 0 0 0 0\n" ∷
    bytes "2 0 0 0 0 0 0 0 0 0 0\n" ∷
    bytes "2 0 0 0 0\n" ∷
    bytes "2 -1 0 0 0 0 0 0 0 0 0\n" ∷
    bytes "5 -1 0 0 0 0 0 0 0 0 0\n" ∷
    bytes "6 -1 0 0 0 0 0 0 0 0 0\n" ∷
    bytes "7 0 0 0 0 0 0 0 0 0 0\n" ∷
    bytes "6 -1 0 0 0 0 0 0 0 0 0\n" ∷
    bytes "19 -1 0 0 0 0 0 0 0 0 0\n" ∷
    bytes "19 -1 0 0 0 0 0 0 0 0 0\n" ∷
    bytes "19 -1 0 0 0 0 0 0 0 0 0\n" ∷
    bytes "19 -1 0 0 0 0 0 0 0 0 0\n" ∷
    -- (8192 + 1) * 8192; 8192 * 8192; (2 * 8192 + 1) * 8192 * 8192; 30 * 8192 * 8192 * 8192
    (67117056 ∷ 67108864 ∷ 1099578736640 ∷ 16492674416640 ∷ []) ∷ []

pub trials : computed ≡ stated
unfolding evaluated wire_before insert gathered inserted occurring table formula wires among or_else first_from holds_with first_model find_refusal model_or found_by find model_pairs given_by given found_table found_numbers found_packed found_results query_of asked true_rows shown found every both one two some_from_one every_from_one computed stated
trials = refl

-- 16 pairs are searched, 17 are not
pub pair_limits : List Finding
pair_limits = find_refusal (asked "1 0" every (pos 15) 8192) ∷ find_refusal (asked "1 0" every (pos 16) 8192) ∷ []

pub limit_trials : pair_limits ≡ (no_refusal ∷ refuse Wires None ∷ [])
unfolding evaluated wire_before insert gathered inserted occurring formula wires find_refusal query_of asked every pair_limits
limit_trials = refl
