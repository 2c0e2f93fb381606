-- Trials of the definitions. Each expected text, number and value is worked out from 02, No. 1.
use Prim.Native.Nat.{ℕ, zero, suc, ◌/◌}
use Prim.Native.String.{String}
use mathlib.Core.Path.{◌≡◌, refl}
use mathlib.Core.Bool.{Bool, true, false}
use mathlib.Core.List.{List, [], ◌∷◌, ◌++◌}
use lib.IntN.{ℤ, pos}
use lib.ListN.{length, replicate}
use Rattle.stab.specs.Basic.{nat}
use Rattle.stab.specs.Formula.{row_at}
use Rattle.stab.specs.Model.{listed}
use Rattle.stab.specs.Text.{bytes}
use Rattle.stab.specs.Read.{Reading, read, stopped, SchemaText, read_schema}
use Rattle.stab.specs.Write.{schema_text}
use Rattle.stab.specs.Answer.{refused_numbers}
use Rattle.stab.specs.Program.{printed}
use Rattle.std.specs.Prelude.{Ok, Err, Result}
use Rattle.stab.specs.declared.Refused.{Refused}
use Rattle.stab.specs.declared.SchemaHeader.{SchemaHeader}
use Rattle.stab.proofs.Evaluate.{evaluated}
use Rattle.stab.proofs.Cases.{answer}
use Rattle.wide.specs.WideFormula.{wide_kind_of, wide_part_if, wide_part, wide_decode, wide_tree_n, wide_tree, wide_size, wide_depth, wide_loose, wide_fixed, is_wide_body, is_wide_outer, wide_mixes, two_parts, wide_formed_as, wide_formed, wide_small}
use Rattle.wide.specs.WideMeaning.{same, same_as, wide_value, wide_truth}
use Rattle.wide.specs.Plain.{rows_given, start_of, image_as, image_n, image, row, constant_row, literal_row, join_row, iter_row, other, three_rows, given_as, given, plain_rows, columns}
use Rattle.wide.specs.Convert.{WideSchema, plain_table, plain_count, plain_root, wide_row_refusal, wide_refusal, plain_refusal, convert_refusal, converted_by, converted, converted_table_by, converted_table}

-- opens the definitions of this crate that compute
unfoldable opened : {A : Type 0} → A → A
unfolding wide_kind_of wide_part_if wide_part wide_decode wide_tree_n wide_tree wide_size wide_depth wide_loose wide_fixed is_wide_body is_wide_outer wide_mixes two_parts wide_formed_as wide_formed wide_small same same_as wide_value wide_truth rows_given start_of image_as image_n image row constant_row literal_row join_row iter_row other three_rows given_as given plain_rows columns plain_table plain_count plain_root wide_row_refusal wide_refusal plain_refusal convert_refusal converted_by converted converted_table_by converted_table
opened a = a

-- ---- conversions, from text to text

-- a table of rows, all of which are said to be there
pub wide_of : List ℤ → ℤ → ℤ → WideSchema
wide_of t root least = record { schema = record { table = t; rows = length t / 4; root = root; least = least }; room = 4096 }

-- the plain schema text, or the refusal as a check prints it
shown : WideSchema → Result SchemaHeader Refused → List ℕ
shown W (Ok c) = schema_text (converted_table W) c.rows c.root c.least
shown W (Err r) = printed (refused_numbers r.why r.place)

conversion : WideSchema → List ℕ
conversion W = shown W (converted W)

from_reading : Reading SchemaText → List ℕ
from_reading (read s) = conversion (wide_of s.table s.root s.least)
from_reading (stopped why k) = []

schema : String → String → List ℕ
schema root_least rows = bytes "root least\n" ++ bytes root_least ++ bytes "\nkind a b c\n" ++ bytes rows

from_text : String → String → List ℕ
from_text root_least rows = from_reading (read_schema 4096 (schema root_least rows))

-- ---- long tables

-- f m, f (m + 1), .. k times
run : (ℕ → List ℤ) → ℕ → ℕ → List ℤ
run f m zero = []
run f m (suc k) = f m ++ run f (suc m) k

pub four : ℕ → ℕ → ℕ → ℕ → List ℤ
four kind a b c = pos kind ∷ pos a ∷ pos b ∷ pos c ∷ []

-- symbol 0 on what `base` says, under k nots: row k has depth k + 1
pub nots : ℕ → ℕ → List ℤ
nots base k = four 2 0 base 0 ++ run (λ r. four 8 r 0 0) 0 k

-- an equivalence, row 2, under k ands with its left side: row 2 + k has depth 2 + k, and its plain rows have depth 3 + k
pub ands : ℕ → ℕ → List ℤ
ands base k = four 2 0 base 0 ++ four 2 1 base 0 ++ four 10 0 1 0 ++ run (λ r. four 4 r 0 0) 2 k

-- an and of a row with itself, k times: row k has size 2 ^ (k + 1) - 1
pub doubled : ℕ → List ℤ
doubled k = four 2 0 1 0 ++ run (λ r. four 4 r r 0) 0 k

-- k equivalences of two literals
pub equivalences : ℕ → List ℤ
equivalences k = four 2 0 1 0 ++ four 2 1 1 0 ++ run (λ r. four 10 0 1 0) 0 k

-- root and number of rows, or the refusal
summary : Result SchemaHeader Refused → List ℕ
summary (Ok c) = nat c.root ∷ c.rows ∷ []
summary (Err r) = printed (refused_numbers r.why r.place)

pub summed : List ℤ → ℤ → List ℕ
summed t root = summary (converted (wide_of t root (pos 0)))

-- ---- values

bit : Bool → ℕ
bit true = 1
bit false = 0

-- the value at n = 3 of row 2 over p at n and q at n, where neither is true, q is, p is, both are
values_of : ℕ → ℕ → List ℕ
values_of kind b = at [] 0 ∷ at (pos 1 ∷ pos 3 ∷ []) 1 ∷ at (pos 0 ∷ pos 3 ∷ []) 1 ∷ at (pos 0 ∷ pos 3 ∷ pos 1 ∷ pos 3 ∷ []) 2 ∷ []
  where
    at : List ℤ → ℕ → ℕ
    at pairs k = bit (wide_truth (listed pairs k) 3 (wide_tree (row_at (four 2 0 1 0 ++ four 2 1 1 0 ++ four kind 0 b 0)) 2))

-- ---- the trials

pub computed : List (List ℕ)
computed =
    -- the kinds of 01: true, false, a literal, a negated one, and, or, big and, big or
    from_text "6 5" "0 0 0 0\n1 0 0 0\n2 7 2 -1\n3 8 2 4\n4 2 3 0\n5 4 0 0\n6 5 -2 3\n7 4 1 0\n" ∷
    -- p implies q, p equivalent q, p exclusive or q
    from_text "2 0" "2 0 1 0\n2 1 1 0\n9 0 1 0\n" ∷
    from_text "2 0" "2 0 1 0\n2 1 1 0\n10 0 1 0\n" ∷
    from_text "2 0" "2 0 1 0\n2 1 1 0\n11 0 1 0\n" ∷
    -- three nots, and two of them: the root is a row of the literal's
    from_text "3 1" "2 0 1 0\n8 0 0 0\n8 1 0 0\n8 2 0 0\n" ∷
    from_text "2 1" "2 0 1 0\n8 0 0 0\n8 1 0 0\n8 2 0 0\n" ∷
    -- not (not p and q)
    from_text "4 0" "2 0 1 0\n8 0 0 0\n2 1 1 0\n4 1 2 0\n8 3 0 0\n" ∷
    -- an equivalence in the body of a big and; a not in the body of a big or
    from_text "3 0" "2 0 2 0\n2 1 2 1\n10 0 1 0\n6 2 0 1\n" ∷
    from_text "2 0" "2 0 2 0\n8 0 0 0\n7 1 -3 2\n" ∷
    -- the sum of three bits: an exclusive or of an exclusive or
    from_text "4 0" "2 0 1 0\n2 1 1 0\n11 0 1 0\n2 2 1 0\n11 2 3 0\n" ∷
    -- q implies not p
    from_text "3 0" "2 0 1 0\n2 1 1 0\n8 0 0 0\n9 1 2 0\n" ∷
    -- 2: too little room for the result comes first; a table shorter than its count. 5: 1,025 rows
    conversion (record { schema = record { table = four 12 0 0 0; rows = 1025; root = pos 0; least = pos 0 }; room = 4095 }) ∷
    conversion (record { schema = record { table = four 12 0 0 0; rows = 1025; root = pos 0; least = pos 0 }; room = 4096 }) ∷
    conversion (wide_of (run (λ r. four 12 0 0 0) 0 1025) (pos 1025) (pos 0)) ∷
    -- 6: no row, a negative one, a least value out of range; before 7
    from_text "1 0" "2 0 1 0\n" ∷
    from_text "-1 0" "2 0 1 0\n" ∷
    from_text "0 10000" "2 0 1 0\n" ∷
    from_text "1 0" "12 0 0 0\n" ∷
    -- 7: no kind; columns that are not 0; a not of itself, of a negative row; a side that is no smaller row
    from_text "0 0" "12 0 0 0\n" ∷
    from_text "0 0" "2 0 1 0\n8 0 1 0\n" ∷
    from_text "0 0" "2 0 1 0\n8 0 0 1\n" ∷
    from_text "0 0" "2 0 1 0\n9 0 0 1\n" ∷
    from_text "0 0" "2 0 1 0\n8 1 0 0\n" ∷
    from_text "0 0" "2 0 1 0\n8 -1 0 0\n" ∷
    from_text "0 0" "2 0 1 0\n10 0 1 0\n" ∷
    -- sides that mix, under each kind; under a not; a body with a literal on n under a not
    from_text "0 0" "2 0 1 0\n2 1 2 0\n9 0 1 0\n" ∷
    from_text "0 0" "2 0 1 0\n2 1 2 0\n10 0 1 0\n" ∷
    from_text "0 0" "2 0 1 0\n2 1 2 0\n11 0 1 0\n" ∷
    from_text "0 0" "2 0 1 0\n2 1 2 0\n8 1 0 0\n4 0 2 0\n" ∷
    from_text "0 0" "2 0 1 0\n8 0 0 0\n6 1 0 0\n" ∷
    -- 6 again: the root is a not of a literal on i; after 7
    from_text "1 0" "2 0 2 0\n8 0 0 0\n" ∷
    from_text "1 0" "2 0 2 0\n8 0 0 0\n8 2 0 0\n" ∷
    -- not p, p implies q, p equivalent q, p exclusive or q
    values_of 8 0 ∷
    values_of 9 1 ∷
    values_of 10 1 ∷
    values_of 11 1 ∷ []

pub stated : List (List ℕ)
stated =
    schema "12 5" "0 0 0 0\n1 0 0 0\n1 0 0 0\n0 0 0 0\n2 7 2 -1\n3 7 2 -1\n3 8 2 4\n2 8 2 4\n4 4 6 0\n5 5 7 0\n5 8 0 0\n4 9 1 0\n6 10 -2 3\n7 11 -2 3\n7 8 1 0\n6 9 1 0\n" ∷
    schema "4 0" "2 0 1 0\n3 0 1 0\n2 1 1 0\n3 1 1 0\n5 1 2 0\n4 0 3 0\n" ∷
    schema "6 0" "2 0 1 0\n3 0 1 0\n2 1 1 0\n3 1 1 0\n4 0 2 0\n4 1 3 0\n5 4 5 0\n4 0 3 0\n4 1 2 0\n5 7 8 0\n" ∷
    schema "6 0" "2 0 1 0\n3 0 1 0\n2 1 1 0\n3 1 1 0\n4 0 3 0\n4 1 2 0\n5 4 5 0\n4 0 2 0\n4 1 3 0\n5 7 8 0\n" ∷
    schema "1 1" "2 0 1 0\n3 0 1 0\n" ∷
    schema "0 1" "2 0 1 0\n3 0 1 0\n" ∷
    schema "5 0" "2 0 1 0\n3 0 1 0\n2 1 1 0\n3 1 1 0\n4 1 2 0\n5 0 3 0\n" ∷
    schema "10 0" "2 0 2 0\n3 0 2 0\n2 1 2 1\n3 1 2 1\n4 0 2 0\n4 1 3 0\n5 4 5 0\n4 0 3 0\n4 1 2 0\n5 7 8 0\n6 6 0 1\n7 9 0 1\n" ∷
    schema "2 0" "2 0 2 0\n3 0 2 0\n7 1 -3 2\n6 0 -3 2\n" ∷
    schema "14 0" "2 0 1 0\n3 0 1 0\n2 1 1 0\n3 1 1 0\n4 0 3 0\n4 1 2 0\n5 4 5 0\n4 0 2 0\n4 1 3 0\n5 7 8 0\n2 2 1 0\n3 2 1 0\n4 6 11 0\n4 9 10 0\n5 12 13 0\n4 6 10 0\n4 9 11 0\n5 15 16 0\n" ∷
    schema "4 0" "2 0 1 0\n3 0 1 0\n2 1 1 0\n3 1 1 0\n5 3 1 0\n4 2 0 0\n" ∷
    answer "2 0 0 0" ∷
    answer "2 -1 0 0" ∷
    answer "5 -1 0 0" ∷
    answer "6 -1 0 0" ∷
    answer "6 -1 0 0" ∷
    answer "6 -1 0 0" ∷
    answer "6 -1 0 0" ∷
    answer "7 0 0 0" ∷
    answer "7 1 0 0" ∷
    answer "7 1 0 0" ∷
    answer "7 1 0 0" ∷
    answer "7 1 0 0" ∷
    answer "7 1 0 0" ∷
    answer "7 1 0 0" ∷
    answer "7 2 0 0" ∷
    answer "7 2 0 0" ∷
    answer "7 2 0 0" ∷
    answer "7 3 0 0" ∷
    answer "7 2 0 0" ∷
    answer "6 -1 0 0" ∷
    answer "7 2 0 0" ∷
    (1 ∷ 1 ∷ 0 ∷ 0 ∷ []) ∷
    (1 ∷ 1 ∷ 0 ∷ 1 ∷ []) ∷
    (1 ∷ 0 ∷ 0 ∷ 1 ∷ []) ∷
    (0 ∷ 1 ∷ 1 ∷ 0 ∷ []) ∷ []

pub trials : computed ≡ stated
unfolding evaluated answer opened wide_of shown conversion from_reading schema from_text run four bit values_of computed stated
trials = refl

-- 63 nots have depth 64, 64 have 65: 8, before 7 at the next row, and before 6 if the root is not outer
pub depths : (summed (nots 1 63) (pos 63) ∷ summed (nots 1 64) (pos 0) ∷ summed (nots 2 64 ++ four 12 0 0 0) (pos 0) ∷ []) ≡ ((1 ∷ 2 ∷ []) ∷ answer "8 64 0 0" ∷ answer "8 64 0 0" ∷ [])
unfolding evaluated answer opened wide_of run four nots summary summed
depths = refl

-- plain rows of depth 64, the root's own row after 4 + 6 + 60 * 2
pub deep : summed (ands 1 61) (pos 63) ≡ 130 ∷ 132 ∷ []
unfolding evaluated opened wide_of run four ands summary summed
deep = refl

-- of depth 65, which the root need not reach; 6 comes first if the root is not outer
pub too_deep : (summed (ands 1 62) (pos 0) ∷ summed (ands 2 62) (pos 0) ∷ []) ≡ (answer "23 -1 0 0" ∷ answer "6 -1 0 0" ∷ [])
unfolding evaluated answer opened wide_of run four ands summary summed
too_deep = refl

-- an equivalence of size 1 + 2047 + 1 whose plain row has size 3 + 2 * (2047 + 1)
pub large : summed (doubled 10 ++ four 10 10 0 0) (pos 0) ≡ answer "23 -1 0 0"
unfolding evaluated answer opened wide_of run four doubled summary summed
large = refl

-- 4 + 170 * 6 rows are 1,024; with one equivalence more, 23
pub many : plain_count (wide_of (equivalences 170) (pos 2) (pos 0)) ≡ 1024
unfolding evaluated opened wide_of run four equivalences
many = refl

pub too_many : summed (equivalences 171) (pos 2) ≡ answer "23 -1 0 0"
unfolding evaluated answer opened wide_of run four equivalences summary summed
too_many = refl

-- the table: 0 past the last row; all 0 after a refusal
pub filled : converted_table (wide_of (four 2 5 1 0) (pos 0) (pos 0)) ≡ four 2 5 1 0 ++ four 3 5 1 0 ++ replicate 4088 (pos 0)
unfolding evaluated opened wide_of four
filled = refl

pub emptied : converted_table (wide_of (four 2 5 1 0) (pos 1) (pos 0)) ≡ replicate 4096 (pos 0)
unfolding evaluated opened wide_of four
emptied = refl
