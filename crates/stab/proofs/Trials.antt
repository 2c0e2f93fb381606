-- Further trials of the definitions, with numbers that no starred case has. Each expected value is worked out from the paper.
use Prim.Native.Nat.{ℕ}
use Prim.Native.String.{String}
use mathlib.Core.Path.{◌≡◌, refl}
use mathlib.Core.Bool.{Bool, true, false}
use mathlib.Core.List.{List, [], ◌∷◌, ◌++◌}
use lib.IntN.{pos, negsuc}
use lib.ListN.{length, replicate}
use Rattle.stab.specs.Basic.{nat}
use Rattle.stab.specs.Formula.{row_at, tree}
use Rattle.stab.specs.Before.{step_by, node_by, refusal_by, check_by, agree, partners_in_order, has_lowered_in_order, lowered_in_order, tests_in_order}
use Rattle.stab.specs.Occurs.{Wire, wire_before, insert, gathered, inserted, occurring, table}
use Rattle.stab.specs.Text.{bytes}
use Rattle.stab.specs.Read.{Reading, read, stopped, SchemaText, read_schema, read_proof}
use Rattle.stab.specs.Write.{model_text, write_model, output}
use Rattle.stab.specs.LineNumber.{line_of}
use Rattle.stab.specs.Answer.{verdict_numbers, packed}
use Rattle.stab.specs.Program.{printed, tableau_of, after_reading, check_program, model_program}
use Rattle.stab.specs.Finding.{accept, refuse}
use Rattle.std.specs.Prelude.{None, Some}
use Rattle.stab.specs.declared.Refusal.TheVariants.{Bound, False}
use Rattle.stab.proofs.Evaluate.{evaluated}
use Rattle.stab.proofs.Cases.{answer}

-- ---- models

-- big and, i from -3 up to n - 2, of symbol 255 at i - 5: at n = 0 that is 255 at -8 and at -7
schema₂₅₅ : List ℕ
schema₂₅₅ = bytes "root least\n1 0\nkind a b c\n2 255 2 -5\n6 0 -3 2\n"

-- true at every n
schema_true : List ℕ
schema_true = bytes "root least\n0 0\nkind a b c\n0 0 0 0\n"

model : String → List ℕ
model rest = bytes "n\n" ++ bytes rest

-- ---- records: one that is false, and the four of the paper's "Plausible, and false" list that a prover could write

schema_false : List ℕ
schema_false = bytes "root least\n0 0\nkind a b c\n1 0 0 0\n"

nodes : String → List ℕ
nodes rest = bytes "kind a b c\nup rule on with other to by set\n" ++ bytes rest

-- a link that lowers n by 0
by_zero : List ℕ
by_zero = check_program false
    (bytes "root least\n3 1\nkind a b c\n2 0 2 0\n6 0 1 0\n2 1 1 0\n4 1 2 0\n")
    (bytes "kind a b c\n6 0 1 1\n2 0 1 0\nup rule on with other to by set\n-1 0 3 -1 -1 -1 0 3\n0 3 1 4 5 -1 0 1 2\n1 8 -1 -1 -1 1 0 1 2\n")

-- n + 2 and index 5 at an open node
open_clash : List ℕ
open_clash = check_program false
    (bytes "root least\n2 3\nkind a b c\n2 0 1 2\n3 0 0 5\n4 0 1 0\n")
    (nodes "-1 0 2 -1 -1 -1 0 2\n0 2 -1 -1 -1 -1 0 0 1\n1 6 0 1 -1 -1 0 0 1\n1 6 0 1 -1 -1 0 0 1\n")

-- the same where the two name one index at the least n of the node
open_clash_at_least : List ℕ
open_clash_at_least =
    check_program false
    (bytes "root least\n2 3\nkind a b c\n2 0 1 2\n3 0 0 5\n4 0 1 0\n")
    (nodes "-1 0 2 -1 -1 -1 0 2\n0 6 0 1 -1 -1 0 0 1\n")

-- an iteration from 2 unfolded where only n ≥ 1 is known
empty_unfolded : List ℕ
empty_unfolded = check_program false
    (bytes "root least\n1 1\nkind a b c\n1 0 0 0\n6 0 2 0\n")
    (bytes "kind a b c\n6 0 2 1\nup rule on with other to by set\n-1 3 1 2 0 -1 0 1\n0 5 0 -1 -1 -1 0 0\n")

-- a link from n ≥ 1 by 1 to a node that knows n ≥ 1
leaf_bound : List ℕ
leaf_bound = check_program false
    (bytes "root least\n4 1\nkind a b c\n2 0 2 0\n7 0 0 0\n3 0 2 0\n6 2 1 0\n4 1 3 0\n")
    (bytes "kind a b c\n6 2 1 1\n3 0 1 0\n7 0 0 1\n2 0 1 0\nup rule on with other to by set\n-1 0 4 -1 -1 -1 0 4\n0 3 3 5 6 -1 0 1 3\n1 4 1 7 8 -1 0 1 5 6\n2 8 -1 -1 -1 1 1 5 7\n2 6 8 6 -1 -1 0 6 8\n")

-- ---- sides in either order

-- A, the big or of row 5, B, that of row 6, and C, the big and of not p, each from 2 up to n, are never all true: B and C are
-- unfolded, and the link has of the two big ors B's rest alone, which has to be A lowered too. Given are the rows 4 to 9, where row 3
-- is p and q and row 8 is A; the rows 18 and 19, of which 19 is the instance; and node 8's set.
sided : (List ℕ → List ℕ → List ℕ) → String → String → String → List ℕ
sided program bodies instance eighth = program
    (bytes "root least\n12 1\nkind a b c\n2 0 2 0\n2 1 2 0\n2 2 2 0\n4 0 1 0\n" ++ bytes bodies ++ bytes "6 7 2 0\n4 8 9 0\n4 11 10 0\n")
    (bytes "kind a b c\n7 6 2 1\n6 7 2 1\n2 0 1 0\n2 1 1 0\n2 2 1 0\n" ++
    bytes instance ++
    bytes "3 0 1 0\nup rule on with other to by set\n-1 0 12 -1 -1 -1 0 12\n0 0 11 -1 -1 -1 0 10 11\n1 2 -1 -1 -1 -1 0 8 9 10\n2 7 8 -1 -1 -1 0 8\n2 3 10 14 20 -1 0 8 9 10\n4 4 9 13 19 -1 0 9 14 20\n5 8 -1 -1 -1 2 1 13 14\n5 0 19 -1 -1 -1 0 19 20\n7 0 18 -1 -1 -1 0 " ++
    bytes eighth ++
    bytes "\n8 6 15 20 -1 -1 0 15 20\n")

-- the bodies (p and q) and r, and r and (q and p)
swapped : String
swapped = "4 1 0 0\n4 3 2 0\n4 2 4 0\n3 0 2 0\n7 5 2 0\n7 6 2 0\n"

-- the same, with B over A's body
one_body : String
one_body = "4 1 0 0\n4 3 2 0\n4 2 4 0\n3 0 2 0\n7 5 2 0\n7 5 2 0\n"

-- the bodies (p and q) and r, and p and (q and r)
regrouped : String
regrouped = "4 1 2 0\n4 3 2 0\n4 0 4 0\n3 0 2 0\n7 5 2 0\n7 6 2 0\n"

-- as the check program, with sides in order
in_order_program : List ℕ → List ℕ → List ℕ
in_order_program schema proof =
    printed (verdict_numbers (after_reading (λ s p. check_by tests_in_order (tableau_of s p)) (read_schema 4096 schema) (read_proof 4096 9216 8192 proof)))

-- ---- bounds from both sides

-- 0..9 within n ≥ 0, 5..9 within that, and a split of 5..9
ranges : String → List ℕ
ranges by = check_program false schema_false
    (nodes "-1 2 -1 -1 -1 -1 9 0\n0 2 -1 -1 -1 -1 4 0\n0 5 0 -1 -1 -1 0 0\n1 5 0 -1 -1 -1 0 0\n1 2 -1 -1 -1 -1 " ++
    bytes by ++
    bytes " 0\n4 5 0 -1 -1 -1 0 0\n4 5 0 -1 -1 -1 0 0\n")

-- a split at an open node
open_split : String → List ℕ
open_split by = check_program false schema_false
    (nodes "-1 2 -1 -1 -1 -1 " ++ bytes by ++ bytes " 0\n0 5 0 -1 -1 -1 0 0\n0 5 0 -1 -1 -1 0 0\n")

-- n + 2 and index 5, where n is 3 or 4
range_clash : List ℕ
range_clash = check_program false
    (bytes "root least\n2 3\nkind a b c\n2 0 1 2\n3 0 0 5\n4 0 1 0\n")
    (nodes "-1 0 2 -1 -1 -1 0 2\n0 2 -1 -1 -1 -1 4 0 1\n1 6 0 1 -1 -1 0 0 1\n1 6 0 1 -1 -1 0 0 1\n")

-- an iteration from 5, void up to K
range_void : String → List ℕ
range_void by = check_program false
    (bytes "root least\n1 0\nkind a b c\n2 0 2 0\n7 0 5 0\n")
    (nodes "-1 2 -1 -1 -1 -1 " ++ bytes by ++ bytes " 1\n0 7 1 -1 -1 -1 0 1\n0 7 1 -1 -1 -1 0 1\n")

-- a link from 1..5 to the ancestor that knows 0..5
range_link : String → List ℕ
range_link by = check_program false schema_false
    (nodes "-1 2 -1 -1 -1 -1 5 0\n0 2 -1 -1 -1 -1 0 0\n0 5 0 -1 -1 -1 0 0\n1 5 0 -1 -1 -1 0 0\n1 8 -1 -1 -1 1 " ++
    bytes by ++
    bytes " 0\n")

-- ---- links to any node

-- 0..4, 5..9 and n ≥ 10 in three branches; the link stands in the second
cross_link : String → List ℕ
cross_link link = check_program false schema_false
    (nodes "-1 2 -1 -1 -1 -1 4 0\n0 5 0 -1 -1 -1 0 0\n0 2 -1 -1 -1 -1 9 0\n2 8 -1 -1 -1 " ++
    bytes link ++
    bytes " 0\n2 5 0 -1 -1 -1 0 0\n")

-- a link from n ≥ 10 to 0..4
open_cross : List ℕ
open_cross = check_program false schema_false
    (nodes "-1 2 -1 -1 -1 -1 4 0\n0 5 0 -1 -1 -1 0 0\n0 2 -1 -1 -1 -1 9 0\n2 5 0 -1 -1 -1 0 0\n2 8 -1 -1 -1 1 9 0\n")

-- ---- the wires that occur

wires_at : ℕ → Reading SchemaText → List Wire
wires_at n (read s) = occurring n (tree (row_at s.table) (nat s.root))
wires_at n (stopped why k) = []

-- as a model's text
wires : List ℕ → ℕ → List ℕ
wires schema n = let ws : List Wire = wires_at n (read_schema 4096 schema) in model_text (pos n) (table ws) (length ws)

-- symbol 1 at some i from 2 up to n, or not symbol 0 at n + 3
from_two : List ℕ
from_two = bytes "root least\n3 0\nkind a b c\n2 1 2 0\n7 0 2 0\n3 0 1 3\n5 1 2 0\n"

-- symbol 0 at i and i + 1, for all i from 0 up to n; symbol 1 not at i - 1 and symbol 0 at i, for some i from -1 up to n - 1; symbol 0 at 2
shared : List ℕ
shared =
    bytes "root least\n9 0\nkind a b c\n2 0 2 0\n2 0 2 1\n3 1 2 -1\n4 0 1 0\n4 2 0 0\n6 3 0 0\n7 4 -1 1\n5 6 5 0\n2 0 0 2\n4 7 8 0\n"

-- ---- proof rows written twice

-- rows after false, the schema's only row, and the node that closes it
rewritten : Bool → String → List ℕ
rewritten older more = check_program older schema_false
    (bytes "kind a b c\n" ++ bytes more ++ bytes "up rule on with other to by set\n-1 5 0 -1 -1 -1 0 0\n")

-- ---- the trials

pub computed : List (List ℕ)
computed =
    -- negative bounds and symbol 255; the same with a pair missing
    model_program schema₂₅₅ (model "0\nsymbol index\n255 -8\n255 -7\n") ∷
    model_program schema₂₅₅ (model "0\nsymbol index\n255 -8\n") ∷
    -- index -29997, and one beyond it; pairs not ascending by index, then by symbol; a pair twice
    model_program schema_true (model "9999\nsymbol index\n0 -29997\n") ∷
    model_program schema_true (model "9999\nsymbol index\n0 -29998\n") ∷
    model_program schema_true (model "9999\nsymbol index\n1 0\n2 -1\n2 -2\n") ∷
    model_program schema_true (model "9999\nsymbol index\n255 0\n0 1\n") ∷
    model_program schema_true (model "9999\nsymbol index\n3 3\n3 3\n") ∷
    -- n over 9999
    model_program schema_true (model "10000\nsymbol index\n") ∷
    -- a text without its last byte 10, in a heading and in a row; -0, 007, six digits, two spaces, an empty line
    check_program false (bytes "root least") [] ∷
    check_program false (bytes "root least\n0 0\nkind a b c\n1 0 0 0") [] ∷
    check_program false (bytes "root least\n0 -0\nkind a b c\n") [] ∷
    check_program false (bytes "root least\n007 0\nkind a b c\n") [] ∷
    check_program false (bytes "root least\n0 100000\nkind a b c\n") [] ∷
    check_program false (bytes "root least\n0  0\nkind a b c\n") [] ∷
    check_program false (bytes "root least\n0 0\nkind a b c\n1 0 0 0\n\n") [] ∷
    -- no proof text; a proof whose second heading is missing, or misspelt; a node row with six numbers
    check_program false schema_false [] ∷
    check_program false schema_false (bytes "kind a b c\n1 0 0 0\n") ∷
    check_program false schema_false (bytes "kind a b c\nup\n") ∷
    check_program false schema_false (nodes "-1 5 0 -1 -1 -1\n") ∷
    -- no node; the one node that closes false; node 0 with an empty set; a later node with an empty set
    check_program false schema_false (nodes "") ∷
    check_program false schema_false (nodes "-1 5 0 -1 -1 -1 0 0\n") ∷
    check_program false schema_false (nodes "-1 5 0 -1 -1 -1 0\n") ∷
    check_program false schema_false (nodes "-1 2 -1 -1 -1 -1 0 0\n0 5 0 -1 -1 -1 0 0\n0 5 0 -1 -1 -1 0\n") ∷
    -- every 9 comes before any 10: node 0's up is wrong, node 1's set is no row
    check_program false schema_false (nodes "0 5 0 -1 -1 -1 0 0\n0 5 0 -1 -1 -1 0 1\n") ∷
    -- 11 comes before 12: the set is not drawn from the parent's, and no such rule
    check_program false (bytes "root least\n0 0\nkind a b c\n1 0 0 0\n0 0 0 0\n") (nodes "-1 2 -1 -1 -1 -1 0 0\n0 9 0 -1 -1 -1 0 1\n0 5 0 -1 -1 -1 0 0\n") ∷
    -- symbol 256; a body with a literal on n; an and of a literal on i and one on n; a pointer to itself
    check_program false (bytes "root least\n0 0\nkind a b c\n2 256 1 0\n") (nodes "") ∷
    check_program false (bytes "root least\n0 0\nkind a b c\n2 0 1 0\n6 0 0 0\n") (nodes "") ∷
    check_program false (bytes "root least\n0 0\nkind a b c\n2 0 1 0\n2 0 2 0\n4 0 1 0\n") (nodes "") ∷
    check_program false (bytes "root least\n0 0\nkind a b c\n4 0 0 0\n") (nodes "") ∷
    -- a root that is not outer
    check_program false (bytes "root least\n0 0\nkind a b c\n2 0 2 0\n") (nodes "") ∷
    -- "Plausible, and false"
    by_zero ∷
    open_clash ∷
    open_clash_at_least ∷
    empty_unfolded ∷
    leaf_bound ∷
    -- swapped bodies, with the instance (p and q) and r: accepted; in order the instance is wrong, and with r and (q and p) the link
    sided (check_program false) swapped "4 15 16 0\n4 18 17 0\n" "18 20" ∷
    sided in_order_program swapped "4 15 16 0\n4 18 17 0\n" "18 20" ∷
    sided in_order_program swapped "4 16 15 0\n4 17 18 0\n" "18 20" ∷
    -- "with still names the same body row": the bodies of on and with are alike, and two rows
    sided (check_program false) one_body "4 15 16 0\n4 18 17 0\n" "18 20" ∷
    -- regrouped bodies: the instance (p and q) and r is wrong, and with p and (q and r) the link
    sided (check_program false) regrouped "4 15 16 0\n4 18 17 0\n" "18 20" ∷
    sided (check_program false) regrouped "4 16 17 0\n4 15 18 0\n" "15 18 20" ∷
    -- K = H - 1, K = L by 0; K = L - 1, K = H, and a negative by
    ranges "8" ∷
    ranges "0" ∷
    ranges "4" ∷
    ranges "9" ∷
    ranges "-1" ∷
    -- at an open node 9998 and not 9999
    open_split "9998" ∷
    open_split "9999" ∷
    -- a clash by value where n = L is not known; void where H < b + c, and where it is not
    range_clash ∷
    range_void "4" ∷
    range_void "5" ∷
    -- L - k at the ancestor's L, and below it
    range_link "1" ∷
    range_link "2" ∷
    -- to another branch: both bounds fit; H - k above the target's H, L - k below its L
    cross_link "1 5" ∷
    cross_link "1 4" ∷
    cross_link "1 6" ∷
    -- to itself, to a later node, to none; from an open leaf to a bounded target
    cross_link "3 5" ∷
    cross_link "4 5" ∷
    cross_link "-1 5" ∷
    open_cross ∷
    -- a proof row that repeats the schema's, and one that repeats a proof row; the same for an older record; rows that differ in one column
    rewritten false "1 0 0 0\n" ∷
    rewritten false "2 0 1 0\n2 0 0 0\n2 0 1 0\n" ∷
    rewritten true "1 0 0 0\n" ∷
    rewritten false "2 0 1 0\n2 0 1 1\n2 0 0 0\n2 1 1 0\n3 0 1 0\n" ∷
    -- 27 at row 1 before 7 at row 2, and 7 at row 1 before 27 at row 2
    rewritten false "1 0 0 0\n8 0 0 0\n" ∷
    rewritten false "8 0 0 0\n1 0 0 0\n" ∷
    -- a schema row may repeat; 27 comes before 6 for a root that is not outer
    check_program false (bytes "root least\n0 0\nkind a b c\n1 0 0 0\n1 0 0 0\n") (nodes "-1 5 0 -1 -1 -1 0 0\n") ∷
    check_program false (bytes "root least\n0 0\nkind a b c\n2 0 2 0\n") (bytes "kind a b c\n2 0 2 0\nup rule on with other to by set\n") ∷
    -- the one number
    (packed (accept 7 1) ∷ packed (refuse Bound (Some 5)) ∷ packed (refuse False None) ∷ []) ∷
    -- line 2 of a text; line 3, which is unfinished; line 0
    line_of (bytes "ab\ncd\ne") 2 ∷
    line_of (bytes "ab\ncd\ne") 3 ∷
    line_of (bytes "ab\ncd\ne") 0 ∷
    -- writing: a model's text, with room to spare; one byte of room too few
    output 50 (write_model (pos 12) (pos 0 ∷ negsuc 29996 ∷ []) 1 50) ∷
    output 26 (write_model (pos 12) (pos 0 ∷ negsuc 29996 ∷ []) 1 26) ∷
    -- wires: none; negative indices; an empty range, and a range of one; two iterations that share a symbol
    wires schema_true 9999 ∷
    wires schema₂₅₅ 0 ∷
    wires from_two 1 ∷
    wires from_two 2 ∷
    wires shared 1 ∷ []

pub stated : List (List ℕ)
stated =
    answer "0 0 0 0" ∷
    answer "20 -1 0 0" ∷
    answer "0 0 0 0" ∷
    answer "18 0 0 0" ∷
    answer "18 2 0 0" ∷
    answer "18 1 0 0" ∷
    answer "18 1 0 0" ∷
    answer "19 -1 0 0" ∷
    answer "3 1 0 0" ∷
    answer "4 4 0 0" ∷
    answer "4 2 0 0" ∷
    answer "4 2 0 0" ∷
    answer "4 2 0 0" ∷
    answer "4 2 0 0" ∷
    answer "4 5 0 0" ∷
    answer "3 1 0 0" ∷
    answer "3 3 0 0" ∷
    answer "3 2 0 0" ∷
    answer "4 3 0 0" ∷
    answer "10 -1 0 0" ∷
    answer "0 0 1 0" ∷
    answer "10 0 0 0" ∷
    answer "12 2 0 0" ∷
    answer "9 1 0 0" ∷
    answer "11 1 0 0" ∷
    answer "7 0 0 0" ∷
    answer "7 1 0 0" ∷
    answer "7 2 0 0" ∷
    answer "7 0 0 0" ∷
    answer "6 -1 0 0" ∷
    answer "12 2 0 0" ∷
    answer "14 3 0 0" ∷
    answer "14 1 0 0" ∷
    answer "14 0 0 0" ∷
    answer "14 3 0 0" ∷
    answer "0 0 10 1" ∷
    answer "15 5 0 0" ∷
    answer "16 6 0 0" ∷
    answer "15 5 0 0" ∷
    answer "15 5 0 0" ∷
    answer "16 6 0 0" ∷
    answer "0 0 7 0" ∷
    answer "0 0 7 0" ∷
    answer "14 4 0 0" ∷
    answer "14 4 0 0" ∷
    answer "12 4 0 0" ∷
    answer "0 0 3 0" ∷
    answer "14 0 0 0" ∷
    answer "14 2 0 0" ∷
    answer "14 2 0 0" ∷
    answer "14 1 0 0" ∷
    answer "0 0 5 1" ∷
    answer "14 4 0 0" ∷
    answer "0 0 5 1" ∷
    answer "14 3 0 0" ∷
    answer "14 3 0 0" ∷
    answer "13 3 0 0" ∷
    answer "13 3 0 0" ∷
    answer "13 3 0 0" ∷
    answer "14 4 0 0" ∷
    answer "27 1 0 0" ∷
    answer "27 3 0 0" ∷
    answer "0 0 1 0" ∷
    answer "0 0 1 0" ∷
    answer "27 1 0 0" ∷
    answer "7 1 0 0" ∷
    answer "0 0 1 0" ∷
    answer "27 1 0 0" ∷
    -- 1 * 8192 * 8192 + 7 * 8192 + 1; (14 * 8192 + 6) * 8192 * 8192; 20 * 8192 * 8192 * 8192
    (67166209 ∷ 7696984047616 ∷ 10995116277760 ∷ []) ∷
    bytes "cd" ∷
    [] ∷
    [] ∷
    (bytes "n\n12\nsymbol index\n0 -29997\n" ++ replicate 23 0) ∷
    replicate 26 0 ∷
    model "9999\nsymbol index\n" ∷
    model "0\nsymbol index\n255 -8\n255 -7\n" ∷
    model "1\nsymbol index\n0 4\n" ∷
    model "2\nsymbol index\n0 5\n1 2\n" ∷
    model "1\nsymbol index\n0 -1\n0 0\n0 1\n0 2\n1 -2\n1 -1\n" ∷ []

pub trials : computed ≡ stated
unfolding evaluated rewritten cross_link open_cross ranges open_split range_clash range_void range_link schema₂₅₅ schema_true model schema_false nodes by_zero open_clash open_clash_at_least empty_unfolded leaf_bound agree partners_in_order has_lowered_in_order lowered_in_order tests_in_order step_by node_by refusal_by check_by sided swapped one_body regrouped in_order_program wire_before insert gathered inserted occurring table wires_at wires from_two shared answer computed stated
trials = refl
