-- 01, "Turning records away": checking tables; 02, Nos. 7 and 9. The order of refusals is the order of the lines below.
use Rattle.std.specs.Prelude.{ℕ, zero, suc, ◌*◌, Bool, true, false, not, List, leb, eqb, ltb, ℤ, pos, length, if◌then◌else◌, None, Some, Ok, Err}
use Rattle.stab.specs.Basic.{◌and◌, ◌or◌, ◌implies◌, eq_z, within, nat, below, count, ◌otherwise◌, scan, unless}
use Rattle.stab.specs.Formula.{Row, row_at, Schema, tree, is_outer, well_formed, small_enough}
use Rattle.stab.specs.Node.{Tableau, rows, row_count, set_end, set_fits, parent_fits, node_at}
use Rattle.stab.specs.Rule.{of_rule, drawn, fields_fit, target_fits, bound_fits, partners_fit, lowered_fits, children_as}
use Rattle.stab.specs.declared.Mode.{Mode}
use Rattle.stab.specs.Finding.{Finding, Verdict, accept}
use Rattle.stab.specs.declared.Refusal.{Refusal}
use Rattle.stab.specs.declared.Refusal.TheVariants.{TableTooShort, TooMany, Root, IllFormed, TooLarge, Set, Parent, Drawn, Fields, Target, Bound, Partner, Lowered, Children, Repeated}

-- a refusal of the whole record, unless the test passes
unfoldable pub whole_unless : Bool → Refusal → Finding
whole_unless ok why = unless ok why None

-- a refusal at a row, node or line, unless the test passes
unfoldable pub at_unless : Bool → Refusal → ℕ → Finding
at_unless ok why k = unless ok why (Some k)

-- a table holds the rows that its count says, each of w numbers
unfoldable pub holds : List ℤ → ℕ → ℕ → Bool
holds t w n = leb (w * n) (length t)

-- ---- formula rows: "formula rows ascending, place the row, each 7 ill-formed, then 8 too large or deep"

unfoldable pub row_refusal : (ℕ → Row) → ℕ → Finding
row_refusal rows r = at_unless (well_formed rows r) IllFormed r otherwise at_unless (small_enough rows r) TooLarge r

-- the four columns of two rows are equal
unfoldable pub same_row : Row → Row → Bool
same_row v w = eq_z v.kind w.kind and eq_z v.a w.a and eq_z v.b w.b and eq_z v.c w.c

-- a row with the columns of w stands among the rows 0 .. r - 1
unfoldable pub stands_before : (ℕ → Row) → ℕ → Row → Bool
stands_before rows zero w = false
stands_before rows (suc r) w = stands_before rows r w or same_row (rows r) w

-- 02, No. 9: "a proof row whose four columns equal those of an earlier schema or proof row", where s rows are schema rows, which "may
-- still repeat"
unfoldable pub repeat_refusal : (ℕ → Row) → ℕ → ℕ → Finding
repeat_refusal rows s r = at_unless (ltb r s or not (stands_before rows r (rows r))) Repeated r

-- 7, 8 and "27, for a formula row, after 8"; in an older record, whose proof rows may repeat, 7 and 8 alone
unfoldable pub formula_refusal : Bool → (ℕ → Row) → ℕ → ℕ → Finding
formula_refusal true rows s r = row_refusal rows r
formula_refusal false rows s r = row_refusal rows r otherwise repeat_refusal rows s r

-- "6 root no schema row, or least not 0..9999 (-1)"
unfoldable pub root_fits : ℕ → ℤ → ℤ → Bool
root_fits schema_rows root least = below schema_rows root and within (pos 0) (pos 9999) least

-- 6, each row, and 6 again "if the root is not outer", for n formula rows of which s are schema rows
unfoldable pub formulas_refusal : Bool → (ℕ → Row) → ℕ → ℕ → ℤ → ℤ → Finding
formulas_refusal older rows n s root least =
    whole_unless (root_fits s root least) Root otherwise
    scan (formula_refusal older rows s) n otherwise
    whole_unless (is_outer (tree rows (nat root))) Root

-- the same of a schema alone, whose rows may repeat
unfoldable pub schema_refusal : Schema → Finding
schema_refusal S = formulas_refusal true (row_at S.table) S.rows S.rows S.root S.least

-- ---- nodes

-- "9 a set's place, order or members, and at the last node, if there is one, counted members left over"
unfoldable pub set_refusal : Tableau → ℕ → Finding
set_refusal T j =
    at_unless (set_fits T j and (eqb (suc j) T.node_rows implies eq_z (set_end T.nodes j) (pos T.member_count))) Set j

-- "a wrong up, or node 0's set"
unfoldable pub parent_refusal : Tableau → ℕ → Finding
parent_refusal T j = at_unless (parent_fits T j) Parent j

-- "then nodes ascending, each in this order": 11 to 16, which look at no later node, then 17
unfoldable pub step_refusal : Tableau → ℕ → Finding
step_refusal T j =
    at_unless (drawn T j) Drawn j otherwise
    at_unless (fields_fit T j) Fields j otherwise
    at_unless (target_fits T j) Target j otherwise
    at_unless (bound_fits T j) Bound j otherwise
    at_unless (partners_fit T j) Partner j otherwise
    at_unless (lowered_fits T j) Lowered j

unfoldable pub node_refusal : Bool → Tableau → ℕ → Finding
node_refusal whole T j = step_refusal T j otherwise at_unless (children_as whole T j) Children j

-- ---- the check

-- "2 a table shorter than its count says"
unfoldable pub tables_hold : Tableau → Bool
tables_hold T =
    holds T.schema 4 T.schema_rows and
    holds T.proof 4 T.proof_rows and
    holds T.nodes 9 T.node_rows and
    holds T.members 1 T.member_count

-- "5 more rows or members than allowed"
unfoldable pub within_limits : Tableau → Bool
within_limits T = leb (row_count T) 1024 and leb T.node_rows 1024 and leb T.member_count 8192

-- "10 no node (-1)"; rows that are held may be none
unfoldable pub enough_nodes : Bool → Tableau → Bool
enough_nodes whole T = whole implies ltb 0 T.node_rows

-- what is found first, in the order of "Checking tables"
unfoldable pub refusal : Mode → Tableau → Finding
refusal m T =
    whole_unless (tables_hold T) TableTooShort otherwise
    whole_unless (within_limits T) TooMany otherwise
    formulas_refusal m.older (rows T) (row_count T) T.schema_rows T.root T.least otherwise
    scan (set_refusal T) T.node_rows otherwise
    whole_unless (enough_nodes m.whole T) Parent otherwise
    scan (parent_refusal T) T.node_rows otherwise
    scan (node_refusal m.whole T) T.node_rows

-- 02, No. 9: "From now on the check refuses a proof row" that repeats
unfoldable pub present_mode : Mode
present_mode = record { older = false; whole = true }

-- "a separate entry checks them without this test"
unfoldable pub older_mode : Mode
older_mode = record { older = true; whole = true }

-- 02, No. 7: "puts all rows held under the check, no node and missing children aside"; No. 9: "The formula rows given first in No. 7 pass
-- this test too."
unfoldable pub held_mode : Mode
held_mode = record { older = false; whole = false }

-- node j is a rule 8 row
unfoldable pub is_link : List ℤ → ℕ → Bool
is_link nodes j = of_rule 8 (node_at nodes j)

-- "the number of nodes and of rule 8 rows"
unfoldable pub link_count : Tableau → ℕ
link_count T = count (is_link T.nodes) T.node_rows

-- the refusal found, or else the verdict given
unfoldable pub verdict : Finding → Verdict → Verdict
verdict (Ok u) v = v
verdict (Err r) v = Err r

-- "Acceptance gives the number of nodes and of rule 8 rows"
unfoldable pub verdict_on : Finding → Tableau → Verdict
verdict_on found T = verdict found (accept T.node_rows (link_count T))

-- the check
unfoldable pub check : Tableau → Verdict
check T = verdict_on (refusal present_mode T) T

-- 02, No. 9: "Records already in the catalogue are marked as older and keep their verdict; a separate entry checks them without this test."
unfoldable pub check_older : Tableau → Verdict
check_older T = verdict_on (refusal older_mode T) T

-- the check, or the older one if `older` holds
unfoldable pub check_as : Bool → Tableau → Verdict
check_as older T = if older then check_older T else check T
