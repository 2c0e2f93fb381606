-- 02, No. 7: a tableau that grows on screen.
use Rattle.std.specs.Prelude.{ℕ, zero, suc, ◌+◌, ◌*◌, ◌-◌, Bool, true, false, List, [], ◌∷◌, ◌++◌, leb, ltb, ℤ, pos, length, take, if◌then◌else◌, Ok, Err}
use Rattle.stab.specs.Basic.{◌and◌, nat, ◌otherwise◌}
use Rattle.stab.specs.Node.{Tableau, node_at, node, set}
use Rattle.stab.specs.Rule.{children_held}
use Rattle.stab.specs.Check.{whole_unless, at_unless, set_refusal, parent_refusal, step_refusal, refusal, held_mode, link_count, check}
use Rattle.stab.specs.Text.{padded}
use Rattle.stab.specs.Answer.{Numbers, verdict_numbers, one_number}
use Rattle.stab.specs.Finding.{accept, refuse, no_refusal, Verdict, Place, Finding}
use Rattle.stab.specs.declared.Refusal.{Refusal}
use Rattle.stab.specs.declared.Refusal.TheVariants.{Children, Room, NoRow}
use Rattle.growing.specs.declared.Growth.{Growth}

-- The state is a Tableau: the formula rows, and the lent tables of nodes and members with how many rows and members are held.

-- "Every later call first puts all rows held under the check, no node and missing children aside": refusal held_mode.

-- ---- "A node row is then added at the end"

-- a node row: the seven numbers, and its set
pub record NodeRow : Type 0 where
  pub up : ℤ
  pub rule : ℤ
  pub on : ℤ
  pub with : ℤ
  pub other : ℤ
  pub to : ℤ
  pub by : ℤ
  pub members : List ℤ

-- its nine numbers in a table, where m members stand before its set
unfoldable pub node_numbers : NodeRow → ℕ → List ℤ
node_numbers w m =
    w.up ∷ w.rule ∷ w.on ∷ w.with ∷ w.other ∷ w.to ∷ w.by ∷ pos m ∷ pos (length w.members) ∷ []

-- the state with these nodes and members held, the lent tables 0 past them
unfoldable pub holding : Tableau → List ℤ → ℕ → List ℤ → ℕ → Tableau
holding T nodes n members m = record {
  schema = T.schema;
  schema_rows = T.schema_rows;
  proof = T.proof;
  proof_rows = T.proof_rows;
  root = T.root;
  least = T.least;
  nodes = padded (pos 0) (length T.nodes) nodes;
  node_rows = n;
  members = padded (pos 0) (length T.members) members;
  member_count = m;
}

-- the rows held with one more at the end
unfoldable pub added : Tableau → NodeRow → Tableau
added T w =
    holding T
    (take (9 * T.node_rows) T.nodes ++ node_numbers w T.member_count) (suc T.node_rows)
    (take T.member_count T.members ++ w.members) (T.member_count + length w.members)

-- "24, before 9, when 1,024 nodes stand, the row's members would pass 8,192 or a lent table has no room for the row"
unfoldable pub room_for : Tableau → NodeRow → Bool
room_for T w =
    ltb T.node_rows 1024 and
    leb (T.member_count + length w.members) 8192 and
    leb (9 * suc T.node_rows) (length T.nodes) and
    leb (T.member_count + length w.members) (length T.members)

-- "a child beyond the number that its parent's rule has gives 17, here before 11 and with the added row as its place": for row j, in
-- the state that holds it; the first row has no parent
unfoldable pub beyond_refusal : Tableau → ℕ → Finding
beyond_refusal T zero = no_refusal
beyond_refusal T (suc i) = at_unless (children_held T (nat (node T (suc i)).up)) Children (suc i)

-- "An added row passes 9 to 16": row j, in the state that holds it
unfoldable pub added_refusal : Tableau → ℕ → Finding
added_refusal T j = set_refusal T j otherwise parent_refusal T j otherwise beyond_refusal T j otherwise step_refusal T j

-- what is found when w is to be added, once the rows held have passed
unfoldable pub new_refusal : Tableau → NodeRow → Finding
new_refusal T w = whole_unless (room_for T w) Room otherwise added_refusal (added T w) T.node_rows

unfoldable pub add_refusal : Tableau → NodeRow → Finding
add_refusal T w = refusal held_mode T otherwise new_refusal T w

-- ---- "or the last one is taken back"

-- the rows held without the last; its set stands at the end of the members
unfoldable pub shortened : Tableau → Tableau
shortened T =
    let n = T.node_rows - 1 in
    let m = nat (node_at T.nodes n).start in
    holding T (take (9 * n) T.nodes) n (take m T.members) m

-- "25 when there is no row to take back"
unfoldable pub take_back_refusal : Tableau → Finding
take_back_refusal T = refusal held_mode T otherwise whole_unless (ltb 0 T.node_rows) NoRow

-- ---- "Formula rows are given first": no node is held then, and the tables are 0

unfoldable pub begun : Tableau → Tableau
begun T = holding T [] 0 [] 0

-- "under 2, 5, 6, 7 and 8", and No. 9's 27
unfoldable pub begin_refusal : Tableau → Finding
begin_refusal T = refusal held_mode (begun T)

-- ---- what a call answers, and the state that it leaves

-- "closed" is shown exactly when the whole check accepts the rows held
unfoldable pub is_accepted : Verdict → Bool
is_accepted (Ok c) = true
is_accepted (Err r) = false

unfoldable pub closed : Tableau → Bool
closed T = is_accepted (check T)

-- "An accepted one gives place 0 and the node and link counts of the rows held"; "closed" speaks of the rows held after every call,
-- "refused ones included". A refused call leaves the old rows, an accepted one the new.
-- rows that are held, or a call that is turned away; either way whether the rows that it leaves are closed
abbrev pub held_rows : ℕ → ℕ → Bool → Growth
held_rows nodes links shown = record { verdict = accept nodes links; closed = shown }

abbrev pub refused_call : Refusal → Place → Bool → Growth
refused_call why p shown = record { verdict = refuse why p; closed = shown }

unfoldable pub growth_by : Finding → Tableau → Tableau → Growth
growth_by (Ok u) old new = held_rows new.node_rows (link_count new) (closed new)
growth_by (Err r) old new = refused_call r.why r.place (closed old)

-- "A refused call leaves the tableau as it stood"
unfoldable pub left_by : Finding → Tableau → Tableau → Tableau
left_by (Ok u) old new = new
left_by (Err r) old new = old

pub data Call : Type 0 where
  add : NodeRow → Call
  take_back : Call

unfoldable pub call_refusal : Tableau → Call → Finding
call_refusal T (add w) = add_refusal T w
call_refusal T take_back = take_back_refusal T

-- the rows that an accepted call leaves
unfoldable pub changed : Tableau → Call → Tableau
changed T (add w) = added T w
changed T take_back = shortened T

-- one call: its answer, and the state after it
unfoldable pub answered : Tableau → Call → Growth
answered T call = growth_by (call_refusal T call) T (changed T call)

unfoldable pub after : Tableau → Call → Tableau
after T call = left_by (call_refusal T call) T (changed T call)

-- a call that is refused for this, once the rows held have passed
unfoldable pub turned_away : Tableau → Refusal → Place → Growth
turned_away T why p = growth_by (refusal held_mode T otherwise refuse why p) T T

-- the state after a row was tried at the end, and kept there or not
unfoldable pub tried : Bool → Tableau → NodeRow → Tableau
tried keep T w = if keep then after T (add w) else T

-- "For every list of these calls": the state after them
unfoldable pub after_all : Tableau → List Call → Tableau
after_all T [] = T
after_all T (call ∷ calls) = after_all (after T call) calls

-- the first call: also after a refusal no node is held and the tables are 0
unfoldable pub begin_answer : Tableau → Growth
begin_answer T = growth_by (begin_refusal T) (begun T) (begun T)

-- ---- "the rows held are those that the accepted calls leave"

-- the rows of a state
unfoldable pub row_of : Tableau → ℕ → NodeRow
row_of T j = record {
  up = (node T j).up;
  rule = (node T j).rule;
  on = (node T j).on;
  with = (node T j).with;
  other = (node T j).other;
  to = (node T j).to;
  by = (node T j).by;
  members = set T j;
}

unfoldable pub first_rows : Tableau → ℕ → List NodeRow
first_rows T zero = []
first_rows T (suc j) = first_rows T j ++ row_of T j ∷ []

unfoldable pub rows_held : Tableau → List NodeRow
rows_held T = first_rows T T.node_rows

-- what an accepted call does to a list of rows: one more at the end, or the last one taken back
unfoldable pub without_last : List NodeRow → List NodeRow
without_last ws = take (length ws - 1) ws

unfoldable pub done : Call → List NodeRow → List NodeRow
done (add w) ws = ws ++ w ∷ []
done take_back ws = without_last ws

unfoldable pub done_if : Finding → Call → List NodeRow → List NodeRow
done_if (Ok u) call ws = done call ws
done_if (Err r) call ws = ws

-- what the accepted ones of some calls leave of these rows
unfoldable pub leave : Tableau → List Call → List NodeRow → List NodeRow
leave T [] ws = ws
leave T (call ∷ calls) ws = leave (after T call) calls (done_if (call_refusal T call) call ws)

-- ---- the answer in numbers

-- as a check's
unfoldable pub growth_numbers : Growth → Numbers
growth_numbers g = verdict_numbers g.verdict

-- 1 for "closed", else 0
unfoldable pub shown_number : Growth → ℕ
shown_number g = if g.closed then 1 else 0

unfoldable pub growth_packed : Growth → ℕ
growth_packed r = one_number (growth_numbers r)
