-- 02, No. 8: enquiry and commit.
use Rattle.std.specs.Prelude.{Bool, List, [], ◌∷◌, ◌++◌, ℤ, pos, length, get_or, take, drop, Ok, Err}
use Rattle.std.proofs.Math.Option.{Option, none, some}
use Rattle.stab.specs.Basic.{◌and◌, eq_z, within, nat, ◌otherwise◌}
use Rattle.stab.specs.Node.{Tableau}
use Rattle.stab.specs.Check.{whole_unless, refusal, held_mode}
use Rattle.stab.specs.Text.{padded}
use Rattle.stab.specs.declared.Refusal.TheVariants.{Waiting}
use Rattle.stab.specs.Finding.{Finding}
use Rattle.growing.specs.Growing.{NodeRow, added, new_refusal, add_refusal, shortened, take_back_refusal, growth_by, left_by, begun, done, Call, add, take_back}
use Rattle.growing.specs.declared.Growth.{Growth}

-- ---- the waiting row: 1,033 numbers, all 0 at first and whenever nothing waits

-- whether a row waits, its set's length, its seven numbers, its set
unfoldable pub stored : NodeRow → List ℤ
stored w =
    padded (pos 0) 1033
    (pos 1 ∷ pos (length w.members) ∷ w.up ∷ w.rule ∷ w.on ∷ w.with ∷ w.other ∷ w.to ∷ w.by ∷ [] ++ w.members)

unfoldable pub nothing_waits : List ℤ
nothing_waits = padded (pos 0) 1033 []

-- a row waits exactly when the first of these numbers is 1 and the length is 0 to 1,024
unfoldable pub waits : List ℤ → Bool
waits W = eq_z (get_or W 0 (pos 0)) (pos 1) and within (pos 0) (pos 1024) (get_or W 1 (pos 0))

unfoldable pub waiting_row : List ℤ → NodeRow
waiting_row W = record {
  up = get_or W 2 (pos 0);
  rule = get_or W 3 (pos 0);
  on = get_or W 4 (pos 0);
  with = get_or W 5 (pos 0);
  other = get_or W 6 (pos 0);
  to = get_or W 7 (pos 0);
  by = get_or W 8 (pos 0);
  members = take (nat (get_or W 1 (pos 0))) (drop 9 W);
}

-- ---- calls

-- The rows held, and the waiting row beside them.
pub record Editor : Type 0 where
  pub held : Tableau
  pub waiting : List ℤ

abbrev pub editor : Tableau → List ℤ → Editor
editor T W = record { held = T; waiting = W }

-- enquiry, commit, and No. 7's calls
pub data EditorCall : Type 0 where
  enquire : NodeRow → EditorCall
  commit : EditorCall
  grow : Call → EditorCall

-- "26, by commit, when no such row waits. After 26 a waiting row is judged as by an enquiry"
unfoldable pub commit_refusal : Editor → Finding
commit_refusal E =
    refusal held_mode E.held otherwise
    whole_unless (waits E.waiting) Waiting otherwise
    new_refusal E.held (waiting_row E.waiting)

-- "An enquiry answers as adding would"
unfoldable pub editor_refusal : Editor → EditorCall → Finding
editor_refusal E (enquire w) = add_refusal E.held w
editor_refusal E commit = commit_refusal E
editor_refusal E (grow (add w)) = add_refusal E.held w
editor_refusal E (grow take_back) = take_back_refusal E.held

-- the rows that an accepted call's answer speaks of: of an enquiry those that adding would give
unfoldable pub spoken_of : Editor → EditorCall → Tableau
spoken_of E (enquire w) = added E.held w
spoken_of E commit = added E.held (waiting_row E.waiting)
spoken_of E (grow (add w)) = added E.held w
spoken_of E (grow take_back) = shortened E.held

unfoldable pub editor_answer : Editor → EditorCall → Growth
editor_answer E call = growth_by (editor_refusal E call) E.held (spoken_of E call)

-- the rows after an accepted call: an enquiry "changes no row"
unfoldable pub held_after : Editor → EditorCall → Tableau
held_after E (enquire w) = E.held
held_after E commit = added E.held (waiting_row E.waiting)
held_after E (grow (add w)) = added E.held w
held_after E (grow take_back) = shortened E.held

-- the waiting row after an accepted call
unfoldable pub waiting_after : EditorCall → List ℤ
waiting_after (enquire w) = stored w
waiting_after commit = nothing_waits
waiting_after (grow call) = nothing_waits

-- and after a refused one: "An enquiry that says no leaves nothing to commit."
unfoldable pub waiting_refused : List ℤ → EditorCall → List ℤ
waiting_refused W (enquire w) = nothing_waits
waiting_refused W commit = W
waiting_refused W (grow call) = W

unfoldable pub waiting_by : Finding → List ℤ → EditorCall → List ℤ
waiting_by (Ok u) W call = waiting_after call
waiting_by (Err r) W call = waiting_refused W call

-- one call: the state after it
unfoldable pub edited : Editor → EditorCall → Editor
edited E call = record {
  held = left_by (editor_refusal E call) E.held (held_after E call);
  waiting = waiting_by (editor_refusal E call) E.waiting call;
}

-- the rows that "closed" speaks of: those that the call leaves; of an enquiry, which "answers as adding would, with its counts and
-- "closed"", those that adding would leave
unfoldable pub shown_of : Editor → EditorCall → Tableau
shown_of E (enquire w) = (edited E (grow (add w))).held
shown_of E commit = (edited E commit).held
shown_of E (grow call) = (edited E (grow call)).held

-- "For every list of enquiries, commits and take-backs": the state after them
unfoldable pub edited_all : Editor → List EditorCall → Editor
edited_all E [] = E
edited_all E (call ∷ calls) = edited_all (edited E call) calls

-- at first nothing waits
unfoldable pub opened : Tableau → Editor
opened T = record { held = begun T; waiting = nothing_waits }

-- ---- "the rows are those of the successful commits and take-backs alone"

-- the row that waits: "the row last enquired about, if that enquiry said yes and no commit or take-back succeeded since"
unfoldable pub pending_after : EditorCall → Option NodeRow
pending_after (enquire w) = some w
pending_after commit = none
pending_after (grow call) = none

unfoldable pub pending_refused : Option NodeRow → EditorCall → Option NodeRow
pending_refused p (enquire w) = none
pending_refused p commit = p
pending_refused p (grow call) = p

unfoldable pub pending_by : Finding → Option NodeRow → EditorCall → Option NodeRow
pending_by (Ok u) p call = pending_after call
pending_by (Err r) p call = pending_refused p call

-- what a successful call does to a list of rows, where p is the row that waits
unfoldable pub committed : Option NodeRow → List NodeRow → List NodeRow
committed none ws = ws
committed (some w) ws = ws ++ w ∷ []

unfoldable pub done_editing : Option NodeRow → EditorCall → List NodeRow → List NodeRow
done_editing p (enquire w) ws = ws
done_editing p commit ws = committed p ws
done_editing p (grow call) ws = done call ws

unfoldable pub done_editing_if : Finding → Option NodeRow → EditorCall → List NodeRow → List NodeRow
done_editing_if (Ok u) p call ws = done_editing p call ws
done_editing_if (Err r) p call ws = ws

-- the row that waits after some calls, and the rows that the successful ones leave
unfoldable pub pending : Editor → Option NodeRow → List EditorCall → Option NodeRow
pending E p [] = p
pending E p (call ∷ calls) = pending (edited E call) (pending_by (editor_refusal E call) p call) calls

unfoldable pub leave_editing : Editor → Option NodeRow → List EditorCall → List NodeRow → List NodeRow
leave_editing E p [] ws = ws
leave_editing E p (call ∷ calls) ws =
    leave_editing (edited E call) (pending_by (editor_refusal E call) p call) calls (done_editing_if (editor_refusal E call) p call ws)
