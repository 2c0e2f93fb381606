-- 02, No. 8: the rows are those of the successful commits, additions and take-backs alone, and a commit succeeds exactly when a row waits.
use Prim.Native.Nat.{ℕ, ◌-◌, ◌≤◌}
use native.Mathlib.Omega.{arith}
use mathlib.Core.Path.{◌≡◌, refl, sym, ◌∙◌, ap, ap₂, subst}
use mathlib.Core.Logic.{◌↔◌}
use mathlib.Core.Bool.{Bool, true, false, true≢false}
use mathlib.Core.List.{List, [], ◌∷◌, ◌++◌}
use mathlib.Core.Option.{Option, none, some}
use lib.IntN.{pos}
use lib.Signed.{le_z}
use lib.ListN.{length, replicate}
use lib.Seq.{take-append_seam}
use Rattle.stab.specs.Basic.{◌and◌, eq_z, within, nat, ◌otherwise◌}
use Rattle.stab.specs.Node.{Tableau, row_count, set}
use Rattle.stab.specs.Check.{whole_unless, refusal, held_mode, link_count, check}
use Rattle.stab.specs.Text.{padded}
use Rattle.std.specs.Prelude.{None, Ok, Err}
use Rattle.stab.specs.Finding.{accept, refuse, no_refusal, Finding}
use Rattle.stab.specs.declared.Refusal.TheVariants.{Waiting}
use Rattle.stab.proofs.Bools.{and_both, unless_nothing, nothing_unless, found_unless, otherwise_first, otherwise_second, otherwise_nothing, otherwise_found}
use Rattle.stab.proofs.Whole.{num, le_of}
use Rattle.tidied.proofs.Sets.{few}
use Rattle.growing.specs.Growing.{NodeRow, holding, added, new_refusal, add_refusal, shortened, take_back_refusal, growth_by, left_by, begun, begin_refusal, rows_held, first_rows, done, add, take_back, shown_number, held_rows}
use Rattle.growing.specs.Enquiry.{stored, nothing_waits, waits, waiting_row, Editor, EditorCall, enquire, commit, grow, commit_refusal, editor_refusal, spoken_of, editor_answer, held_after, waiting_after, waiting_refused, waiting_by, edited, shown_of, edited_all, opened, pending_after, pending_refused, pending_by, committed, done_editing, done_editing_if, pending, leave_editing}
use Rattle.growing.proofs.States.{Holds, held_clears, added_last}
use Rattle.growing.proofs.Held.{room, new_set, holds_shortened}
use Rattle.growing.proofs.Grown.{added_holds, added_ok, add_holds, add_rows, back_holds, some_row, back_rows, closed_left, left_same, counts_left}

-- ---- a set that is accepted has room in the waiting row

pub accepted_few : (T : Tableau) (w : NodeRow) → add_refusal T w ≡ no_refusal → length w.members ≤ 1024
accepted_few T w ok =
    let H = added_holds T w ok in
    let k = added_ok T w ok in
    let e = added_last T H w (room T H w k) in
    let s = new_set T H w k in
    let l = few (row_count (added T w)) (set (added T w) T.node_rows) s.order (λ z m. (s.outer_rows z m).is_row) in
    omega (arith, ap length e, l, (add_holds T w ok).tables.row_limit)

-- ---- what is stored is read back

pub stored_row : (w : NodeRow) → waiting_row (stored w) ≡ w
unfolding waiting_row stored padded nat
stored_row w i = record {
  up = w.up;
  rule = w.rule;
  on = w.on;
  with = w.with;
  other = w.other;
  to = w.to;
  by = w.by;
  members = take-append_seam w.members (replicate (1033 - length (pos 1 ∷ pos (length w.members) ∷ w.up ∷ w.rule ∷ w.on ∷ w.with ∷ w.other ∷ w.to ∷ w.by ∷ [] ++ w.members)) (pos 0)) i;
}

pub stored_waits : (w : NodeRow) → length w.members ≤ 1024 → waits (stored w) ≡ true
unfolding waits stored padded eq_z within
stored_waits w h =
    and_both _ _ refl (and_both (le_z (pos 0) (pos (length w.members))) _ (le_of (num 0) (num (length w.members)) (omega arith)) (le_of (num (length w.members)) (num 1024) (omega arith)))

nothing_waits_lem : waits nothing_waits ≡ false
unfolding waits nothing_waits padded eq_z ◌and◌
nothing_waits_lem = refl

-- ---- what holds between calls

-- the waiting memory, by the row that waits
abbrev Waits : Editor → Option NodeRow → Type 0
Waits E none = E.waiting ≡ nothing_waits
Waits E (some w) = (E.waiting ≡ stored w) × (add_refusal E.held w ≡ no_refusal)

-- nothing can be committed where nothing waits
no_commit : (E : Editor) → E.waiting ≡ nothing_waits → commit_refusal E ≡ no_refusal → ⊥
unfolding commit_refusal whole_unless
no_commit E e ok =
    true≢false (sym (unless_nothing (waits E.waiting) _ _ (otherwise_first _ _ (otherwise_second (refusal held_mode E.held) _ ok))) ∙ ap waits e ∙ nothing_waits_lem)

-- the row that waits is committed as it was enquired about
commits : (E : Editor) (w : NodeRow) → Waits E (some w) → commit_refusal E ≡ add_refusal E.held w
unfolding commit_refusal whole_unless add_refusal
commits E w (e, ok) =
    let f : waits E.waiting ≡ true = ap waits e ∙ stored_waits w (accepted_few E.held w ok) in
    ap (λ (x : Finding). refusal held_mode E.held otherwise x) (otherwise_nothing _ _ (nothing_unless (waits E.waiting) _ _ f) ∙ ap (new_refusal E.held) (ap waiting_row e ∙ stored_row w))

committed_row : (E : Editor) (w : NodeRow) → Waits E (some w) → waiting_row E.waiting ≡ w
committed_row E w (e, ok) = ap waiting_row e ∙ stored_row w

-- ---- one call

-- where a commit succeeds, a row waits and is added
commit_adds : (E : Editor) (p : Option NodeRow) → Waits E p → commit_refusal E ≡ no_refusal → (w : NodeRow) × (p ≡ some w) × (waiting_row E.waiting ≡ w) × (add_refusal E.held w ≡ no_refusal)
commit_adds E none W ok = absurd (no_commit E W ok)
commit_adds E (some w) W ok = (w, refl, committed_row E w W, W.1)

call_holds : (E : Editor) (p : Option NodeRow) → Holds E.held → Waits E p → (call : EditorCall) → editor_refusal E call ≡ no_refusal → Holds (held_after E call)
unfolding editor_refusal held_after
call_holds E p H W (enquire w) ok = H
call_holds E p H W commit ok =
    let c = commit_adds E p W ok in subst (λ (v : NodeRow). Holds (added E.held v)) (sym c.2) (add_holds E.held c.0 c.3)
call_holds E p H W (grow (add w)) ok = add_holds E.held w ok
call_holds E p H W (grow take_back) ok = holds_shortened E.held (back_holds E.held ok) (some_row E.held ok)

call_rows : (E : Editor) (p : Option NodeRow) → Waits E p → (call : EditorCall) → editor_refusal E call ≡ no_refusal → rows_held (held_after E call) ≡ done_editing p call (rows_held E.held)
unfolding editor_refusal held_after done_editing done committed
call_rows E p W (enquire w) ok = refl
call_rows E p W commit ok =
    let c = commit_adds E p W ok in
    ap (λ (v : NodeRow). rows_held (added E.held v)) c.2
    ∙ add_rows E.held c.0 c.3
    ∙ ap (λ (q : Option NodeRow). committed q (rows_held E.held)) (sym c.1)
call_rows E p W (grow (add w)) ok = add_rows E.held w ok
call_rows E p W (grow take_back) ok = back_rows E.held ok

-- what waits after an accepted call, and after a refused one
call_waits : (E : Editor) (call : EditorCall) → editor_refusal E call ≡ no_refusal → Waits (record { held = held_after E call; waiting = waiting_after call }) (pending_after call)
unfolding editor_refusal held_after waiting_after pending_after
call_waits E (enquire w) ok = (refl, ok)
call_waits E commit ok = refl
call_waits E (grow call) ok = refl

refused_waits : (E : Editor) (p : Option NodeRow) → Waits E p → (call : EditorCall) → Waits (record { held = E.held; waiting = waiting_refused E.waiting call }) (pending_refused p call)
unfolding waiting_refused pending_refused
refused_waits E p W (enquire w) = refl
refused_waits E none W commit = W
refused_waits E (some w) W commit = W
refused_waits E none W (grow call) = W
refused_waits E (some w) W (grow call) = W

edited_holds : (E : Editor) (p : Option NodeRow) → Holds E.held → Waits E p → (call : EditorCall) → Holds (edited E call).held
unfolding edited left_by
edited_holds E p H W call = by (editor_refusal E call) refl
  where
    by : (x : Finding) → editor_refusal E call ≡ x → Holds (left_by x E.held (held_after E call))
    by (Ok u) e = call_holds E p H W call e
    by (Err r) e = H

edited_waits : (E : Editor) (p : Option NodeRow) → Waits E p → (call : EditorCall) → Waits (edited E call) (pending_by (editor_refusal E call) p call)
unfolding edited left_by waiting_by pending_by
edited_waits E p W call = by (editor_refusal E call) refl
  where
    by : (x : Finding) → editor_refusal E call ≡ x → Waits (record { held = left_by x E.held (held_after E call); waiting = waiting_by x E.waiting call }) (pending_by x p call)
    by (Ok u) e = call_waits E call e
    by (Err r) e = refused_waits E p W call

edited_rows : (E : Editor) (p : Option NodeRow) → Waits E p → (call : EditorCall) → rows_held (edited E call).held ≡ done_editing_if (editor_refusal E call) p call (rows_held E.held)
unfolding edited left_by done_editing_if
edited_rows E p W call = by (editor_refusal E call) refl
  where
    by : (x : Finding) → editor_refusal E call ≡ x → rows_held (left_by x E.held (held_after E call)) ≡ done_editing_if x p call (rows_held E.held)
    by (Ok u) e = call_rows E p W call e
    by (Err r) e = refl

-- ---- lists of calls

all_held : (E : Editor) (p : Option NodeRow) → Holds E.held → Waits E p → (calls : List EditorCall) → Holds (edited_all E calls).held × Waits (edited_all E calls) (pending E p calls)
unfolding edited_all pending
all_held E p H W [] = (H, W)
all_held E p H W (call ∷ calls) = all_held (edited E call) _ (edited_holds E p H W call) (edited_waits E p W call) calls

all_left : (E : Editor) (p : Option NodeRow) → Waits E p → (calls : List EditorCall) (ws : List NodeRow) → rows_held E.held ≡ ws → rows_held (edited_all E calls).held ≡ leave_editing E p calls ws
unfolding edited_all leave_editing
all_left E p W [] ws e = e
all_left E p W (call ∷ calls) ws e =
    all_left (edited E call) _ (edited_waits E p W call) calls _ (edited_rows E p W call ∙ ap (done_editing_if (editor_refusal E call) p call) e)

-- "the rows are those of the successful commits and take-backs alone"
pub rows_edited : (T : Tableau) (calls : List EditorCall) → rows_held (edited_all (opened T) calls).held ≡ leave_editing (opened T) none calls []
unfolding opened begun holding rows_held first_rows
rows_edited T calls = all_left (opened T) none refl calls [] refl

-- they pass the check, no node and missing children aside
pub always_edited : (T : Tableau) → begin_refusal T ≡ no_refusal → (calls : List EditorCall) → refusal held_mode (edited_all (opened T) calls).held ≡ no_refusal
unfolding opened begin_refusal
always_edited T ok calls =
    (held_clears (edited_all (opened T) calls).held).1 (all_held (opened T) none ((held_clears (begun T)).0 ok) refl calls).0

-- "An enquiry answers as adding would, with its counts and "closed", and changes no row."
pub enquiry_as_adding : (E : Editor) (w : NodeRow) → editor_answer E (enquire w) ≡ editor_answer E (grow (add w))
unfolding editor_answer editor_refusal spoken_of
enquiry_as_adding E w = refl

pub enquiry_changes_none : (E : Editor) (w : NodeRow) → (edited E (enquire w)).held ≡ E.held
unfolding edited held_after left_by
enquiry_changes_none E w = left_same (editor_refusal E (enquire w)) E.held

-- "closed" is shown exactly when the whole check accepts the rows that the call leaves, of an enquiry those that adding would leave: after
-- every call, refused ones included
pub closed_edited : (E : Editor) (call : EditorCall) → (shown_number (editor_answer E call) ≡ 1) ↔ (check (shown_of E call) ≡ accept (shown_of E call).node_rows (link_count (shown_of E call)))
unfolding editor_answer editor_refusal shown_of edited held_after spoken_of
closed_edited E (enquire w) = closed_left (add_refusal E.held w) E.held (added E.held w)
closed_edited E commit = closed_left (commit_refusal E) E.held (added E.held (waiting_row E.waiting))
closed_edited E (grow (add w)) = closed_left (add_refusal E.held w) E.held (added E.held w)
closed_edited E (grow take_back) = closed_left (take_back_refusal E.held) E.held (shortened E.held)

-- for every list of calls, and one call more
pub closed_editing : (T : Tableau) (calls : List EditorCall) (call : EditorCall) →
    let E = edited_all (opened T) calls in
    (shown_number (editor_answer E call) ≡ 1) ↔ (check (shown_of E call) ≡ accept (shown_of E call).node_rows (link_count (shown_of E call)))
closed_editing T calls call = closed_edited (edited_all (opened T) calls) call

-- an accepted call gives their counts
pub counts_edited : (E : Editor) (call : EditorCall) (n l : ℕ) (shown : Bool) → editor_answer E call ≡ held_rows n l shown → (n ≡ (shown_of E call).node_rows) × (l ≡ link_count (shown_of E call))
unfolding editor_answer editor_refusal shown_of edited held_after spoken_of
counts_edited E (enquire w) n l shown e = counts_left (add_refusal E.held w) E.held (added E.held w) n l shown e
counts_edited E commit n l shown e = counts_left (commit_refusal E) E.held (added E.held (waiting_row E.waiting)) n l shown e
counts_edited E (grow (add w)) n l shown e = counts_left (add_refusal E.held w) E.held (added E.held w) n l shown e
counts_edited E (grow take_back) n l shown e = counts_left (take_back_refusal E.held) E.held (shortened E.held) n l shown e

-- a commit succeeds exactly when a row waits, "the row last enquired about, if that enquiry said yes and no commit or take-back succeeded
-- since", and then gives what the enquiry gives
pub commit_exactly : (T : Tableau) → begin_refusal T ≡ no_refusal → (calls : List EditorCall) → (commit_refusal (edited_all (opened T) calls) ≡ no_refusal) ↔ ((w : NodeRow) × (pending (opened T) none calls ≡ some w))
unfolding opened begin_refusal
commit_exactly T ok calls =
    let h = (all_held (opened T) none ((held_clears (begun T)).0 ok) refl calls).1 in (
      λ k. let c = commit_adds (edited_all (opened T) calls) (pending (opened T) none calls) h k in (c.0, c.1),
      λ (w, e). let g : Waits (edited_all (opened T) calls) (some w) = subst (Waits (edited_all (opened T) calls)) e h in commits (edited_all (opened T) calls) w g ∙ g.1,
    )

pub commit_as_enquired : (T : Tableau) → begin_refusal T ≡ no_refusal → (calls : List EditorCall) (w : NodeRow) → pending (opened T) none calls ≡ some w → editor_answer (edited_all (opened T) calls) commit ≡ editor_answer (edited_all (opened T) calls) (enquire w)
unfolding opened begin_refusal editor_answer editor_refusal spoken_of
commit_as_enquired T ok calls w e =
    let E = edited_all (opened T) calls in
    let g : Waits E (some w) = subst (Waits E) e (all_held (opened T) none ((held_clears (begun T)).0 ok) refl calls).1 in
    ap₂ (λ (x : Finding) (v : NodeRow). growth_by x E.held (added E.held v)) (commits E w g) (committed_row E w g)

-- "26, by commit, when no such row waits"
pub commit_26 : (T : Tableau) → begin_refusal T ≡ no_refusal → (calls : List EditorCall) → pending (opened T) none calls ≡ none → commit_refusal (edited_all (opened T) calls) ≡ refuse Waiting None
unfolding opened begin_refusal commit_refusal whole_unless
commit_26 T ok calls e =
    let E = edited_all (opened T) calls in
    let h = all_held (opened T) none ((held_clears (begun T)).0 ok) refl calls in
    let g : Waits E none = subst (Waits E) e h.1 in
    otherwise_nothing (refusal held_mode E.held) _ ((held_clears E.held).1 h.0)
    ∙ otherwise_found _ _ (found_unless (waits E.waiting) _ _ (ap waits g ∙ nothing_waits_lem))

-- "After 26 a waiting row is judged as by an enquiry, so one altered between calls gets its refusal."
pub commit_judged : (E : Editor) → waits E.waiting ≡ true → commit_refusal E ≡ add_refusal E.held (waiting_row E.waiting)
unfolding commit_refusal whole_unless add_refusal
commit_judged E f =
    ap (λ (x : Finding). refusal held_mode E.held otherwise x) (otherwise_nothing _ _ (nothing_unless (waits E.waiting) _ _ f))
