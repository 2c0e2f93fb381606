-- 02, No. 7: the rows held are those that the accepted calls leave, and "closed" is shown exactly when the whole check accepts them.
use Rattle.std.specs.Prelude.{if◌then◌else◌, Ok, Err}
use Prim.Native.Nat.{ℕ, zero, suc, ◌-◌, ◌<◌, ◌≤◌}
use native.Mathlib.Omega.{arith}
use mathlib.Core.Path.{◌≡◌, refl, sym, ◌∙◌, ap, ap₂, subst}
use mathlib.Core.Logic.Iff
use mathlib.Core.Logic.{◌↔◌, ⊎_elim}
use mathlib.Core.Bool.{Bool, true, false, false≢true}
use mathlib.Core.List.{List, [], ◌∷◌, ◌++◌}
use lib.Dec.{ltb}
use lib.IntN.{ℤ}
use lib.ListN.{length, take, length-append}
use lib.Seq.{take-append_seam}
use borrow.Author.Tests.{le-leb, ltb-true, lt-ltb, eq-eqb}
use Rattle.stab.specs.Node.{Tableau, Node, set, child_count}
use Rattle.stab.specs.Rule.{rule, children_fit, children_held, children_as}
use Rattle.stab.specs.Check.{whole_unless, at_unless, step_refusal, node_refusal, refusal, held_mode, link_count, check}
use Rattle.stab.specs.Keeps.{KeepsNode}
use Rattle.stab.specs.Finding.{accept, refuse, no_refusal, Verdict, Place, Finding}
use Rattle.stab.specs.declared.Counts.{Counts}
use Rattle.stab.specs.declared.Refusal.{Refusal}
use Rattle.growing.specs.declared.Growth.{Growth}
use Rattle.stab.proofs.Bools.{same_test, and_left, and_right, and_both, otherwise_first, otherwise_second, otherwise_nothing, unless_nothing, nothing_unless, nothing≢found}
use Rattle.stab.proofs.Scans.{below_suc}
use Rattle.stab.proofs.Exactness.Steps.{step_clears}
use Rattle.stab.proofs.Exactness.{accepts_exactly}
use Rattle.growing.specs.Growing.{NodeRow, holding, added, new_refusal, add_refusal, shortened, take_back_refusal, begun, begin_refusal, is_accepted, closed, growth_by, left_by, Call, add, take_back, call_refusal, changed, answered, after, after_all, begin_answer, shown_number, row_of, first_rows, rows_held, without_last, done, done_if, leave, held_rows}
use Rattle.growing.specs.Complete.{children_all, complete}
use Rattle.growing.proofs.Local.{Alike}
use Rattle.growing.proofs.States.{Holds, held_clears, written, added_new, added_last, added_alike}
use Rattle.growing.proofs.Held.{held_node, room, holds_added, shortened_alike, holds_shortened}

-- ---- the rows of a state

rows_alike : {T U : Tableau} {k : ℕ} → Alike T U k → (n : ℕ) → n ≤ k → first_rows U n ≡ first_rows T n
unfolding first_rows row_of
rows_alike A zero h = refl
rows_alike {T} {U} A (suc n) h = ap₂ (λ (ws : List NodeRow) (w : NodeRow). ws ++ w ∷ []) (rows_alike A n (omega arith)) row
  where
    row : row_of U n ≡ row_of T n
    row = ap₂ (λ (w : Node) (s : List ℤ). record { up = w.up; rule = w.rule; on = w.on; with = w.with; other = w.other; to = w.to; by = w.by; members = s }) (A.node n (omega arith)) (A.set n (omega arith))

-- ---- accepted calls

module _ (T : Tableau) (w : NodeRow) (ok : add_refusal T w ≡ no_refusal) where
  pub added_holds : Holds T
  unfolding add_refusal
  added_holds = (held_clears T).0 (otherwise_first _ _ ok)

  pub added_ok : new_refusal T w ≡ no_refusal
  unfolding add_refusal
  added_ok = otherwise_second (refusal held_mode T) _ ok

  pub add_holds : Holds (added T w)
  add_holds = holds_added T added_holds w added_ok

  -- one more at the end
  pub add_rows : rows_held (added T w) ≡ rows_held T ++ w ∷ []
  unfolding rows_held first_rows added holding row_of written
  add_rows =
      let r = room T added_holds w added_ok in
      ap₂ (λ (ws : List NodeRow) (v : NodeRow). ws ++ v ∷ []) (rows_alike (added_alike T added_holds w r) T.node_rows (omega arith)) last
    where
      last : row_of (added T w) T.node_rows ≡ w
      last =
          ap₂ (λ (v : Node) (s : List ℤ). record { up = v.up; rule = v.rule; on = v.on; with = v.with; other = v.other; to = v.to; by = v.by; members = s })
          (added_new T added_holds w (room T added_holds w added_ok)) (added_last T added_holds w (room T added_holds w added_ok))

module _ (T : Tableau) (ok : take_back_refusal T ≡ no_refusal) where
  pub back_holds : Holds T
  unfolding take_back_refusal
  back_holds = (held_clears T).0 (otherwise_first _ _ ok)

  pub some_row : 0 < T.node_rows
  unfolding take_back_refusal whole_unless
  some_row = ltb-true 0 T.node_rows (unless_nothing (ltb 0 T.node_rows) _ _ (otherwise_second (refusal held_mode T) _ ok))

  -- the last one gone
  pub back_rows : rows_held (shortened T) ≡ without_last (rows_held T)
  unfolding rows_held without_last shortened holding first_rows
  back_rows = rows_alike (shortened_alike T back_holds some_row) (T.node_rows - 1) (omega arith) ∙ sym (cut T.node_rows some_row)
    where
      cut : (n : ℕ) → 0 < n → take (length (first_rows T n) - 1) (first_rows T n) ≡ first_rows T (n - 1)
      cut zero h = absurd (omega arith)
      cut (suc k) h =
          let a : length (first_rows T k ++ row_of T k ∷ []) - 1 ≡ length (first_rows T k) = omega (arith, length-append (first_rows T k) (row_of T k ∷ [])) in
          let b : k ≡ suc k - 1 = omega arith in
          ap (λ (n : ℕ). take n (first_rows T k ++ row_of T k ∷ [])) a ∙ take-append_seam (first_rows T k) (row_of T k ∷ []) ∙ ap (first_rows T) b

-- ---- lists of calls

pub passed : (T : Tableau) (call : Call) → call_refusal T call ≡ no_refusal → Holds (changed T call)
unfolding call_refusal changed
passed T (add w) ok = add_holds T w ok
passed T take_back ok = holds_shortened T (back_holds T ok) (some_row T ok)

passed_rows : (T : Tableau) (call : Call) → call_refusal T call ≡ no_refusal → rows_held (changed T call) ≡ done call (rows_held T)
unfolding call_refusal changed done
passed_rows T (add w) ok = add_rows T w ok
passed_rows T take_back ok = back_rows T ok

after_holds : (T : Tableau) → Holds T → (call : Call) → Holds (after T call)
unfolding after left_by
after_holds T H call = by (call_refusal T call) refl
  where
    by : (x : Finding) → call_refusal T call ≡ x → Holds (left_by x T (changed T call))
    by (Ok u) e = passed T call e
    by (Err r) e = H

after_rows : (T : Tableau) (call : Call) → rows_held (after T call) ≡ done_if (call_refusal T call) call (rows_held T)
unfolding after left_by done_if
after_rows T call = by (call_refusal T call) refl
  where
    by : (x : Finding) → call_refusal T call ≡ x → rows_held (left_by x T (changed T call)) ≡ done_if x call (rows_held T)
    by (Ok u) e = passed_rows T call e
    by (Err r) e = refl

all_hold : (T : Tableau) → Holds T → (calls : List Call) → Holds (after_all T calls)
unfolding after_all
all_hold T H [] = H
all_hold T H (call ∷ calls) = all_hold (after T call) (after_holds T H call) calls

all_rows : (T : Tableau) (calls : List Call) (ws : List NodeRow) → rows_held T ≡ ws → rows_held (after_all T calls) ≡ leave T calls ws
unfolding after_all leave
all_rows T [] ws e = e
all_rows T (call ∷ calls) ws e = all_rows (after T call) calls _ (after_rows T call ∙ ap (done_if (call_refusal T call) call) e)

-- the rows held always pass the check, no node and missing children aside
pub always_held : (T : Tableau) → begin_refusal T ≡ no_refusal → (calls : List Call) → refusal held_mode (after_all (begun T) calls) ≡ no_refusal
unfolding begin_refusal
always_held T ok calls = (held_clears (after_all (begun T) calls)).1 (all_hold (begun T) ((held_clears (begun T)).0 ok) calls)

-- "the rows held are those that the accepted calls leave"
pub rows_left : (T : Tableau) (calls : List Call) → rows_held (after_all (begun T) calls) ≡ leave (begun T) calls []
unfolding begun holding rows_held first_rows
rows_left T calls = all_rows (begun T) calls [] refl

-- "A refused call leaves the tableau as it stood"
pub refused_leaves : (T : Tableau) (call : Call) (why : Refusal) (p : Place) → call_refusal T call ≡ refuse why p → after T call ≡ T
unfolding after left_by
refused_leaves T call why p e = ap (λ (x : Finding). left_by x T (changed T call)) e

-- ---- closed

-- where the check accepts, its counts are those of the rows held
closed_counts : (T : Tableau) → (closed T ≡ true) ↔ (check T ≡ accept T.node_rows (link_count T))
unfolding closed is_accepted
closed_counts T = (λ h. by (check T) refl h, λ e. ap is_accepted e)
  where
    by : (v : Verdict) → check T ≡ v → is_accepted v ≡ true → check T ≡ accept T.node_rows (link_count T)
    by (Ok c) e h = let a = (accepts_exactly T c.nodes c.links).0 e in e ∙ ap₂ accept a.1 a.2
    by (Err r) e h = absurd (false≢true h)

-- "closed" speaks of the rows that a call leaves
shown_is : (x : Finding) (old new : Tableau) → shown_number (growth_by x old new) ≡ (if closed (left_by x old new) then 1 else 0)
unfolding shown_number growth_by left_by
shown_is (Ok u) old new = refl
shown_is (Err r) old new = refl

shows : (b : Bool) → (◌≡◌ {A = ℕ} (if b then 1 else 0) 1) ↔ (b ≡ true)
shows true = (λ e. refl, λ e. refl)
shows false = (λ e. absurd (omega arith), λ e. absurd (false≢true e))

pub closed_left : (x : Finding) (old new : Tableau) →
    let U = left_by x old new in
    (shown_number (growth_by x old new) ≡ 1) ↔ (check U ≡ accept U.node_rows (link_count U))
closed_left x old new =
    let U = left_by x old new in
    Iff.trans (λ e. (shows (closed U)).0 (sym (shown_is x old new) ∙ e), λ c. shown_is x old new ∙ (shows (closed U)).1 c) (closed_counts U)

-- ""closed" is shown exactly when the whole check accepts the rows held": after every call, refused ones included
pub closed_exactly : (T : Tableau) (call : Call) → (shown_number (answered T call) ≡ 1) ↔ (check (after T call) ≡ accept (after T call).node_rows (link_count (after T call)))
unfolding answered after
closed_exactly T call = closed_left (call_refusal T call) T (changed T call)

-- "For every list of these calls .., refused ones included", and one call more
pub closed_throughout : (T : Tableau) (calls : List Call) (call : Call) →
    let U = after_all (begun T) calls in
    (shown_number (answered U call) ≡ 1) ↔ (check (after U call) ≡ accept (after U call).node_rows (link_count (after U call)))
closed_throughout T calls call = closed_exactly (after_all (begun T) calls) call

-- and after the first call
pub left_same : (x : Finding) (U : Tableau) → left_by x U U ≡ U
unfolding left_by
left_same (Ok u) U = refl
left_same (Err r) U = refl

pub closed_begun : (T : Tableau) → (shown_number (begin_answer T) ≡ 1) ↔ (check (begun T) ≡ accept (begun T).node_rows (link_count (begun T)))
unfolding begin_answer
closed_begun T =
    subst (λ (U : Tableau). (shown_number (growth_by (begin_refusal T) (begun T) (begun T)) ≡ 1) ↔ (check U ≡ accept U.node_rows (link_count U)))
    (left_same (begin_refusal T) (begun T)) (closed_left (begin_refusal T) (begun T) (begun T))

-- no row is held then, so that it never shows "closed"
pub begun_open : (T : Tableau) → closed (begun T) ≡ false
unfolding begun holding
begun_open T = by (closed (begun T)) refl
  where
    by : (b : Bool) → closed (begun T) ≡ b → closed (begun T) ≡ false
    by true c = let k = ((accepts_exactly (begun T) (begun T).node_rows (link_count (begun T))).0 ((closed_counts (begun T)).0 c)).0.older.has_node in absurd (omega arith)
    by false c = c

pub begun_shows_none : (T : Tableau) → shown_number (begin_answer T) ≡ 0
unfolding begin_answer
begun_shows_none T =
    shown_is (begin_refusal T) (begun T) (begun T)
    ∙ ap (λ (b : Bool). if b then 1 else 0) (ap closed (left_same (begin_refusal T) (begun T)) ∙ begun_open T)

-- an accepted call "gives place 0 and the node and link counts of the rows held"
pub counts_left : (x : Finding) (old new : Tableau) (n l : ℕ) (shown : Bool) → growth_by x old new ≡ held_rows n l shown → (n ≡ (left_by x old new).node_rows) × (l ≡ link_count (left_by x old new))
unfolding growth_by left_by
counts_left (Ok u) old new n l shown e =
    let v : accept new.node_rows (link_count new) ≡ accept n l = ap (λ (g : Growth). g.verdict) e in
    let k : ◌≡◌ {A = Counts} (record { nodes = new.node_rows; links = link_count new }) (record { nodes = n; links = l }) = cc in
    (sym (ap (λ (c : Counts). c.nodes) k), sym (ap (λ (c : Counts). c.links) k))
counts_left (Err r) old new n l shown e =
    let v : ◌≡◌ {A = Verdict} (Err r) (accept n l) = ap (λ (g : Growth). g.verdict) e in
    let z : ◌≡◌ {A = ℕ} 0 1 = cc in
    absurd (omega arith)

pub counts_held : (T : Tableau) (call : Call) (n l : ℕ) (shown : Bool) → answered T call ≡ held_rows n l shown → (n ≡ (after T call).node_rows) × (l ≡ link_count (after T call))
unfolding answered after
counts_held T call n l shown e = counts_left (call_refusal T call) T (changed T call) n l shown e

-- ---- what the code looks at: among rows that have passed only a missing node or child keeps the tableau open

all_fit : (T : Tableau) (n : ℕ) → children_all T n ≡ true → (j : ℕ) → j < n → children_fit T j ≡ true
unfolding children_all
all_fit T zero h j l = absurd (omega arith)
all_fit T (suc n) h j l =
    ⊎_elim (λ m. all_fit T n (and_left (children_all T n) _ h) j m) (λ e. rw e (and_right (children_all T n) _ h)) (below_suc j n l)

fit_all : (T : Tableau) (n : ℕ) → ((j : ℕ) → j < n → children_fit T j ≡ true) → children_all T n ≡ true
unfolding children_all
fit_all T zero h = refl
fit_all T (suc n) h = and_both _ _ (fit_all T n (λ j l. h j (omega arith))) (h n (omega arith))

pub closed_is : (T : Tableau) → refusal held_mode T ≡ no_refusal → closed T ≡ complete T
unfolding complete node_refusal at_unless children_fit children_as
closed_is T h = same_test _ _ (λ c. to ((closed_counts T).0 c)) (λ c. (closed_counts T).1 (from c))
  where
    H : Holds T
    H = (held_clears T).0 h

    to : check T ≡ accept T.node_rows (link_count T) → complete T ≡ true
    to e =
        let k = ((accepts_exactly T T.node_rows (link_count T)).0 e).0 in
        and_both _ _ (lt-ltb 0 T.node_rows k.older.has_node) (fit_all T T.node_rows (λ j l. eq-eqb _ _ (k.older.nodes j l).step.children))

    node_kept : complete T ≡ true → (j : ℕ) → j < T.node_rows → KeepsNode T j
    node_kept c j l =
        let f = all_fit T T.node_rows (and_right (ltb 0 T.node_rows) _ c) j l in
        let s = (step_clears T j).0 (otherwise_nothing (step_refusal T j) _ (otherwise_first _ _ (H.steps j l)) ∙ nothing_unless (children_fit T j) _ _ f) in
        record { set = H.sets j l; parent = H.parents j l; drawn = s.0; step = s.1 }

    from : complete T ≡ true → check T ≡ accept T.node_rows (link_count T)
    from c =
        (accepts_exactly T T.node_rows (link_count T)).1
        (record { older = record { tables = H.tables; formulas = H.formulas; has_node = ltb-true 0 T.node_rows (and_left _ _ c); nodes = node_kept c }; fresh = H.fresh }, refl, refl)

-- rows that are refused are not closed
closed_held : (T : Tableau) → closed T ≡ true → refusal held_mode T ≡ no_refusal
unfolding node_refusal children_held
closed_held T c =
    let k = ((accepts_exactly T T.node_rows (link_count T)).0 ((closed_counts T).0 c)).0 in
    (held_clears T).1
    (record {
      tables = k.older.tables;
      formulas = k.older.formulas;
      fresh = k.fresh;
      sets = λ j l. (k.older.nodes j l).set;
      parents = λ j l. (k.older.nodes j l).parent;
      steps = λ j l.
          let v = k.older.nodes j l in
          held_node T j (otherwise_first _ _ ((step_clears T j).1 (v.drawn, v.step))) (le-leb (child_count T j) (rule T j).children (omega (arith, v.step.children)));
    })

pub refused_open : (T : Tableau) (why : Refusal) (p : Place) → refusal held_mode T ≡ refuse why p → closed T ≡ false
refused_open T why p e = by (closed T) refl
  where
    by : (b : Bool) → closed T ≡ b → closed T ≡ false
    by true c = absurd (nothing≢found (sym (closed_held T c) ∙ e))
    by false c = c
