-- What a call answers and leaves, from what is found.
use Prim.Native.Nat.{ℕ, ◌+◌, ◌≤◌}
use native.Mathlib.Omega.{arith}
use mathlib.Core.Path.{◌≡◌, refl, sym, ◌∙◌, ap, ap₂}
use mathlib.Core.Bool.{true, false}
use mathlib.Core.List.{List, ◌++◌}
use lib.IntN.{ℤ, pos}
use lib.ListN.{length, get_or, take, drop}
use lib.Seq.{sets, get_or-take, get_or-drop, length-sets}
use Rattle.stab.specs.Basic.{nat, ◌otherwise◌}
use Rattle.stab.specs.Node.{Tableau}
use Rattle.stab.specs.Check.{whole_unless, refusal, held_mode}
use Rattle.stab.specs.Text.{padded}
use Rattle.std.specs.Prelude.{None, Ok, Err}
use Rattle.std.specs.Result.{is_ok}
use Rattle.stab.specs.Finding.{no_refusal, refuse, Place, Finding}
use Rattle.stab.specs.declared.Refusal.{Refusal}
use Rattle.stab.specs.declared.Refusal.TheVariants.{Waiting}
use Rattle.stab.proofs.Bools.{found_unless, otherwise_found, otherwise_same}
use Rattle.folds.proofs.Fronts.{sets_more}
use Rattle.signed.specs.Numbers.{cleared}
use Rattle.signed.proofs.Tables.{cleared_padded}
use Rattle.growing.specs.Growing.{NodeRow, added, turned_away, growth_by, left_by, Call, add, take_back, call_refusal, changed, answered, after}
use Rattle.growing.specs.Enquiry.{stored, nothing_waits, waits, waiting_row, Editor, enquire, commit, grow, commit_refusal, editor_refusal, spoken_of, editor_answer, held_after, waiting_after, waiting_refused, waiting_by, edited}
use Rattle.growing.specs.declared.Growth.{Growth}
use Rattle.growing.proofs.Enquiries.{commit_judged}
use Rattle.grow.specs.State.{row_from}
use Rattle.grow.proofs.Calls.{turned_growth}

-- ---- what an answer says

held_means : (x : Finding) (S T : Tableau) → is_ok (growth_by x S T).verdict ≡ true → x ≡ no_refusal
unfolding growth_by
held_means (Ok u) S T e = refl
held_means (Err r) S T e = cc

refused_means : (x : Finding) (S T : Tableau) → is_ok (growth_by x S T).verdict ≡ false → (w : Refusal) × (q : Place) × (x ≡ refuse w q)
unfolding growth_by
refused_means (Ok u) S T e = let z : ◌≡◌ {A = ℕ} 0 1 = cc in absurd (omega arith)
refused_means (Err r) S T e = (r.why, r.place, refl)

module _ (T : Tableau) (call : Call) (r : Growth) (e : r ≡ answered T call) where
  pub call_held : is_ok r.verdict ≡ true → call_refusal T call ≡ no_refusal
  unfolding answered
  call_held h = held_means (call_refusal T call) T (changed T call) (ap (λ (g : Growth). is_ok g.verdict) (sym e) ∙ h)

  pub call_refused : is_ok r.verdict ≡ false → (w : Refusal) × (q : Place) × (call_refusal T call ≡ refuse w q)
  unfolding answered
  call_refused h = refused_means (call_refusal T call) T (changed T call) (ap (λ (g : Growth). is_ok g.verdict) (sym e) ∙ h)

-- ---- enquiry

pub enquiry_answer : (E : Editor) (w : NodeRow) → answered E.held (add w) ≡ editor_answer E (enquire w)
unfolding answered call_refusal changed editor_answer editor_refusal spoken_of
enquiry_answer E w = refl

pub enquired_yes : (E : Editor) (w : NodeRow) → call_refusal E.held (add w) ≡ no_refusal → edited E (enquire w) ≡ (record { held = E.held; waiting = stored w })
unfolding call_refusal edited editor_refusal held_after left_by waiting_by waiting_after
enquired_yes E w e i = record {
  held = ap (λ (x : Finding). left_by x E.held E.held) e i;
  waiting = ap (λ (x : Finding). waiting_by x E.waiting (enquire w)) e i;
}

pub enquired_no : (E : Editor) (w : NodeRow) (why : Refusal) (p : Place) → call_refusal E.held (add w) ≡ refuse why p → edited E (enquire w) ≡ (record { held = E.held; waiting = nothing_waits })
unfolding call_refusal edited editor_refusal held_after left_by waiting_by waiting_refused
enquired_no E w why p e i = record {
  held = ap (λ (x : Finding). left_by x E.held E.held) e i;
  waiting = ap (λ (x : Finding). waiting_by x E.waiting (enquire w)) e i;
}

-- ---- adding and taking back

same_refusal : (E : Editor) (call : Call) → editor_refusal E (grow call) ≡ call_refusal E.held call
unfolding call_refusal editor_refusal
same_refusal E (add w) = refl
same_refusal E take_back = refl

same_rows : (E : Editor) (call : Call) → held_after E (grow call) ≡ changed E.held call
unfolding held_after changed
same_rows E (add w) = refl
same_rows E take_back = refl

same_spoken : (E : Editor) (call : Call) → spoken_of E (grow call) ≡ changed E.held call
unfolding spoken_of changed
same_spoken E (add w) = refl
same_spoken E take_back = refl

pub call_answer : (E : Editor) (call : Call) → answered E.held call ≡ editor_answer E (grow call)
unfolding answered editor_answer
call_answer E call = sym (ap₂ (λ (x : Finding) (U : Tableau). growth_by x E.held U) (same_refusal E call) (same_spoken E call))

pub held_is : (E : Editor) (call : Call) → (edited E (grow call)).held ≡ after E.held call
unfolding edited after
held_is E call = ap₂ (λ (x : Finding) (U : Tableau). left_by x E.held U) (same_refusal E call) (same_rows E call)

pub called_yes : (E : Editor) (call : Call) → call_refusal E.held call ≡ no_refusal → edited E (grow call) ≡ (record { held = after E.held call; waiting = nothing_waits })
unfolding edited waiting_by waiting_after
called_yes E call e i = record {
  held = held_is E call i;
  waiting = ap (λ (x : Finding). waiting_by x E.waiting (grow call)) (same_refusal E call ∙ e) i;
}

pub called_no : (E : Editor) (call : Call) (why : Refusal) (p : Place) → call_refusal E.held call ≡ refuse why p → edited E (grow call) ≡ (record { held = after E.held call; waiting = E.waiting })
unfolding edited waiting_by waiting_refused
called_no E call why p e i = record {
  held = held_is E call i;
  waiting = ap (λ (x : Finding). waiting_by x E.waiting (grow call)) (same_refusal E call ∙ e) i;
}

-- ---- commit

module _ (E : Editor) (h : waits E.waiting ≡ true) where
  abbrev w : NodeRow
  w = waiting_row E.waiting

  judged : commit_refusal E ≡ call_refusal E.held (add w)
  unfolding call_refusal
  judged = commit_judged E h

  pub commit_answer : answered E.held (add w) ≡ editor_answer E commit
  unfolding answered changed editor_answer editor_refusal spoken_of
  commit_answer = sym (ap (λ (x : Finding). growth_by x E.held (added E.held w)) judged)

  held_as : (edited E commit).held ≡ after E.held (add w)
  unfolding edited after editor_refusal held_after changed
  held_as = ap (λ (x : Finding). left_by x E.held (added E.held w)) judged

  pub committed_yes : call_refusal E.held (add w) ≡ no_refusal → edited E commit ≡ (record { held = after E.held (add w); waiting = nothing_waits })
  unfolding edited editor_refusal waiting_by waiting_after
  committed_yes e i = record {
    held = held_as i;
    waiting = ap (λ (x : Finding). waiting_by x E.waiting commit) (judged ∙ e) i;
  }

  pub committed_no : (why : Refusal) (p : Place) → call_refusal E.held (add w) ≡ refuse why p → edited E commit ≡ (record { held = after E.held (add w); waiting = E.waiting })
  unfolding edited editor_refusal waiting_by waiting_refused
  committed_no why p e i = record {
    held = held_as i;
    waiting = ap (λ (x : Finding). waiting_by x E.waiting commit) (judged ∙ e) i;
  }

module _ (E : Editor) (h : waits E.waiting ≡ false) where
  pub nothing_waits_lem : commit_refusal E ≡ (refusal held_mode E.held otherwise refuse Waiting None)
  unfolding commit_refusal whole_unless
  nothing_waits_lem = otherwise_same (refusal held_mode E.held) _ _ (λ e. otherwise_found _ _ (found_unless (waits E.waiting) _ _ h))

  pub no_commit_answer : turned_away E.held Waiting None ≡ editor_answer E commit
  unfolding editor_answer editor_refusal
  no_commit_answer = turned_growth E.held Waiting None (spoken_of E commit) ∙ ap (λ (x : Finding). growth_by x E.held (spoken_of E commit)) (sym nothing_waits_lem)

  pub no_commit : edited E commit ≡ E
  unfolding edited editor_refusal left_by waiting_by waiting_refused ◌otherwise◌
  no_commit = go (refusal held_mode E.held) nothing_waits_lem
    where
      go : (x : Finding) → commit_refusal E ≡ (x otherwise refuse Waiting None) → (record { held = left_by (commit_refusal E) E.held (held_after E commit); waiting = waiting_by (commit_refusal E) E.waiting commit }) ≡ E
      go (Ok u) e = λ i. record { held = ap (λ (x : Finding). left_by x E.held (held_after E commit)) e i; waiting = ap (λ (x : Finding). waiting_by x E.waiting commit) e i }
      go (Err r) e = λ i. record { held = ap (λ (x : Finding). left_by x E.held (held_after E commit)) e i; waiting = ap (λ (x : Finding). waiting_by x E.waiting commit) e i }

-- ---- the waiting row in its memory

-- its parts are the row
pub parts : (W : List ℤ) → row_from (take 7 (drop 2 W)) (take (nat (get_or W 1 (pos 0))) (drop 9 W)) ≡ waiting_row W
unfolding row_from waiting_row
parts W i = record {
  up = (get_or-take 7 (drop 2 W) 0 (pos 0) (omega arith) ∙ get_or-drop 2 W 0 (pos 0)) i;
  rule = (get_or-take 7 (drop 2 W) 1 (pos 0) (omega arith) ∙ get_or-drop 2 W 1 (pos 0)) i;
  on = (get_or-take 7 (drop 2 W) 2 (pos 0) (omega arith) ∙ get_or-drop 2 W 2 (pos 0)) i;
  with = (get_or-take 7 (drop 2 W) 3 (pos 0) (omega arith) ∙ get_or-drop 2 W 3 (pos 0)) i;
  other = (get_or-take 7 (drop 2 W) 4 (pos 0) (omega arith) ∙ get_or-drop 2 W 4 (pos 0)) i;
  to = (get_or-take 7 (drop 2 W) 5 (pos 0) (omega arith) ∙ get_or-drop 2 W 5 (pos 0)) i;
  by = (get_or-take 7 (drop 2 W) 6 (pos 0) (omega arith) ∙ get_or-drop 2 W 6 (pos 0)) i;
  members = take (nat (get_or W 1 (pos 0))) (drop 9 W);
}

-- nine numbers and a set, stored one after another, the rest 0
pub stored_so : (W front set : List ℤ) → length W ≡ 1033 → length front ≡ 9 → length set ≤ 1024 → cleared (sets (sets W 0 front) 9 set) (9 + length set) ≡ padded (pos 0) 1033 (front ++ set)
stored_so W front set e f g =
    cleared_padded (sets (sets W 0 front) 9 set) (9 + length set) 1033 (omega (arith, a, b)) (b ∙ a ∙ e)
    ∙ ap (padded (pos 0) 1033) (sets_more (sets W 0 front) set 9 (omega (arith, a)) ∙ ap (λ (l : List ℤ). l ++ set) first)
  where
    a : length (sets W 0 front) ≡ length W
    a = length-sets W 0 front

    b : length (sets (sets W 0 front) 9 set) ≡ length (sets W 0 front)
    b = length-sets (sets W 0 front) 9 set

    nine : 9 ≡ 0 + length front
    nine = omega (arith, f)

    first : take 9 (sets W 0 front) ≡ front
    first = ap (λ (n : ℕ). take n (sets W 0 front)) nine ∙ sets_more W front 0 (omega (arith, f))
