-- What a call answers and leaves, from what is found.
use Prim.Native.Nat.{ℕ, suc, ◌+◌, ◌*◌, ◌<◌}
use native.Mathlib.Omega.{arith}
use native.Mathlib.Numerals.{add-one}
use mathlib.Core.Path.{◌≡◌, refl, sym, ◌∙◌, ap, ap₂, subst}
use mathlib.Core.Bool.{Bool, true, false}
use mathlib.Core.List.{List}
use lib.Dec.{ltb}
use lib.IntN.{ℤ, pos}
use lib.ListN.{length, take}
use lib.Seq.{sets, length-sets}
use borrow.Author.Tests.{le-ltb, lt-ltb}
use Rattle.stab.specs.Basic.{count, ◌otherwise◌}
use Rattle.stab.specs.Node.{Tableau, node}
use Rattle.stab.specs.Lent.{lent, header}
use Rattle.stab.specs.Check.{whole_unless, parent_refusal, link_count, refusal, held_mode}
use Rattle.stab.specs.Text.{padded}
use Rattle.stab.specs.declared.Header.{Header}
use Rattle.std.specs.Prelude.{None, Ok, Err}
use Rattle.stab.specs.Finding.{no_refusal, refuse, Place, Finding}
use Rattle.stab.specs.declared.Refusal.{Refusal}
use Rattle.stab.specs.declared.Refusal.TheVariants.{NoRow}
use Rattle.stab.proofs.Bools.{nothing_unless, found_unless, otherwise_nothing, otherwise_found, otherwise_same}
use Rattle.stab.proofs.Scans.{scan_nothing}
use Rattle.stab.proofs.Tests.{within_tests}
use Rattle.stab.proofs.Exactness.Nodes.{parent_clears}
use Rattle.branch.proofs.ParentLaws.{parents_known}
use Rattle.fields.proofs.FieldParts.{fields_known_lem}
use Rattle.folds.proofs.Fronts.{sets_more}
use Rattle.steps.proofs.StepLaws.{fields_passed}
use Rattle.growing.specs.Growing.{NodeRow, node_numbers, holding, added, room_for, add_refusal, take_back_refusal, begun, begin_refusal, begin_answer, turned_away, tried, growth_by, left_by, Call, add, take_back, call_refusal, changed, answered, after, held_rows, refused_call}
use Rattle.growing.specs.Complete.{complete}
use Rattle.growing.proofs.States.{Holds, held_clears}
use Rattle.growing.proofs.Held.{fits, held_step}
use Rattle.growing.proofs.Grown.{added_holds, add_holds, passed, refused_leaves, begun_open, closed_is, refused_open}
use Rattle.growing.specs.Lent.{holding_in}
use Rattle.grow.specs.State.{grown, nodes_only, shown, Countable}
use Rattle.grow.proofs.Counted.{complete_alone, complete_same, links_same, shown_alone}
use Rattle.grow.proofs.Laying.{agrees}

-- ---- refused calls

-- the rows held are refused
refused_growth : (T U : Tableau) (why : Refusal) (p : Place) → refusal held_mode T ≡ refuse why p → refused_call why p false ≡ growth_by (refuse why p) T U
unfolding growth_by
refused_growth T U why p e = ap (refused_call why p) (sym (refused_open T why p e))

pub refused_answer : (T : Tableau) (call : Call) (why : Refusal) (p : Place) → refusal held_mode T ≡ refuse why p → call_refusal T call ≡ refuse why p → refused_call why p false ≡ answered T call
unfolding answered
refused_answer T call why p e f = refused_growth T (changed T call) why p e ∙ ap (λ (x : Finding). growth_by x T (changed T call)) (sym f)

module _ (T : Tableau) (why : Refusal) (p : Place) where
  pub refused_turned : (w : Refusal) (q : Place) → refusal held_mode T ≡ refuse w q → refused_call w q false ≡ turned_away T why p
  unfolding turned_away
  refused_turned w q e = refused_growth T T w q e ∙ ap (λ (x : Finding). growth_by x T T) (sym (otherwise_found _ _ e))

  -- they pass, and the call is refused
  pub passed_turned : refusal held_mode T ≡ no_refusal → refused_call why p (complete (nodes_only T.nodes T.node_rows)) ≡ turned_away T why p
  unfolding turned_away growth_by
  passed_turned e =
      ap (refused_call why p) (complete_alone T ∙ sym (closed_is T e)) ∙ ap (λ (x : Finding). growth_by x T T) (sym (otherwise_nothing _ _ e))

  pub turned_growth : (U : Tableau) → turned_away T why p ≡ growth_by (refusal held_mode T otherwise refuse why p) T U
  unfolding turned_away growth_by ◌otherwise◌
  turned_growth U = by (refusal held_mode T)
    where
      by : (x : Finding) → growth_by (x otherwise refuse why p) T T ≡ growth_by (x otherwise refuse why p) T U
      by (Ok u) = refl
      by (Err r) = refl

  module _ (call : Call) (e : call_refusal T call ≡ (refusal held_mode T otherwise refuse why p)) where
    pub turned_answer : turned_away T why p ≡ answered T call
    unfolding answered
    turned_answer = turned_growth (changed T call) ∙ ap (λ (x : Finding). growth_by x T (changed T call)) (sym e)

    pub turned_left : after T call ≡ T
    unfolding ◌otherwise◌
    turned_left = by (refusal held_mode T) e
      where
        by : (x : Finding) → call_refusal T call ≡ (x otherwise refuse why p) → after T call ≡ T
        by (Ok u) f = refused_leaves T call why p f
        by (Err r) f = refused_leaves T call r.why r.place f

-- a row that is refused is not there, kept or not
pub turned_tried : (keep : Bool) (T : Tableau) (w : NodeRow) → after T (add w) ≡ T → T ≡ tried keep T w
unfolding tried
turned_tried true T w e = sym e
turned_tried false T w e = refl

-- ---- accepted calls

-- the numbers that go with a state
abbrev pub header_of : Tableau → Header
header_of T = header T.schema_rows T.proof_rows T.root T.least T.node_rows T.member_count

-- what is known of rows that have passed when their children are counted
pub countable : (T : Tableau) → Holds T → Countable T.nodes (header_of T)
unfolding node
countable T H = record {
  few = H.tables.node_limit;
  least_fits = (within_tests _ _ _).1 H.formulas.least_range;
  parents = parents_known T T.node_rows (scan_nothing (parent_refusal T) T.node_rows (λ j l. (parent_clears T j).1 (H.parents j l)));
  rules = λ j l. (fields_known_lem T j (fields_passed T j (held_step T j (H.steps j l)))).rule;
}

pub accepted_answer : (T : Tableau) (call : Call) → call_refusal T call ≡ no_refusal → shown (changed T call).nodes (changed T call).node_rows ≡ answered T call
unfolding answered growth_by
accepted_answer T call e =
    let U = changed T call in
    shown_alone U
    ∙ ap (held_rows U.node_rows (link_count U)) (sym (closed_is U ((held_clears U).1 (passed T call e))))
    ∙ ap (λ (x : Finding). growth_by x T U) (sym e)

pub accepted_left : (T : Tableau) (call : Call) → call_refusal T call ≡ no_refusal → after T call ≡ changed T call
unfolding after left_by
accepted_left T call e = ap (λ (x : Finding). left_by x T (changed T call)) e

-- ---- the first call

pub begun_answer : (T : Tableau) → begin_refusal T ≡ no_refusal → begin_answer T ≡ held_rows 0 0 false
unfolding begin_answer growth_by link_count count begun holding
begun_answer T e = ap (λ (x : Finding). growth_by x (begun T) (begun T)) e ∙ ap (held_rows 0 0) (begun_open T)

pub begun_refused : (T : Tableau) (why : Refusal) (p : Place) → begin_refusal T ≡ refuse why p → begin_answer T ≡ refused_call why p false
unfolding begin_answer growth_by
begun_refused T why p e = ap (λ (x : Finding). growth_by x (begun T) (begun T)) e ∙ ap (refused_call why p) (begun_open T)

-- ---- the last row taken back

pub no_row : (T : Tableau) → T.node_rows ≡ 0 → call_refusal T take_back ≡ (refusal held_mode T otherwise refuse NoRow None)
unfolding call_refusal take_back_refusal whole_unless
no_row T e = otherwise_same (refusal held_mode T) _ _ (λ h. found_unless (ltb 0 T.node_rows) _ _ (le-ltb 0 T.node_rows (omega arith)))

pub back_refused : (T : Tableau) (why : Refusal) (p : Place) → refusal held_mode T ≡ refuse why p → call_refusal T take_back ≡ refuse why p
unfolding call_refusal take_back_refusal
back_refused T why p e = otherwise_found (refusal held_mode T) _ e

pub back_accepted : (T : Tableau) → refusal held_mode T ≡ no_refusal → 0 < T.node_rows → call_refusal T take_back ≡ no_refusal
unfolding call_refusal take_back_refusal whole_unless
back_accepted T e h = otherwise_nothing (refusal held_mode T) _ e ∙ nothing_unless (ltb 0 T.node_rows) _ _ (lt-ltb 0 T.node_rows h)

-- ---- a row laid behind the rows held, and the tables cleared past it

module _ (T : Tableau) (w : NodeRow) (room : room_for T w ≡ true) where
  -- the numbers that go with it
  abbrev more : Header
  more = holding_in (header_of T) (T.node_rows + 1) (T.member_count + length w.members)

  pub grown_nodes : padded (pos 0) (length (grown T w).nodes) (take (9 * (T.node_rows + 1)) (grown T w).nodes) ≡ (added T w).nodes
  unfolding grown added holding node_numbers
  grown_nodes =
      let n = T.node_rows in
      let ns = node_numbers w T.member_count in
      let e : 9 * (n + 1) ≡ 9 * n + 9 = omega arith in
      ap₂ (λ (k l : ℕ). padded (pos 0) k (take l (sets T.nodes (9 * n) ns))) (length-sets T.nodes (9 * n) ns) e
      ∙ ap (padded (pos 0) (length T.nodes)) (sets_more T.nodes ns (9 * n) (omega (arith, (fits T w room).2)))

  pub grown_members : padded (pos 0) (length (grown T w).members) (take (T.member_count + length w.members) (grown T w).members) ≡ (added T w).members
  unfolding grown added holding
  grown_members =
      let m = T.member_count in
      ap (λ (k : ℕ). padded (pos 0) k (take (m + length w.members) (sets T.members m w.members))) (length-sets T.members m w.members)
      ∙ ap (padded (pos 0) (length T.members)) (sets_more T.members w.members m (fits T w room).3)

  -- what is known of nodes with one row more, by what is known of rows that have passed
  counts_more : (ns : List ℤ) (U : Tableau) → Holds U → ns ≡ U.nodes → header_of U ≡ holding_in (header_of T) (suc T.node_rows) (T.member_count + length w.members) → Countable ns more
  counts_more ns U H e f =
      subst (λ (k : List ℤ). Countable k more) (sym e)
      (subst (Countable U.nodes) (f ∙ ap (λ (n : ℕ). holding_in (header_of T) n (T.member_count + length w.members)) (sym (add-one T.node_rows))) (countable U H))

  pub tried_countable : Holds (grown T w) → (ns : List ℤ) → ns ≡ (grown T w).nodes → Countable ns more
  unfolding grown
  tried_countable H ns e = counts_more ns (grown T w) H e refl

  -- the row is accepted
  module _ (ok : add_refusal T w ≡ no_refusal) where
    pub laid_countable : (ns : List ℤ) → ns ≡ (grown T w).nodes → Countable (padded (pos 0) (length ns) (take (9 * (T.node_rows + 1)) ns)) more
    unfolding added holding
    laid_countable ns e =
        counts_more _ (added T w) (add_holds T w ok) (ap (λ (k : List ℤ). padded (pos 0) (length k) (take (9 * (T.node_rows + 1)) k)) e ∙ grown_nodes) refl

    pub laid_answer : (ns : List ℤ) → ns ≡ (added T w).nodes → shown ns (T.node_rows + 1) ≡ answered T (add w)
    unfolding call_refusal changed added holding
    laid_answer ns e =
        (λ i. shown (e i) (add-one T.node_rows i)) ∙ accepted_answer T (add w) ok

    -- the row is not kept: what is shown of the rows with it
    pub tried_answer : (ns : List ℤ) → ns ≡ (grown T w).nodes → shown ns (T.node_rows + 1) ≡ answered T (add w)
    unfolding call_refusal changed added holding grown
    tried_answer ns e =
        let G = agrees T w room (added_holds T w ok) in
        (λ i. shown (e i) (add-one T.node_rows i))
        ∙ shown_alone (grown T w)
        ∙ ap₂ (held_rows (suc T.node_rows)) (links_same G) (complete_same G)
        ∙ sym (shown_alone (added T w))
        ∙ accepted_answer T (add w) ok

    pub laid_left : (ns ms : List ℤ) → ns ≡ (added T w).nodes → ms ≡ (added T w).members → lent T.schema T.proof ns ms more ≡ after T (add w)
    unfolding call_refusal changed added holding
    laid_left ns ms e f =
        (λ i. lent T.schema T.proof (e i) (f i) (holding_in (header_of T) (add-one T.node_rows i) (T.member_count + length w.members)))
        ∙ sym (accepted_left T (add w) ok)
