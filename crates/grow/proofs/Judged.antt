-- The rows held with an accepted or refused row more: what the check of the rows held finds is what is found of the added row, but for the
-- place of a child beyond.
use Prim.Native.Nat.{ℕ, zero, suc, ◌*◌, ◌<◌}
use native.Mathlib.Omega.{arith}
use mathlib.Core.Path.{◌≡◌, refl, sym, ◌∙◌, ap, ap₂, subst}
use mathlib.Core.Logic.{◌⊎◌, inl, inr, ⊎_elim}
use mathlib.Core.Bool.{Bool, true, false}
use lib.IntN.{pos, pos-ne-negsuc}
use borrow.Author.Tests.{le-leb}
use Rattle.stab.specs.Basic.{◌implies◌, nat, unless, ◌otherwise◌, scan}
use Rattle.stab.specs.Node.{Tableau, rows, row_count, node_at, node, names}
use Rattle.stab.specs.Rule.{drawn, fields_fit, target_fits, bound_fits, partners_fit, lowered_fits, children_held, children_as}
use Rattle.stab.specs.Check.{whole_unless, at_unless, holds, formulas_refusal, set_refusal, parent_refusal, step_refusal, node_refusal, tables_hold, within_limits, enough_nodes, refusal, held_mode}
use Rattle.stab.specs.Keeps.{KeepsParent}
use Rattle.std.specs.Prelude.{Some, Ok, Err}
use Rattle.stab.specs.Finding.{no_refusal, refuse, Place, Finding}
use Rattle.stab.specs.declared.Refusal.{Refusal}
use Rattle.stab.specs.declared.Refusal.TheVariants.{Set, Parent, Drawn, Fields, Target, Bound, Partner, Lowered, Children}
use Rattle.stab.proofs.Bools.{decide, and_both, nothing_unless, found_unless, otherwise_nothing, otherwise_found, otherwise_same}
use Rattle.stab.proofs.Scans.{scan_nothing, scan_found}
use Rattle.stab.proofs.Whole.{eq_z_true, eq_z_not, pos_injective}
use Rattle.stab.proofs.Trees.{below_nat, below_pos}
use Rattle.stab.proofs.Tests.{below_tests}
use Rattle.stab.proofs.Exactness.Formulas.{present_clears}
use Rattle.stab.proofs.Exactness.Nodes.{set_clears, parent_clears}
use Rattle.growing.specs.Growing.{NodeRow, holding, added, room_for, beyond_refusal, added_refusal}
use Rattle.growing.proofs.States.{Holds}
use Rattle.growing.proofs.Held.{old_set, old_parent, old_step, other_children, new_children, tables_added, held_node}
use Rattle.grow.specs.Moved.{placed, moved}

-- ---- the place of a child beyond

moved_then : (n : ℕ) (b : Bool) (why : Refusal) (j : ℕ) (x y : Finding) → placed n why (Some j) ≡ Some j → moved n x ≡ y → moved n (at_unless b why j otherwise x) ≡ (at_unless b why j otherwise y)
unfolding moved at_unless unless ◌otherwise◌
moved_then n true why j x y e f = f
moved_then n false why j x y e f = ap (λ (p : Place). refuse why p) e

moved_last : (n : ℕ) (b : Bool) (why : Refusal) (j : ℕ) → placed n why (Some j) ≡ Some j → moved n (at_unless b why j) ≡ at_unless b why j
unfolding moved at_unless unless
moved_last n true why j e = refl
moved_last n false why j e = ap (λ (p : Place). refuse why p) e

moved_step : (T : Tableau) (n j : ℕ) → moved n (step_refusal T j) ≡ step_refusal T j
unfolding step_refusal placed
moved_step T n j =
    moved_then n (drawn T j) Drawn j _ _ refl
    (moved_then n (fields_fit T j) Fields j _ _ refl
    (moved_then n (target_fits T j) Target j _ _ refl
    (moved_then n (bound_fits T j) Bound j _ _ refl
    (moved_then n (partners_fit T j) Partner j _ _ refl
    (moved_last n (lowered_fits T j) Lowered j refl)))))

moved_children : (n p : ℕ) → moved n (refuse Children (Some p)) ≡ refuse Children (Some n)
unfolding moved placed
moved_children n p = refl

-- ---- the parent of the last row

-- its children are not too many, or they are, and it is the only node with one more
record Beyond (U : Tableau) (k : ℕ) : Type 0 where
  p : ℕ
  before : p < k
  beyond : children_held U p ≡ false
  found : beyond_refusal U k ≡ refuse Children (Some k)
  others : (j : ℕ) → j < p → names U.nodes (pos j) k ≡ false

record Within (U : Tableau) (k : ℕ) : Type 0 where
  passed : beyond_refusal U k ≡ no_refusal
  parent : (j : ℕ) → names U.nodes (pos j) k ≡ true → children_held U j ≡ true

parent_of : (U : Tableau) (k : ℕ) → KeepsParent U k → Within U k ⊎ Beyond U k
unfolding beyond_refusal at_unless names node
parent_of U zero h =
    inl (record { passed = refl; parent = λ j m. absurd (pos-ne-negsuc j 0 (sym (eq_z_true _ _ m) ∙ h.0)) })
parent_of U (suc i) h =
    let up = (node_at U.nodes (suc i)).up in
    let b = (below_tests (suc i) up).1 h in
    let named : (j : ℕ) → up ≡ pos j → nat up ≡ j = λ j r. pos_injective _ j (below_pos (suc i) up b ∙ r) in
    ⊎_elim
    (λ e. inl (record { passed = nothing_unless _ _ _ e; parent = λ j m. subst (λ (q : ℕ). children_held U q ≡ true) (named j (eq_z_true _ _ m)) e }))
    (λ e.
    inr
    (record {
      p = nat up;
      before = below_nat (suc i) up b;
      beyond = e;
      found = found_unless _ _ _ e;
      others = λ j l. eq_z_not _ _ (λ r. let q = named j r in omega arith);
    }))
    (decide (children_held U (nat up)))

-- ---- the last row

-- where nothing is found of the rows before it
scan_last : (f : ℕ → Finding) (n : ℕ) → ((j : ℕ) → j < n → f j ≡ no_refusal) → scan f (suc n) ≡ f n
unfolding scan
scan_last f n h = otherwise_nothing (scan f n) (f n) (scan_nothing f n h)

nothing_after : (x y : Finding) → y ≡ no_refusal → (x otherwise y) ≡ x
unfolding ◌otherwise◌
nothing_after (Ok u) y e = e
nothing_after (Err r) y e = refl

module _ (T : Tableau) (H : Holds T) (w : NodeRow) (room : room_for T w ≡ true) where
  abbrev U : Tableau
  U = added T w

  abbrev n : ℕ
  n = T.node_rows

  tables_hold_lem : tables_hold U ≡ true
  unfolding tables_hold holds
  tables_hold_lem =
      let t = tables_added T H w room in
      and_both _ _ (le-leb _ _ t.schema_held) (and_both _ _ (le-leb _ _ t.proof_held) (and_both _ _ (le-leb _ _ t.nodes_held) (le-leb (1 * U.member_count) _ (omega (arith, t.members_held)))))

  limits_kept : within_limits U ≡ true
  unfolding within_limits
  limits_kept = let t = tables_added T H w room in and_both _ _ (le-leb _ _ t.row_limit) (and_both _ _ (le-leb _ _ t.node_limit) (le-leb _ _ t.member_limit))

  formulas_kept : formulas_refusal false (rows U) (row_count U) U.schema_rows U.root U.least ≡ no_refusal
  unfolding added holding rows row_count
  formulas_kept = (present_clears U).1 (H.formulas, H.fresh)

  node_found_lem : KeepsParent U n → moved n (scan (node_refusal false U) (suc n)) ≡ (beyond_refusal U n otherwise step_refusal U n)
  unfolding node_refusal at_unless children_as
  node_found_lem k = ⊎_elim within beyond (parent_of U n k)
    where
      held : (j : ℕ) → j < n → children_held U j ≡ true → node_refusal false U j ≡ no_refusal
      held j h c = held_node U j (old_step T H w room j h) c

      within : Within U n → moved n (scan (node_refusal false U) (suc n)) ≡ (beyond_refusal U n otherwise step_refusal U n)
      within q =
          ap (moved n) (scan_last (node_refusal false U) n (λ j h. held j h (all j h (names U.nodes (pos j) n) refl)) ∙ last)
          ∙ moved_step U n n
          ∙ sym (otherwise_nothing (beyond_refusal U n) _ q.passed)
        where
          all : (j : ℕ) → j < n → (b : Bool) → names U.nodes (pos j) n ≡ b → children_held U j ≡ true
          all j h true e = q.parent j e
          all j h false e = other_children T H w room j h e

          last : node_refusal false U n ≡ step_refusal U n
          last = nothing_after _ _ (nothing_unless (children_held U n) _ _ (new_children T H w room k))

      beyond : Beyond U n → moved n (scan (node_refusal false U) (suc n)) ≡ (beyond_refusal U n otherwise step_refusal U n)
      beyond q =
          let r = q.p in
          let h : r < n = q.before in
          ap (moved n)
          (scan_found (node_refusal false U) (suc n) r (omega arith)
          (scan_nothing (node_refusal false U) r (λ j l. held j (omega arith) (other_children T H w room j (omega arith) (q.others j l))))
          (otherwise_nothing (step_refusal U r) _ (old_step T H w room r h) ∙ found_unless (children_held U r) _ _ q.beyond))
          ∙ moved_children n r
          ∙ sym (otherwise_found (beyond_refusal U n) _ q.found)

  -- 9 and 10 of the last row, then 11 to 17
  found_last : refusal held_mode U ≡ (set_refusal U n otherwise (parent_refusal U n otherwise scan (node_refusal false U) (suc n)))
  unfolding refusal held_mode enough_nodes ◌implies◌ whole_unless unless added holding
  found_last =
      otherwise_nothing _ _ (nothing_unless _ _ _ tables_hold_lem)
      ∙ otherwise_nothing _ _ (nothing_unless _ _ _ limits_kept)
      ∙ otherwise_nothing _ _ formulas_kept
      ∙ ap₂ (λ (x y : Finding). x otherwise y)
      (scan_last (set_refusal U) n (λ j h. (set_clears U j).1 (old_set T H w room j h)))
      (otherwise_nothing no_refusal _ refl
      ∙ ap (λ (x : Finding). x otherwise scan (node_refusal false U) (suc n)) (scan_last (parent_refusal U) n (λ j h. (parent_clears U j).1 (old_parent T H w room j h))))

  moved_both : (x : Finding) → moved n (set_refusal U n otherwise (parent_refusal U n otherwise x)) ≡ (set_refusal U n otherwise (parent_refusal U n otherwise moved n x))
  unfolding set_refusal parent_refusal placed
  moved_both x = moved_then n _ Set n _ _ refl (moved_then n _ Parent n _ _ refl refl)

  pub judged_last : moved n (refusal held_mode U) ≡ added_refusal U n
  unfolding added_refusal
  judged_last =
      ap (moved n) found_last
      ∙ moved_both (scan (node_refusal false U) (suc n))
      ∙ otherwise_same (set_refusal U n) _ _ (λ a. otherwise_same (parent_refusal U n) _ _ (λ b. node_found_lem ((parent_clears U n).0 b)))
