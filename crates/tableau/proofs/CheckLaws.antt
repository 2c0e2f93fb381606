-- Laws of the check's passes, one after the other.
use Prim.Native.Nat.{ℕ, ◌≤◌, ◌<◌}
use mathlib.Core.Path.{◌≡◌, sym, ◌∙◌, ap}
use mathlib.Core.Bool.{Bool, true, false}
use lib.Dec.{leb}
use lib.IntN.{pos}
use borrow.Author.Tests.{leb-true}
use Rattle.stab.specs.Basic.{within, below, ◌otherwise◌, scan}
use Rattle.stab.specs.Node.{Tableau, row_count, set_fits, parent_fits}
use Rattle.stab.specs.Check.{whole_unless, at_unless, root_fits, formulas_refusal, set_refusal, parent_refusal, node_refusal, tables_hold, within_limits, enough_nodes, refusal}
use Rattle.stab.specs.declared.Mode.{Mode}
use Rattle.std.specs.Prelude.{None}
use Rattle.stab.specs.Finding.{no_refusal, refuse, Finding}
use Rattle.stab.specs.declared.Refusal.{Refusal}
use Rattle.stab.specs.declared.Refusal.TheVariants.{TableTooShort, TooMany, Parent}
use Rattle.stab.proofs.Bools.{and_left, and_right, found_unless, nothing_unless, unless_nothing, otherwise_found, otherwise_first, otherwise_second}
use Rattle.stab.proofs.Scans.{nothing_scan}
use Rattle.stab.proofs.Findings.{otherwise_assoc}
use Rattle.tableau.specs.Passes.{rows_refusal, nodes_refusal, passes_refusal, later_refusal}

-- ---- findings

pub whole_found : (t : Bool) (why : Refusal) (rest : Finding) → t ≡ false → (refuse why None) ≡ (whole_unless t why otherwise rest)
unfolding whole_unless
whole_found t why rest h = sym (otherwise_found (whole_unless t why) rest (found_unless t _ _ h))

pub whole_passes : (t : Bool) (why : Refusal) → t ≡ true → whole_unless t why ≡ no_refusal
unfolding whole_unless
whole_passes t why h = nothing_unless t _ _ h

-- ---- what the passes leave where they find nothing

module _ (T : Tableau) where
  pub least_fits : (older : Bool) → rows_refusal older T ≡ no_refusal → within (pos 0) (pos 9999) T.least ≡ true
  unfolding rows_refusal formulas_refusal root_fits whole_unless
  least_fits older h =
      and_right (below T.schema_rows T.root) _ (unless_nothing (root_fits T.schema_rows T.root T.least) _ _ (otherwise_first _ _ h))

  module _ (whole : Bool) where
    pub nodes_sets : nodes_refusal whole T ≡ no_refusal → scan (set_refusal T) T.node_rows ≡ no_refusal
    unfolding nodes_refusal
    nodes_sets h = otherwise_first _ _ h

    pub nodes_parents : nodes_refusal whole T ≡ no_refusal → scan (parent_refusal T) T.node_rows ≡ no_refusal
    unfolding nodes_refusal
    nodes_parents h =
        otherwise_second (whole_unless (enough_nodes whole T) Parent) _ (otherwise_second (scan (set_refusal T) T.node_rows) _ h)

    pub set_fits_lem : nodes_refusal whole T ≡ no_refusal → (j : ℕ) → j < T.node_rows → set_fits T j ≡ true
    unfolding set_refusal at_unless
    set_fits_lem h j l = and_left _ _ (unless_nothing _ _ _ (nothing_scan (set_refusal T) T.node_rows (nodes_sets h) j l))

    pub parent_fits_lem : nodes_refusal whole T ≡ no_refusal → (j : ℕ) → j < T.node_rows → parent_fits T j ≡ true
    unfolding parent_refusal at_unless
    parent_fits_lem h j l = unless_nothing _ _ _ (nothing_scan (parent_refusal T) T.node_rows (nodes_parents h) j l)

  -- the refusal by its groups
  pub refusal_is : (m : Mode) → refusal m T ≡ (whole_unless (tables_hold T) TableTooShort otherwise (whole_unless (within_limits T) TooMany otherwise later_refusal m T))
  unfolding refusal later_refusal passes_refusal rows_refusal nodes_refusal
  refusal_is m =
      let R = rows_refusal m.older T in
      let A = scan (set_refusal T) T.node_rows in
      let B = whole_unless (enough_nodes m.whole T) Parent in
      let C = scan (parent_refusal T) T.node_rows in
      let D = scan (node_refusal m.whole T) T.node_rows in
      ap (λ (x : Finding). whole_unless (tables_hold T) TableTooShort otherwise (whole_unless (within_limits T) TooMany otherwise x))
      (sym
      (otherwise_assoc R (A otherwise (B otherwise C)) D
      ∙ ap (λ (x : Finding). R otherwise x) (otherwise_assoc A (B otherwise C) D ∙ ap (λ (x : Finding). A otherwise x) (otherwise_assoc B C D))))

  -- a record in which nothing is found has at most 1,024 nodes
  pub few_nodes_lem : (m : Mode) → refusal m T ≡ no_refusal → T.node_rows ≤ 1024
  unfolding whole_unless within_limits
  few_nodes_lem m h =
      let limits = unless_nothing (within_limits T) TooMany None (otherwise_first _ _ (otherwise_second _ _ (sym (refusal_is m) ∙ h))) in
      leb-true T.node_rows 1024 (and_left _ _ (and_right (leb (row_count T) 1024) _ limits))
