-- A table of such rows is on the list exactly if its formulas pass.
use Prim.Native.Nat.{ℕ, zero, suc, ◌+◌, ◌-◌, ◌<◌, ◌≤◌}
use native.Mathlib.Omega.{arith}
use mathlib.Core.Path.{◌≡◌, refl, sym, ◌∙◌}
use mathlib.Core.Logic.{⊎_elim}
use mathlib.Core.Bool.{Bool, true, false}
use mathlib.Core.List.{List, Memᴰ}
use lib.IntN.{ℤ, pos}
use borrow.Author.Tests.{le-leb}
use Rattle.stab.specs.Basic.{◌and◌, eq_z, within, nat, below, scan, unless, all_of}
use Rattle.stab.specs.Formula.{Row, row_at, Kind, constant, literal, junction, iteration, unknown, kind_of, Formula, part_if, part, decode, tree_n, tree, size, depth, is_outer, well_formed, small_enough}
use Rattle.stab.specs.Check.{at_unless, whole_unless, row_refusal, root_fits, formula_refusal, formulas_refusal, schema_refusal}
use Rattle.stab.specs.Lent.{lent_schema, schema_header}
use Rattle.stab.specs.Finding.{refuse, no_refusal, Place, Finding}
use Rattle.stab.specs.declared.Refusal.{Refusal}
use Rattle.stab.proofs.Bools.{decide, and_left, and_both, nothing_unless, unless_nothing, otherwise_nothing, otherwise_first, otherwise_second, found≢nothing}
use Rattle.stab.proofs.Scans.{scan_nothing, nothing_scan, all_use}
use Rattle.stab.proofs.Trees.{below_of}
use Rattle.small.specs.Small.{small_as, is_small, all_small, on_list, over_each, row_of, literal_rows, junction_rows, iteration_rows, rows_for}
use Rattle.small.specs.Fits.{columns, RowsFit}
use Rattle.small.proofs.Listed.{small_use, listed_small, listed_outer}

-- ---- three rows are small enough

-- size and depth are at most these
abbrev Most : ℕ → ℕ → Formula → Type 0
Most s d f = (size f ≤ s) × (depth f ≤ d)

module _ (s d : ℕ) (hs : 1 ≤ s) (hd : 1 ≤ d) where
  part_most : (b : Bool) (t : ℕ → Formula) (a : ℕ) → ((k : ℕ) → Most s d (t k)) → Most s d (part_if b t a)
  unfolding part_if size depth
  part_most true t a f = f a
  part_most false t a f = (hs, hd)

  decode_most : (r : ℕ) (w : Row) (k : Kind) (t : ℕ → Formula) → ((j : ℕ) → Most s d (t j)) → Most (1 + s + s) (1 + d) (decode r w k t)
  unfolding decode part size depth
  decode_most r w (constant v) t f = (omega arith, omega arith)
  decode_most r w (literal v) t f = (omega arith, omega arith)
  decode_most r w (junction o) t f =
      let x = part_most (below r w.a) t (nat w.a) f in
      let y = part_most (below r w.b) t (nat w.b) f in
      (omega arith, omega arith)
  decode_most r w (iteration o) t f = let x = part_most (below r w.a) t (nat w.a) f in (omega arith, omega arith)
  decode_most r w unknown t f = (omega arith, omega arith)

module _ (rows : ℕ → Row) where
  most_0 : (r : ℕ) → Most 1 1 (tree_n rows 0 r)
  unfolding tree_n size depth
  most_0 r = (omega arith, omega arith)

  most_1 : (r : ℕ) → Most 3 2 (tree_n rows 1 r)
  unfolding tree_n
  most_1 r = decode_most 1 1 (omega arith) (omega arith) r (rows r) (kind_of (rows r).kind) (tree_n rows 0) most_0

  most_2 : (r : ℕ) → Most 7 3 (tree_n rows 2 r)
  unfolding tree_n
  most_2 r = decode_most 3 2 (omega arith) (omega arith) r (rows r) (kind_of (rows r).kind) (tree_n rows 1) most_1

  most_3 : (r : ℕ) → Most 15 4 (tree_n rows 3 r)
  unfolding tree_n
  most_3 r = decode_most 7 3 (omega arith) (omega arith) r (rows r) (kind_of (rows r).kind) (tree_n rows 2) most_2

  row_most : (r : ℕ) → r < 3 → Most 15 4 (tree rows r)
  unfolding tree
  row_most zero l = let m = most_1 0 in (omega arith, omega arith)
  row_most (suc zero) l = let m = most_2 1 in (omega arith, omega arith)
  row_most (suc (suc zero)) l = most_3 2
  row_most (suc (suc (suc r))) l = absurd (omega arith)

  few_small : (r : ℕ) → r < 3 → small_enough rows r ≡ true
  unfolding small_enough
  few_small r l =
      let m = row_most r l in
      and_both _ _ (le-leb (size (tree rows r)) 4096 (omega arith)) (le-leb (depth (tree rows r)) 64 (omega arith))

-- ---- each row that can be is small

small_row : List ℤ → Bool
small_row w = small_as (row_at w 0) (kind_of (row_at w 0).kind)

rows_small : (r : ℕ) → r < 3 → all_of small_row (rows_for r) ≡ true
unfolding small_row all_of small_as row_at kind_of eq_z ◌and◌ within over_each row_of literal_rows junction_rows iteration_rows rows_for
rows_small zero l = refl
rows_small (suc zero) l = refl
rows_small (suc (suc zero)) l = refl
rows_small (suc (suc (suc r))) l = absurd (omega arith)

fitting_small : (w : Row) (r : ℕ) → r < 3 → Memᴰ (columns w) (rows_for r) → small_as w (kind_of w.kind) ≡ true
unfolding small_row row_at
fitting_small w r l m = all_use small_row (columns w) (rows_for r) (rows_small r l) m

-- ---- the formulas pass

least_fits : within (pos 0) (pos 9999) (pos 0) ≡ true
unfolding within ◌and◌
least_fits = refl

module _ (n : ℕ) (t : List ℤ) (a : 1 ≤ n) (b : n ≤ 3) where
  abbrev pub passes : Finding
  passes = schema_refusal (lent_schema t (schema_header n (pos (n - 1)) (pos 0)))

  root_fits_lem : root_fits n (pos (n - 1)) (pos 0) ≡ true
  unfolding root_fits
  root_fits_lem = and_both _ _ (below_of n (n - 1) (omega arith)) least_fits

  small_rows : (m : ℕ) → ((r : ℕ) → r < m → is_small (row_at t) r ≡ true) → all_small (row_at t) m ≡ true
  unfolding all_small
  small_rows zero f = refl
  small_rows (suc m) f = and_both _ _ (small_rows m (λ r l. f r (omega arith))) (f m (omega arith))

  pub passes_listed : RowsFit n t → passes ≡ no_refusal → on_list n t ≡ true
  unfolding schema_refusal formulas_refusal formula_refusal whole_unless row_refusal at_unless is_small on_list nat
  passes_listed f h =
      let rest = otherwise_second (unless (root_fits n (pos (n - 1)) (pos 0)) _ _) _ h in
      let rows = nothing_scan (row_refusal (row_at t)) n (otherwise_first _ _ rest) in
      let outer = unless_nothing (is_outer (tree (row_at t) (n - 1))) _ _ (otherwise_second (scan (row_refusal (row_at t)) n) _ rest) in
      and_both _ _ (le-leb 1 n a)
      (and_both _ _ (le-leb n 3 b)
      (and_both _ _
      (small_rows n (λ r l.
      and_both (well_formed (row_at t) r) _ (unless_nothing (well_formed (row_at t) r) _ _ (otherwise_first _ _ (rows r l))) (fitting_small (row_at t r) r (omega arith) (f r l))))
      outer))

  pub listed_passes : on_list n t ≡ true → passes ≡ no_refusal
  unfolding schema_refusal formulas_refusal formula_refusal whole_unless row_refusal at_unless is_small nat
  listed_passes h =
      otherwise_nothing _ _ (nothing_unless (root_fits n (pos (n - 1)) (pos 0)) _ _ root_fits_lem)
      ∙ otherwise_nothing _ _
      (scan_nothing (row_refusal (row_at t)) n (λ r l.
      otherwise_nothing _ _ (nothing_unless (well_formed (row_at t) r) _ _ (and_left (well_formed (row_at t) r) _ (small_use (row_at t) n r (listed_small n t h) l)))
      ∙ nothing_unless (small_enough (row_at t) r) _ _ (few_small (row_at t) r (omega arith))))
      ∙ nothing_unless (is_outer (tree (row_at t) (n - 1))) _ _ (listed_outer n t h)

  pub fails_unlisted : (why : Refusal) (p : Place) → passes ≡ refuse why p → on_list n t ≡ false
  fails_unlisted why p h = ⊎_elim (λ e. absurd (found≢nothing (sym h ∙ listed_passes e))) (λ e. e) (decide (on_list n t))
