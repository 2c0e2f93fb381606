-- The formula rows are passed exactly if they keep the rules: the part that the check and the model check share.
use Prim.Native.Nat.{ℕ, zero, suc, ◌<◌, ◌≤◌}
use native.Mathlib.Omega.{arith}
use mathlib.Core.Path.{◌≡◌, sym, ◌∙◌, ap}
use mathlib.Core.Logic.Iff
use mathlib.Core.Logic.{◌≢◌, inl, inr, ⊎_elim}
use mathlib.Core.Bool.{true, false, true≢false, false≢true}
use borrow.Author.Tests.{ltb-true, ltb-false}
use lib.Dec.{ltb}
use lib.IntN.{ℤ, pos}
use Rattle.stab.specs.Basic.{nat}
use Rattle.stab.specs.Formula.{Row, tree, size, depth, small_enough}
use Rattle.stab.specs.Node.{Tableau, row_count}
use Rattle.stab.specs.Node.{rows as rows_of}
use Rattle.stab.specs.Check.{row_refusal, stands_before, repeat_refusal, formula_refusal, root_fits, formulas_refusal}
use Rattle.stab.specs.Keeps.{KeepsRow, KeepsFormulas, Fresh}
use Rattle.stab.specs.declared.Refusal.TheVariants.{Root, IllFormed, TooLarge, Repeated}
use Rattle.stab.proofs.Bools.{decide}
use Rattle.stab.proofs.Scans.{below_suc}
use Rattle.stab.proofs.Formed.{formed_tests, outer_tests}
use Rattle.stab.proofs.Tests.{◌tests◌, ◌&◌, or_tests, not_tests, le_tests, lt_tests, below_tests, within_tests, same_row_tests, ◌clears◌, whole_clears, at_clears, ◌then◌, scan_clears}

row_clears : (rows : ℕ → Row) (r : ℕ) → row_refusal rows r clears KeepsRow rows r
unfolding row_refusal small_enough
row_clears rows r =
    Iff.trans
    (at_clears IllFormed r (formed_tests rows r) then
    at_clears TooLarge r (le_tests (size (tree rows r)) 4096 & le_tests (depth (tree rows r)) 64))
    (λ p. record { formed = p.0; small = p.1.0; flat = p.1.1 }, λ k. (k.formed, (k.small, k.flat)))

pub formulas_clears : (rows : ℕ → Row) (n s : ℕ) (root least : ℤ) → formulas_refusal true rows n s root least clears KeepsFormulas rows n s root least
unfolding formulas_refusal formula_refusal root_fits
formulas_clears rows n s root least =
    Iff.trans
    (whole_clears Root (below_tests s root & within_tests (pos 0) (pos 9999) least) then
    scan_clears (formula_refusal true rows s) n (λ r l. row_clears rows r) then
    whole_clears Root (outer_tests (tree rows (nat root))))
    (λ p. record { root_row = p.0.0; least_range = p.0.1; each = p.1.0; root_outer = p.1.1 }, λ k. ((k.root_row, k.least_range), (k.each, k.root_outer)))

-- ---- 02, No. 9

-- a row stands before exactly if it is one of the rows before
stands_tests : (rows : ℕ → Row) (r : ℕ) (w : Row) → stands_before rows r w tests ((q : ℕ) × (q < r) × (rows q ≡ w))
unfolding stands_before
stands_tests rows zero w = (λ h. absurd (false≢true h), λ p. absurd (omega (arith, p.1)))
stands_tests rows (suc r) w =
    Iff.trans (or_tests (stands_tests rows r w) (same_row_tests (rows r) w)) (
      ⊎_elim (λ p. (p.0, omega (arith, p.1), p.2)) (λ e. (r, omega arith, e)),
      λ p.
          ⊎_elim
          (λ l. inl (p.0, l, p.2))
          (λ e. inr (ap rows (sym e) ∙ p.2))
          (below_suc p.0 r p.1),
    )

-- row r is no proof row, or stands nowhere before
repeat_clears : (rows : ℕ → Row) (s r : ℕ) → repeat_refusal rows s r clears (s ≤ r → (q : ℕ) → q < r → rows q ≢ rows r)
unfolding repeat_refusal
repeat_clears rows s r =
    at_clears Repeated r
    (Iff.trans
    (or_tests (lt_tests r s) (not_tests (stands_before rows r (rows r)))) (
      ⊎_elim
          (λ l m q p e. omega arith)
          (λ f m q p e. true≢false (sym ((stands_tests rows r (rows r)).1 (q, p, e)) ∙ f)),
      λ g.
          ⊎_elim
          (λ l. inl (ltb-true r s l))
          (λ l.
          inr
          (⊎_elim
          (λ t. let w = (stands_tests rows r (rows r)).0 t in absurd (g (ltb-false r s l) w.0 w.1 w.2))
          (λ f. f)
          (decide (stands_before rows r (rows r)))))
          (decide (ltb r s)),
    ))

pub present_clears : (T : Tableau) → formulas_refusal false (rows_of T) (row_count T) T.schema_rows T.root T.least clears (KeepsFormulas (rows_of T) (row_count T) T.schema_rows T.root T.least × Fresh T)
unfolding formulas_refusal formula_refusal root_fits
present_clears T =
    Iff.trans
    (whole_clears Root (below_tests T.schema_rows T.root & within_tests (pos 0) (pos 9999) T.least) then
    scan_clears (formula_refusal false (rows_of T) T.schema_rows) (row_count T) (λ r l. row_clears (rows_of T) r then repeat_clears (rows_of T) T.schema_rows r) then
    whole_clears Root (outer_tests (tree (rows_of T) (nat T.root)))) (
      λ p. (
        record { root_row = p.0.0; least_range = p.0.1; each = λ r l. (p.1.0 r l).0; root_outer = p.1.1 },
        λ r q m l d. (p.1.0 r l).1 m q d,
      ),
      λ k. (
        (k.0.root_row, k.0.least_range),
        (λ r l. (k.0.each r l, λ m q d. k.1 r q m l d), k.0.root_outer),
      ),
    )
