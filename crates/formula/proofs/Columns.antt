-- Where the columns of a row stand in its table.
use Prim.Native.Nat.{ℕ, zero, suc, ◌+◌, ◌-◌, ◌*◌, ◌<◌, ◌≤◌}
use native.Mathlib.Omega.{arith}
use native.Mathlib.Decide.{dec_lt}
use mathlib.Core.Path.{◌≡◌, refl, sym, ◌∙◌, ap, fun_ext}
use mathlib.Core.List.{List}
use lib.Dec.{ltb}
use lib.IntN.{ℤ, pos}
use lib.ListN.{length, get_or, take, drop, length-drop}
use lib.Seq.{take_all, get_or-drop}
use borrow.Author.Tests.{lt-ltb, le-ltb}
use Rattle.stab.specs.Formula.{Row, row_at, formula_rows}
use Rattle.stab.proofs.Bools.{if_true, if_false}
use Rattle.formula.specs.Column.{column}

pub column_at : (t : List ℤ) (r k : ℕ) → k < 4 → get_or t (4 * r + k) (pos 0) ≡ column (row_at t r) k
unfolding column row_at
column_at t r zero h = ap (λ (i : ℕ). get_or t i (pos 0)) (omega arith)
column_at t r (suc zero) h = refl
column_at t r (suc (suc zero)) h = refl
column_at t r (suc (suc (suc zero))) h = refl
column_at t r (suc (suc (suc (suc k)))) h = absurd (omega arith)

pub formula_rows_schema : (schema : List ℤ) (s : ℕ) (proof : List ℤ) (r : ℕ) → r < s → formula_rows schema s proof r ≡ row_at schema r
unfolding formula_rows
formula_rows_schema schema s proof r h = if_true (ltb r s) (row_at schema r) (row_at proof (r - s)) (lt-ltb r s h)

pub formula_rows_proof : (schema : List ℤ) (s : ℕ) (proof : List ℤ) (r : ℕ) → s ≤ r → formula_rows schema s proof r ≡ row_at proof (r - s)
unfolding formula_rows
formula_rows_proof schema s proof r h = if_false (ltb r s) (row_at schema r) (row_at proof (r - s)) (le-ltb r s h)

module _ (schema : List ℤ) (s : ℕ) (proof : List ℤ) (r k : ℕ) where
  pub schema_column : r < s → k < 4 → get_or schema (4 * r + k) (pos 0) ≡ column (formula_rows schema s proof r) k
  schema_column h p = column_at schema r k p ∙ ap (λ (w : Row). column w k) (sym (formula_rows_schema schema s proof r h))

  pub proof_column : s ≤ r → k < 4 → get_or proof (4 * (r - s) + k) (pos 0) ≡ column (formula_rows schema s proof r) k
  proof_column h p = column_at proof (r - s) k p ∙ ap (λ (w : Row). column w k) (sym (formula_rows_proof schema s proof r h))

-- ---- one table as a schema and the rest of it

-- the rest of a table after s rows, read from row s on
rest_at : (t : List ℤ) (s r k : ℕ) → s ≤ r → get_or (drop (4 * s) t) (4 * (r - s) + k) (pos 0) ≡ get_or t (4 * r + k) (pos 0)
rest_at t s r k h =
    let e : 4 * s + (4 * (r - s) + k) ≡ 4 * r + k = omega arith in
    get_or-drop (4 * s) t (4 * (r - s) + k) (pos 0) ∙ ap (λ (i : ℕ). get_or t i (pos 0)) e

rest_first : (t : List ℤ) (s r : ℕ) → s ≤ r → get_or (drop (4 * s) t) (4 * (r - s)) (pos 0) ≡ get_or t (4 * r) (pos 0)
rest_first t s r h =
    let e : 4 * s + 4 * (r - s) ≡ 4 * r = omega arith in
    get_or-drop (4 * s) t (4 * (r - s)) (pos 0) ∙ ap (λ (i : ℕ). get_or t i (pos 0)) e

rest_row : (t : List ℤ) (s r : ℕ) → s ≤ r → row_at (drop (4 * s) t) (r - s) ≡ row_at t r
unfolding row_at
rest_row t s r h =
    λ i. record { kind = rest_first t s r h i; a = rest_at t s r 1 h i; b = rest_at t s r 2 h i; c = rest_at t s r 3 h i }

-- the rows of a table, from its first s rows and the rest of it
pub formula_rows_rest : (t : List ℤ) (s : ℕ) → formula_rows t s (drop (4 * s) t) ≡ row_at t
formula_rows_rest t s = fun_ext (λ r. go r (dec_lt r s))
  where
    go : (r : ℕ) → Dec (r < s) → formula_rows t s (drop (4 * s) t) r ≡ row_at t r
    go r (yes h) = formula_rows_schema t s (drop (4 * s) t) r h
    go r (no h) = formula_rows_proof t s (drop (4 * s) t) r (omega arith) ∙ rest_row t s r (omega arith)

-- the same where the rest is a part of the slice
pub formula_rows_part : (t : List ℤ) (s : ℕ) → formula_rows t s (take (length t - 4 * s) (drop (4 * s) t)) ≡ row_at t
formula_rows_part t s = ap (formula_rows t s) (take_all (length t - 4 * s) (drop (4 * s) t) (omega (arith, length-drop (4 * s) t))) ∙ formula_rows_rest t s
