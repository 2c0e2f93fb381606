-- Rows as the numbers of a table, and tables that agree on them.
use Prim.Native.Nat.{ℕ, zero, suc, ◌+◌, ◌*◌, ◌<◌, ◌≤◌}
use native.Mathlib.Omega.{arith}
use mathlib.Core.Path.{◌≡◌, refl, ◌∙◌, ap}
use mathlib.Core.List.{List, [], ◌∷◌, ◌++◌}
use lib.Dec.{leb}
use lib.IntN.{ℤ, pos}
use lib.ListN.{length, get_or, get_or-append}
use Rattle.stab.specs.Basic.{◌and◌}
use Rattle.stab.specs.Formula.{Row, row_at, Formula, size, depth, small_enough}
use Rattle.stab.specs.Text.{padded}
use Rattle.stab.proofs.Trees.{tree_agrees}
use Rattle.wide.specs.Plain.{columns}

-- ---- rows as numbers

pub row_is : {v w : Row} → v.kind ≡ w.kind → v.a ≡ w.a → v.b ≡ w.b → v.c ≡ w.c → v ≡ w
row_is p q r s i = record { kind = p i; a = q i; b = r i; c = s i }

-- what is read past the last row
abbrev pub blank : Row
blank = record { kind = pos 0; a = pos 0; b = pos 0; c = pos 0 }

pub columns_length : (ws : List Row) → length (columns ws) ≡ 4 * length ws
unfolding columns
columns_length [] = refl
columns_length (w ∷ ws) = omega (arith, columns_length ws)

pub columns_append : (vs ws : List Row) → columns (vs ++ ws) ≡ columns vs ++ columns ws
unfolding columns
columns_append [] ws = refl
columns_append (v ∷ vs) ws = ap (λ (l : List ℤ). v.kind ∷ v.a ∷ v.b ∷ v.c ∷ l) (columns_append vs ws)

-- row k of the table is row k of the list, also past the last
pub columns_row : (ws : List Row) (k : ℕ) → row_at (columns ws) k ≡ get_or ws k blank
unfolding columns row_at
columns_row [] k = refl
columns_row (w ∷ ws) zero = refl
columns_row (w ∷ ws) (suc k) =
    row_is (past (4 * suc k) (4 * k) (omega arith)) (past (4 * suc k + 1) (4 * k + 1) (omega arith)) (past (4 * suc k + 2) (4 * k + 2) (omega arith)) (past (4 * suc k + 3) (4 * k + 3) (omega arith))
    ∙ columns_row ws k
  where
    past : (i j : ℕ) → i ≡ suc (suc (suc (suc j))) → get_or (w.kind ∷ w.a ∷ w.b ∷ w.c ∷ columns ws) i (pos 0) ≡ get_or (columns ws) j (pos 0)
    past i j e = ap (λ (m : ℕ). get_or (w.kind ∷ w.a ∷ w.b ∷ w.c ∷ columns ws) m (pos 0)) e

-- what stands behind a row does not change it
pub row_append : (t u : List ℤ) (k : ℕ) → 4 * suc k ≤ length t → row_at (t ++ u) k ≡ row_at t k
unfolding row_at
row_append t u k h = row_is (same (4 * k) (omega arith)) (same (4 * k + 1) (omega arith)) (same (4 * k + 2) (omega arith)) (same (4 * k + 3) (omega arith))
  where
    same : (i : ℕ) → i < length t → get_or (t ++ u) i (pos 0) ≡ get_or t i (pos 0)
    same i l = get_or-append t u (pos 0) i l

pub row_padded : (m : ℕ) (t : List ℤ) (k : ℕ) → 4 * suc k ≤ length t → row_at (padded (pos 0) m t) k ≡ row_at t k
unfolding padded
row_padded m t k h = row_append t _ k h

-- two tables that agree up to row r agree on whether it is small enough
pub small_agrees : (rows rows' : ℕ → Row) (r : ℕ) → ((a : ℕ) → a ≤ r → rows a ≡ rows' a) → small_enough rows r ≡ small_enough rows' r
unfolding small_enough
small_agrees rows rows' r h = ap (λ (f : Formula). leb (size f) 4096 and leb (depth f) 64) (tree_agrees rows rows' r h)
