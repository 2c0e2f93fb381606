-- Rows that stand in front of a lent table, and one put after them.
use Prim.Native.Nat.{ℕ, ◌+◌, ◌*◌, ◌<◌, ◌≤◌}
use native.Mathlib.Omega.{arith}
use native.Mathlib.Numerals.{add-one, add-two, add-three}
use mathlib.Core.Path.{◌≡◌, sym, ◌∙◌, ap}
use mathlib.Core.Logic.{⊎_elim}
use mathlib.Core.List.{List, ◌++◌, append_assoc}
use lib.IntN.{ℤ, pos}
use lib.ListN.{length, take, drop, set, length-append}
use lib.Seq.{get_or-take, take_at, length-take-le, sets, sets-eq}
use Rattle.stab.specs.Formula.{Row, row_at, formula_rows}
use Rattle.tidied.specs.Tidied.{columns}
use Rattle.tidied.proofs.Foldings.{formula_rows_below, formula_rows_above, row_at_next, columns_length, schema_or_proof}

row_at_take : (t : List ℤ) (n r : ℕ) → 4 * r + 3 < n → row_at (take n t) r ≡ row_at t r
unfolding row_at
row_at_take t n r h i = record {
  kind = get_or-take n t (4 * r) (pos 0) (omega arith) i;
  a = get_or-take n t (4 * r + 1) (pos 0) (omega arith) i;
  b = get_or-take n t (4 * r + 2) (pos 0) (omega arith) i;
  c = get_or-take n t (4 * r + 3) (pos 0) (omega arith) i;
}

-- ---- numbers stored one after another from n on

module _ (t vs : List ℤ) (n : ℕ) (fits : n + length vs ≤ length t) where
  length_n : length (take n t) ≡ n
  length_n = length-take-le n t (omega arith)

  -- what stands before them is as it was
  pub sets_front : take n (sets t n vs) ≡ take n t
  sets_front =
      ap (take n) (sets-eq vs t n fits ∙ append_assoc (take n t) vs (drop (n + length vs) t)) ∙ take_at (take n t) _ n length_n

  pub sets_more : take (n + length vs) (sets t n vs) ≡ take n t ++ vs
  sets_more =
      ap (take (n + length vs)) (sets-eq vs t n fits)
      ∙ take_at (take n t ++ vs) _ (n + length vs) (omega (arith, length-append (take n t) vs, length_n))

-- ---- rows

-- four stores
pub put_columns : (t : List ℤ) (n : ℕ) (w : Row) {k a b c : ℤ} → k ≡ w.kind → a ≡ w.a → b ≡ w.b → c ≡ w.c → set (set (set (set t n k) (n + 1) a) (n + 2) b) (n + 3) c ≡ sets t n (columns w)
unfolding columns
put_columns t n w p q r s i = set (set (set (set t n (p i)) (add-one n i) (q i)) (add-two n i) (r i)) (add-three n i) (s i)

module _ (schema : List ℤ) (s : ℕ) (t front : List ℤ) (n : ℕ) (held : take (4 * n) t ≡ front) where
  -- the rows in front are those of the table
  pub formula_rows_front : (q : ℕ) → q < s + n → formula_rows schema s t q ≡ formula_rows schema s front q
  formula_rows_front q h =
      ⊎_elim
      (λ l. formula_rows_below schema s t q l ∙ sym (formula_rows_below schema s front q l))
      (λ m.
      let k = m.0 in
      ap (formula_rows schema s t) m.1
      ∙ formula_rows_above schema s t k
      ∙ sym (row_at_take t (4 * n) k (omega (arith, m.1)))
      ∙ ap (λ (u : List ℤ). row_at u k) held
      ∙ sym (formula_rows_above schema s front k)
      ∙ ap (formula_rows schema s front) (sym m.1))
      (schema_or_proof s q)

module _ (schema : List ℤ) (s : ℕ) (t front : List ℤ) (n : ℕ) (held : take (4 * n) t ≡ front) (w : Row) (room : 4 * n + 3 < length t) where
  front_length : length front ≡ 4 * n
  front_length = ap length (sym held) ∙ length-take-le (4 * n) t (omega arith)

  fits : 4 * n + length (columns w) ≤ length t
  fits = omega (arith, columns_length w)

  pub put_front : take (4 * n) (sets t (4 * n) (columns w)) ≡ front
  put_front = sets_front t (columns w) (4 * n) fits ∙ held

  pub put_more : take (4 * (n + 1)) (sets t (4 * n) (columns w)) ≡ front ++ columns w
  put_more =
      ap (λ (m : ℕ). take m (sets t (4 * n) (columns w))) next
      ∙ sets_more t (columns w) (4 * n) fits
      ∙ ap (λ (l : List ℤ). l ++ columns w) held
    where
      next : 4 * (n + 1) ≡ 4 * n + length (columns w)
      next = omega (arith, columns_length w)

  -- the row that was put
  pub put_row_lem : formula_rows schema s (sets t (4 * n) (columns w)) (s + n) ≡ w
  put_row_lem =
      formula_rows_above schema s (sets t (4 * n) (columns w)) n
      ∙ sym (row_at_take (sets t (4 * n) (columns w)) (4 * (n + 1)) n (omega arith))
      ∙ ap (λ (u : List ℤ). row_at u n) put_more
      ∙ row_at_next front n w front_length
