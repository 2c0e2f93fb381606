-- Rows put one after another into a table.
use Prim.Native.Nat.{ℕ, zero, suc, ◌+◌, ◌*◌, ◌<◌, ◌≤◌}
use native.Mathlib.Omega.{arith}
use native.Mathlib.Nat.{add-zero}
use native.Mathlib.Numerals.{add-one}
use mathlib.Core.Path.{◌≡◌, refl, sym, ◌∙◌, ap, ap₂}
use mathlib.Core.List.{List, [], ◌++◌, append_assoc, append-nil}
use mathlib.Core.Option.{Option, none, some}
use lib.IntN.{ℤ, pos}
use lib.ListN.{length, take, length-append}
use lib.Seq.{sets, length-sets, take_at}
use Rattle.stab.specs.Formula.{Row, row_at, formula_rows}
use Rattle.stab.specs.Text.{padded}
use Rattle.signed.specs.Numbers.{cleared}
use Rattle.signed.proofs.Tables.{cleared_padded}
use Rattle.tidied.specs.Tidied.{renumbered, columns, Folding, folded_into, fold_row, fold_next, folding}
use Rattle.tidied.proofs.Foldings.{formula_rows_above, columns_length}
use Rattle.folds.proofs.Fronts.{sets_more, put_more, formula_rows_front}
use Rattle.joint.specs.Joint.{moved_rows}

-- ---- n rows from row `at` on

pub rows_none : (t rows : List ℤ) (at : ℕ) (new : ℕ → ℕ) → take (4 * (at + 0)) t ≡ take (4 * at) t ++ moved_rows new rows 0
unfolding moved_rows
rows_none t rows at new = ap (λ (m : ℕ). take (4 * m) t) (add-zero at) ∙ sym (append-nil (take (4 * at) t))

pub rows_more : (t t' rows front : List ℤ) (at k : ℕ) (new : ℕ → ℕ) → take (4 * (at + k)) t ≡ front ++ moved_rows new rows k → 4 * (at + k) + 3 < length t → t' ≡ sets t (4 * (at + k)) (columns (renumbered new (row_at rows k))) → take (4 * (at + (k + 1))) t' ≡ front ++ moved_rows new rows (k + 1)
unfolding moved_rows
rows_more t t' rows front at k new held room e =
    let w : Row = renumbered new (row_at rows k) in
    let n : at + (k + 1) ≡ at + k + 1 = omega arith in
    ap (take (4 * (at + (k + 1)))) e
    ∙ ap (λ (m : ℕ). take (4 * m) (sets t (4 * (at + k)) (columns w))) n
    ∙ put_more [] 0 t (front ++ moved_rows new rows k) (at + k) held w room
    ∙ append_assoc front (moved_rows new rows k) (columns w)
    ∙ ap (λ (m : ℕ). front ++ moved_rows new rows m) (sym (add-one k))

-- two blocks of rows from the front on
pub two_blocks : (t t₁ t₂ X Y : List ℤ) (n m : ℕ) → take (4 * (0 + n)) t₁ ≡ take (4 * 0) t ++ X → take (4 * (n + m)) t₂ ≡ take (4 * n) t₁ ++ Y → take (4 * (n + m)) t₂ ≡ X ++ Y
two_blocks t t₁ t₂ X Y n m a b =
    let e : n ≡ 0 + n = omega arith in
    b ∙ ap (λ (l : List ℤ). l ++ Y) (ap (λ (k : ℕ). take (4 * k) t₁) e ∙ a)

-- a row after them, and 0 from there on
pub row_last : (t₂ t₃ t₄ Z row : List ℤ) (n k : ℕ) → take n t₂ ≡ Z → t₃ ≡ sets t₂ n row → length row ≡ 4 → n + 4 ≤ length t₂ → length t₂ ≡ k → t₄ ≡ cleared t₃ (n + 4) → t₄ ≡ padded (pos 0) k (Z ++ row)
row_last t₂ t₃ t₄ Z row n k a b l h g c =
    let e : length t₃ ≡ k = ap length b ∙ length-sets t₂ n row ∙ g in
    let m : n + 4 ≡ n + length row = omega arith in
    c
    ∙ cleared_padded t₃ (n + 4) k (omega arith) e
    ∙ ap (padded (pos 0) k) (ap₂ take m b ∙ sets_more t₂ row n (omega arith) ∙ ap (λ (z : List ℤ). z ++ row) a)

-- the rows in front of a table
pub row_at_front : (t front : List ℤ) (n : ℕ) → take (4 * n) t ≡ front → (k : ℕ) → k < n → row_at t k ≡ row_at front k
row_at_front t front n held k h =
    let e : k ≡ 0 + k = omega arith in
    sym (ap (formula_rows [] 0 t) e ∙ formula_rows_above [] 0 t k)
    ∙ formula_rows_front [] 0 t front n held k (omega arith)
    ∙ ap (formula_rows [] 0 front) e
    ∙ formula_rows_above [] 0 front k

-- ---- no more rows stay than there are

few_into : (s n : ℕ) (F : Folding) (w : Row) (x : Option ℕ) → F.count ≤ n → (folded_into s F w x).count ≤ suc n
unfolding folded_into
few_into s n F w none h = omega arith
few_into s n F w (some q) h = omega arith

pub few_stay : (schema : List ℤ) (s : ℕ) (proof : List ℤ) (n : ℕ) → (folding schema s proof n).count ≤ n
unfolding folding fold_next fold_row
few_stay schema s proof zero = omega arith
few_stay schema s proof (suc n) = few_into s n (folding schema s proof n) _ _ (few_stay schema s proof n)

-- the rows that stay, in a table that is 0 past them
pub front_padded : (t out out₁ out₂ X : List ℤ) (n k : ℕ) → t ≡ padded (pos 0) k X → length X ≡ n → n ≤ length out → out₁ ≡ sets out 0 (take n t) → out₂ ≡ cleared out₁ n → out₂ ≡ padded (pos 0) (length out) X
unfolding padded
front_padded t out out₁ out₂ X n k e l h a b =
    let f : take n t ≡ X = ap (take n) e ∙ take_at X _ n l in
    let g : length out₁ ≡ length out = ap length a ∙ length-sets out 0 (take n t) in
    let z : n ≡ 0 + length X = omega arith in
    b
    ∙ cleared_padded out₁ n (length out) (omega arith) g
    ∙ ap (padded (pos 0) (length out)) (ap₂ take z (a ∙ ap (sets out 0) f) ∙ sets_more out X 0 (omega arith))

-- the table has four numbers a row
held_into : (s : ℕ) (F : Folding) (w : Row) (x : Option ℕ) → length F.table ≡ 4 * F.count → length (folded_into s F w x).table ≡ 4 * (folded_into s F w x).count
unfolding folded_into
held_into s F w none h = omega (arith, length-append F.table (columns w), columns_length w)
held_into s F w (some q) h = h

pub held_stay : (schema : List ℤ) (s : ℕ) (proof : List ℤ) (n : ℕ) → length (folding schema s proof n).table ≡ 4 * (folding schema s proof n).count
unfolding folding fold_next fold_row
held_stay schema s proof zero = refl
held_stay schema s proof (suc n) = held_into s (folding schema s proof n) _ _ (held_stay schema s proof n)
