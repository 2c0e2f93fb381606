-- Rows of a table as lines, one more at a time.
use Prim.Native.Nat.{ℕ, zero, suc, ◌+◌, ◌-◌, ◌*◌, ◌≤◌}
use native.Mathlib.Omega.{arith}
use native.Mathlib.Nat.{mul-zero}
use mathlib.Core.Path.{◌≡◌, sym, ◌∙◌, ap, ap₂, subst}
use mathlib.Core.Bool.{Bool, true}
use mathlib.Core.List.{List, ◌++◌, append-nil}
use lib.IntN.{ℤ}
use lib.ListN.{length, take, drop, length-append, length-drop}
use lib.Seq.{take-add, length-take-le}
use Rattle.stab.specs.Basic.{all_of}
use Rattle.stab.specs.Text.{five_digits, row_line}
use Rattle.stab.specs.Write.{row_lines}
use Rattle.stab.proofs.RowLines.{rows_split}
use Rattle.stab.proofs.Texts.Rows.{all_front, all_back, take_row}
use Rattle.digits.specs.Over.{spread}
use Rattle.output.specs.Headed.{Writable}
use Rattle.output.proofs.Chunks.{NextRow}
use Rattle.output.proofs.Spreads.{spread_append, row_length}

-- every number of a part of a table
pub all_within : {A : Type 0} (p : A → Bool) (a b m : ℕ) (t : List A) → a + b ≤ m → all_of p (take m t) ≡ true → all_of p (take b (drop a t)) ≡ true
all_within {A} p a b m t h e =
    all_front p (take b (drop a t)) (take (m - (a + b)) (drop b (drop a t)))
    (all_back p (take a t) (take b (drop a t) ++ take (m - (a + b)) (drop b (drop a t)))
    (subst (λ (l : List A). all_of p l ≡ true) parts e))
  where
    sum : m ≡ a + (b + (m - (a + b)))
    sum = omega arith

    parts : take m t ≡ take a t ++ (take b (drop a t) ++ take (m - (a + b)) (drop b (drop a t)))
    parts =
        ap (λ (k : ℕ). take k t) sum
        ∙ take-add a (b + (m - (a + b))) t
        ∙ ap (λ (l : List A). take a t ++ l) (take-add b (m - (a + b)) (drop a t))

pub rows_next : (w i : ℕ) (t : List ℤ) → row_lines w (i + 1) t ≡ row_lines w i t ++ row_line (take w (drop (w * i) t))
rows_next w i t = rows_split w i 1 t ∙ ap (λ (l : List ℕ). row_lines w i t ++ l) (unfold row_lines in append-nil (row_line (take w (drop (w * i) t))))

pub rows_part : (w i n : ℕ) (t : List ℤ) → i ≤ n → length (row_lines w i t) ≤ length (row_lines w n t)
rows_part w i n t h =
    omega (
      arith,
      ap length (rows_split w i (n - i) t),
      length-append (row_lines w i t) (row_lines w (n - i) (drop (w * i) t)),
      ap (λ (k : ℕ). length (row_lines w k t)) sum,
    )
  where
    sum : i + (n - i) ≡ n
    sum = omega arith

-- ---- the next row of a table that holds n

module _ (w : ℕ) (t : List ℤ) (n : ℕ) (h : Writable w t n) (i : ℕ) (row after : List ℤ) (next : NextRow w t n i row after) where
  pub row_digits : all_of five_digits row ≡ true
  row_digits = rw next.is (all_within five_digits (w * i) w (w * n) t next.within h.digits)

  pub lines_next : row_lines w i t ++ row_line row ≡ row_lines w (i + 1) t
  lines_next = rw next.is (sym (rows_next w i t))

-- ---- lengths

pub rows_length : (w n : ℕ) (t : List ℤ) → 1 ≤ w → w * n ≤ length t → length (row_lines w n t) ≡ length (spread (take (w * n) t))
unfolding row_lines
rows_length w zero t a b = unfold spread in ap (λ (k : ℕ). length (spread (take k t))) (sym (mul-zero w))
rows_length w (suc n) t a b =
    length-append (row_line (take w t)) (row_lines w n (drop w t))
    ∙ ap₂ (λ (x y : ℕ). x + y) (row_length (take w t) (omega (arith, length-take-le w t (omega arith)))) (rows_length w n (drop w t) a (omega (arith, length-drop w t)))
    ∙ sym (length-append (spread (take w t)) (spread (take (w * n) (drop w t))))
    ∙ ap length (sym (spread_append (take w t) (take (w * n) (drop w t))))
    ∙ ap (λ (l : List ℤ). length (spread l)) (sym (take_row w n t))
