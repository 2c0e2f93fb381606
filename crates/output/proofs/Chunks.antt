-- A table of n rows of w numbers, row by row.
use Prim.Native.Nat.{ℕ, ◌+◌, ◌-◌, ◌*◌, ◌<◌, ◌≤◌}
use native.Mathlib.Omega.{arith}
use native.Mathlib.Nat.{mul-le-mul_left}
use mathlib.Core.Path.{◌≡◌, sym, ◌∙◌, ap}
use mathlib.Core.List.{List, ◌++◌}
use lib.ListN.{length, take, drop, length-append, length-drop}
use lib.Seq.{take-take, drop-drop, length-take-le}
use Rattle.std.proofs.lemmas.List.{take_at, drop_at}
use Rattle.std.proofs.lemmas.Slice.{between_is}

-- row i, and after it those that are left
pub record NextRow {A : Type 0} (w : ℕ) (t : List A) (n i : ℕ) (row after : List A) : Type 0 where
  pub less : i < n
  pub wide : length row ≡ w
  pub within : w * i + w ≤ w * n
  pub is : row ≡ take w (drop (w * i) t)
  pub left : after ≡ drop (w * (i + 1)) (take (w * n) t)

-- after i rows
module _ {A : Type 0} (w : ℕ) (t : List A) (n : ℕ) (some : 1 ≤ w) (held : w * n ≤ length t) (i : ℕ) (passed : i ≤ n) (left : List A) (is : left ≡ drop (w * i) (take (w * n) t)) where
  count_left : length left + w * i ≡ w * n
  count_left = omega (arith, ap length is, length-drop (w * i) (take (w * n) t), length-take-le (w * n) t held, mul-le-mul_left w passed)

  pub none_left : length left < w → i ≡ n
  none_left short = let c = count_left in grind arith

  module _ (row after : List A) (first : left ≡ row ++ after) (wide : length row ≡ w) where
    less : i < n
    less = let c = count_left in let l = length-append row after in let e = ap length first in grind arith

    within : w * i + w ≤ w * n
    within = omega (arith, mul-le-mul_left w less)

    pub next_row : NextRow w t n i row after
    next_row = record {
      less = less;
      wide = wide;
      within = within;
      is = sym (take_at row after w wide)
          ∙ ap (take w) (sym first ∙ is ∙ sym (between_is t (w * i) (w * n)))
          ∙ take-take w (w * n - w * i) (drop (w * i) t) (omega (arith, within));
      left = sym (drop_at row after w wide)
          ∙ ap (drop w) (sym first ∙ is)
          ∙ drop-drop w (w * i) (take (w * n) t)
          ∙ ap (λ (k : ℕ). drop k (take (w * n) t)) (omega arith);
    }
