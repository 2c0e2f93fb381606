-- Numbers with a space after each, and the rows that they become.
use Prim.Native.Nat.{ℕ, zero, suc, ◌+◌, ◌-◌, ◌*◌, ◌<◌, ◌≤◌}
use native.Mathlib.Omega.{arith}
use mathlib.Core.Path.{◌≡◌, refl, sym, ◌∙◌, ap, ap₂}
use mathlib.Core.Bool.{Bool, true}
use mathlib.Core.List.{List, [], ◌∷◌, ◌++◌, append_assoc, append-nil}
use lib.IntN.{ℤ, pos, negsuc}
use lib.ListN.{length, take, drop, get_or, set, length-append, take-append-drop}
use lib.Seq.{take-suc, set_at}
use Rattle.stab.specs.Basic.{all_of}
use Rattle.stab.specs.Text.{decimal, minus, space, row_line}
use Rattle.stab.proofs.Bools.{and_left, and_right}
use Rattle.stab.proofs.Texts.Lines.{row_bytes, row_line_lem, join, spaced}
use Rattle.digits.specs.Over.{over, spread}
use Rattle.digits.proofs.Decimals.{count_most}

-- ---- one number more

pub spread_one : (z : ℤ) → spread (z ∷ []) ≡ decimal z ++ 32 ∷ []
unfolding spread space
spread_one z = refl

pub spread_append : (a b : List ℤ) → spread (a ++ b) ≡ spread a ++ spread b
unfolding spread space
spread_append [] b = refl
spread_append (z ∷ zs) b =
    ap (λ (r : List ℕ). decimal z ++ 32 ∷ r) (spread_append zs b) ∙ sym (append_assoc (decimal z) (32 ∷ spread zs) (spread b))

pub spread_more : (t : List ℤ) (i : ℕ) → i < length t → spread (take (suc i) t) ≡ spread (take i t) ++ spread (get_or t i (pos 0) ∷ [])
spread_more t i h = ap spread (take-suc t i (pos 0) h) ∙ spread_append (take i t) (get_or t i (pos 0) ∷ [])

-- ---- lengths

pub decimal_most : (z : ℤ) → length (decimal z) ≤ 6
unfolding decimal minus
decimal_most (pos v) = omega (arith, count_most 4 v)
decimal_most (negsuc v) = omega (arith, count_most 4 (suc v))

pub one_length : (z : ℤ) → length (spread (z ∷ [])) ≡ length (decimal z) + 1
one_length z = ap length (spread_one z) ∙ length-append (decimal z) (32 ∷ [])

pub spread_most : (t : List ℤ) → length (spread t) ≤ 7 * length t
unfolding spread
spread_most [] = omega arith
spread_most (z ∷ zs) = omega (arith, length-append (decimal z) (space ∷ spread zs), decimal_most z, spread_most zs)

pub spread_part : (k : ℕ) (t : List ℤ) → length (spread (take k t)) ≤ length (spread t)
spread_part k t =
    omega (
      arith,
      ap (λ (l : List ℤ). length (spread l)) (take-append-drop k t),
      ap length (spread_append (take k t) (drop k t)),
      length-append (spread (take k t)) (spread (drop k t)),
    )

-- ---- the last space becomes byte 10

spread_bytes : (z : ℤ) (zs : List ℤ) → spread (z ∷ zs) ≡ row_bytes (z ∷ zs) ++ 32 ∷ []
unfolding spread row_bytes join spaced space
spread_bytes z [] = ap (λ (r : List ℕ). r ++ 32 ∷ []) (sym (append-nil (decimal z)))
spread_bytes z (y ∷ ys) =
    ap (λ (r : List ℕ). decimal z ++ 32 ∷ r) (spread_bytes y ys) ∙ sym (append_assoc (decimal z) (32 ∷ row_bytes (y ∷ ys)) (32 ∷ []))

pub row_length : (vs : List ℤ) → 1 ≤ length vs → length (row_line vs) ≡ length (spread vs)
row_length [] h = absurd (omega arith)
row_length (z ∷ zs) h =
    ap length (row_line_lem (z ∷ zs))
    ∙ length-append (row_bytes (z ∷ zs)) (10 ∷ [])
    ∙ sym (length-append (row_bytes (z ∷ zs)) (32 ∷ []))
    ∙ ap length (sym (spread_bytes z zs))

pub row_some : (vs : List ℤ) → 1 ≤ length vs → 1 ≤ length (spread vs)
row_some [] h = absurd (omega arith)
row_some (z ∷ zs) h = omega (arith, ap length (spread_bytes z zs), length-append (row_bytes (z ∷ zs)) (32 ∷ []))

pub row_end : (vs : List ℤ) (l : List ℕ) → 1 ≤ length vs → set (over (spread vs) l) (length (spread vs) - 1) 10 ≡ over (row_line vs) l
row_end [] l h = absurd (omega arith)
row_end (z ∷ zs) l h = unfold over in
    ap (λ (r : List ℕ). set (r ++ drop n l) (n - 1) 10) (spread_bytes z zs)
    ∙ ap (λ (r : List ℕ). set r (n - 1) 10) (append_assoc b (32 ∷ []) (drop n l))
    ∙ set_at b 32 (drop n l) 10 (n - 1) last
    ∙ sym (append_assoc b (10 ∷ []) (drop n l))
    ∙ ap₂ (λ (r : List ℕ) (k : ℕ). r ++ drop k l) (sym (row_line_lem (z ∷ zs))) (sym (row_length (z ∷ zs) h))
  where
    b : List ℕ
    b = row_bytes (z ∷ zs)

    n : ℕ
    n = length (spread (z ∷ zs))

    last : length b ≡ n - 1
    last = omega (arith, ap length (spread_bytes z zs), length-append b (32 ∷ []))

-- ---- every number of a table

module _ {A : Type 0} (p : A → Bool) where
  pub all_at : (t : List A) (i : ℕ) (d : A) → i < length t → all_of p t ≡ true → p (get_or t i d) ≡ true
  unfolding all_of
  all_at [] i d h e = absurd (omega arith)
  all_at (x ∷ xs) zero d h e = and_left _ _ e
  all_at (x ∷ xs) (suc i) d h e = all_at xs i d (omega arith) (and_right (p x) _ e)
