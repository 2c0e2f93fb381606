-- Numbers laid into a table, and taken out again.
use Prim.Native.Nat.{ℕ, ◌+◌, ◌≤◌}
use native.Mathlib.Omega.{arith}
use mathlib.Core.Path.{◌≡◌, sym, ◌∙◌, ap, ap₂}
use mathlib.Core.List.{List, ◌++◌}
use lib.IntN.{ℤ}
use lib.ListN.{length, take, drop, length-append, length-drop, take-append-drop}
use lib.Seq.{sets, sets-eq, length-sets, length-take-le, drop_at, take-add}
use Rattle.folds.proofs.Fronts.{sets_front, sets_more}

-- what stood in a table, kept in front of another
pub kept_front : (s t : List ℤ) (at n k : ℕ) → k ≡ n → at + n ≤ length t → n ≤ length s → take n (sets s 0 (take k (drop at t))) ≡ take n (drop at t)
kept_front s t at n k e h g =
    ap (λ (m : ℕ). take m (sets s 0 (take k (drop at t)))) first ∙ sets_more s (take k (drop at t)) 0 (omega (arith, size)) ∙ ap (λ (m : ℕ). take m (drop at t)) e
  where
    size : length (take k (drop at t)) ≡ k
    size = length-take-le k (drop at t) (omega (arith, length-drop at t))

    first : n ≡ 0 + length (take k (drop at t))
    first = omega (arith, size)

-- laid, and taken out again
module _ (t vs : List ℤ) (at : ℕ) (h : at + length vs ≤ length t) where
  -- what stood there
  abbrev old : List ℤ
  old = take (length vs) (drop at t)

  old_size : length old ≡ length vs
  old_size = length-take-le (length vs) (drop at t) (omega (arith, length-drop at t))

  past_same : drop (at + length vs) (sets t at vs) ≡ drop (at + length vs) t
  past_same =
      ap (drop (at + length vs)) (sets-eq vs t at h)
      ∙ drop_at (take at t ++ vs) _ (at + length vs) (omega (arith, length-append (take at t) vs, length-take-le at t (omega arith)))

  pub put_back_same : sets (sets t at vs) at old ≡ t
  put_back_same =
      sets-eq old (sets t at vs) at (omega (arith, old_size, length-sets t at vs))
      ∙ ap (λ (n : ℕ). take at (sets t at vs) ++ old ++ drop (at + n) (sets t at vs)) old_size
      ∙ ap₂ (λ (r q : List ℤ). r ++ old ++ q) (sets_front t vs at h) past_same
      ∙ ap (λ (r : List ℤ). r ++ drop (at + length vs) t) (sym (take-add at (length vs) t))
      ∙ take-append-drop (at + length vs) t

-- what was kept is put back
pub restored : (t vs laid kept out : List ℤ) (at : ℕ) → at + length vs ≤ length t → laid ≡ sets t at vs → kept ≡ take (length vs) (drop at t) → out ≡ sets laid at kept → out ≡ t
restored t vs laid kept out at h e f g = g ∙ ap₂ (λ (l k : List ℤ). sets l at k) e f ∙ put_back_same t vs at h
