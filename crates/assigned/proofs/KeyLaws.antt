-- Assignments to pairs that are given by their keys.
use Rattle.std.specs.Prelude.{if◌then◌else◌}
use Prim.Native.Nat.{ℕ, suc, ◌+◌, ◌-◌, ◌<◌, ◌≤◌}
use native.Mathlib.Omega.{arith}
use mathlib.Core.Path.{◌≡◌, refl, ◌∙◌, ap}
use mathlib.Core.Bool.{Bool, true, false}
use mathlib.Core.List.{List, [], ◌∷◌}
use lib.Dec.{eqb}
use lib.IntN.{ℤ}
use lib.ListN.{length}
use Rattle.std.specs.List.{position_or_len}
use Rattle.std.specs.Prelude.{cond, not}
use Rattle.found.specs.Keys.{key_of}
use Rattle.assigned.specs.Words.{digit}
use Rattle.assigned.specs.Assignments.{place_of, keyed}

-- ---- where a key stands

pub place_is : (key : ℕ) (l : List ℕ) → place_of key l ≡ position_or_len (λ k. eqb k key) l
unfolding place_of
place_is key [] = refl
place_is key (k ∷ l) = go (eqb k key) (place_is key l)
  where
    n : ℕ
    n = position_or_len (λ k. eqb k key) l

    go : (b : Bool) → place_of key l ≡ n → (if b then 0 else suc (place_of key l)) ≡ cond (not b) (1 + n) 0
    go true e = refl
    go false e = omega arith

-- ---- the value of a pair by the place of its key

module _ (s z : ℤ) where
  abbrev key : ℕ
  key = key_of (record { symbol = s; index = z })

  pub keyed_at : (ks : List ℕ) (m : ℕ) → place_of key ks < length ks → keyed ks m s z ≡ digit m (length ks - 1 - place_of key ks)
  unfolding keyed place_of
  keyed_at [] m h = absurd (omega arith)
  keyed_at (k ∷ ks) m h = go (eqb k key) (keyed_at ks m) h
    where
      go : (b : Bool) → (place_of key ks < length ks → keyed ks m s z ≡ digit m (length ks - 1 - place_of key ks)) → (if b then 0 else suc (place_of key ks)) < suc (length ks) → (if b then digit m (length ks) else keyed ks m s z) ≡ digit m (suc (length ks) - 1 - (if b then 0 else suc (place_of key ks)))
      go true ih h = ap (digit m) (omega arith)
      go false ih h = ih (omega arith) ∙ ap (digit m) (omega arith)

  pub keyed_elsewhere : (ks : List ℕ) (m : ℕ) → length ks ≤ place_of key ks → keyed ks m s z ≡ false
  unfolding keyed place_of
  keyed_elsewhere [] m h = refl
  keyed_elsewhere (k ∷ ks) m h = go (eqb k key) (keyed_elsewhere ks m) h
    where
      go : (b : Bool) → (length ks ≤ place_of key ks → keyed ks m s z ≡ false) → suc (length ks) ≤ (if b then 0 else suc (place_of key ks)) → (if b then digit m (length ks) else keyed ks m s z) ≡ false
      go true ih h = absurd (omega arith)
      go false ih h = ih (omega arith)
