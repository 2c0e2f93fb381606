-- Ascending lists: the order of any two places, and where a number stands.
use Prim.Native.Nat.{ℕ, zero, suc, ◌+◌, ◌<◌, ◌≤◌}
use native.Mathlib.Omega.{arith}
use mathlib.Core.Path.{◌≡◌, refl, ◌∙◌}
use mathlib.Core.Bool.{true}
use mathlib.Core.List.{List, [], ◌∷◌}
use lib.IntN.{ℤ, pos}
use lib.Signed.{lt_z}
use lib.ListN.{get_or, length, take, drop, length-drop}
use lib.Seq.{get_or-take, get_or-drop, length-take-le}
use Rattle.stab.specs.Basic.{ascending}
use Rattle.stab.proofs.Bools.{and_left, and_right}
use Rattle.stab.proofs.Whole.{atom, of_lt, lt_of}

-- ---- a part of a list

module _ (xs : List ℤ) (start len : ℕ) (fits : start + len ≤ length xs) where
  pub part_length : length (take len (drop start xs)) ≡ len
  part_length = length-take-le len (drop start xs) (omega (arith, length-drop start xs))

  pub part_at : (i : ℕ) → i < len → get_or (take len (drop start xs)) i (pos 0) ≡ get_or xs (start + i) (pos 0)
  part_at i h = get_or-take len (drop start xs) i (pos 0) h ∙ get_or-drop start xs i (pos 0)

-- ---- order

pub lt_trans : (a b c : ℤ) → lt_z a b ≡ true → lt_z b c ≡ true → lt_z a c ≡ true
lt_trans a b c h k = lt_of (atom a) (atom c) (omega (arith, of_lt (atom a) (atom b) h, of_lt (atom b) (atom c) k))

-- the first of an ascending list is less than each later one
first_less : (x : ℤ) (xs : List ℤ) → ascending (x ∷ xs) ≡ true → (j : ℕ) → j < length xs → lt_z x (get_or xs j (pos 0)) ≡ true
unfolding ascending
first_less x [] h j p = absurd (omega arith)
first_less x (y ∷ ys) h zero p = and_left _ _ h
first_less x (y ∷ ys) h (suc j) p =
    lt_trans x y (get_or ys j (pos 0)) (and_left _ _ h) (first_less y ys (and_right (lt_z x y) _ h) j (omega arith))

rest_ascends : (x : ℤ) (xs : List ℤ) → ascending (x ∷ xs) ≡ true → ascending xs ≡ true
unfolding ascending
rest_ascends x [] h = refl
rest_ascends x (y ∷ ys) h = and_right (lt_z x y) _ h

pub ascending_at : (xs : List ℤ) → ascending xs ≡ true → (i j : ℕ) → i < j → j < length xs → lt_z (get_or xs i (pos 0)) (get_or xs j (pos 0)) ≡ true
ascending_at [] h i j p q = absurd (omega arith)
ascending_at (x ∷ xs) h i zero p q = absurd (omega arith)
ascending_at (x ∷ xs) h zero (suc j) p q = first_less x xs h j (omega arith)
ascending_at (x ∷ xs) h (suc i) (suc j) p q = ascending_at xs (rest_ascends x xs h) i j (omega arith) (omega arith)
