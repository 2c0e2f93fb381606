-- New numbers kept in a table that is 0 past them.
use Rattle.std.specs.Prelude.{if◌then◌else◌}
use Prim.Native.Nat.{ℕ, zero, suc, ◌-◌, ◌<◌, ◌≤◌}
use native.Mathlib.Omega.{arith}
use mathlib.Core.Path.{◌≡◌, refl, sym, ◌∙◌, ap}
use mathlib.Core.Bool.{true, false}
use mathlib.Core.List.{List, [], ◌∷◌, ◌++◌, append_assoc}
use lib.Dec.{ltb}
use lib.IntN.{ℤ, pos}
use lib.Signed.{le_z, lt_z}
use lib.ListN.{length, get_or, set, replicate, length-append}
use lib.Seq.{set_at}
use borrow.Author.Tests.{le-ltb}
use Rattle.stab.specs.Basic.{nat}
use Rattle.stab.specs.Text.{padded}
use Rattle.stab.proofs.Bools.{if_true, if_false}
use Rattle.stab.proofs.Whole.{atom, num, of_lt, of_not_lt, le_of, not_le_of, nat_pos}
use Rattle.tidied.specs.Tidied.{through, new_number}
use Rattle.tidied.proofs.Moves.{through_negative}
use Rattle.tidied.proofs.Foldings.{new_schema}

-- ---- a number put through, by what it names

module _ (s : ℕ) (numbers : List ℕ) (z : ℤ) where
  pub names_none : lt_z z (pos 0) ≡ true → z ≡ through (new_number s numbers) z
  names_none h = sym (through_negative (new_number s numbers) z (not_le_of (num 0) (atom z) (omega (arith, of_lt (atom z) (num 0) h))))

  module _ (h : lt_z z (pos 0) ≡ false) where
    natural : le_z (pos 0) z ≡ true
    natural = le_of (num 0) (atom z) (omega (arith, of_not_lt (atom z) (num 0) h))

    names_row : through (new_number s numbers) z ≡ pos (new_number s numbers (nat z))
    unfolding through
    names_row = if_true (le_z (pos 0) z) _ _ natural

    pub names_schema : nat z < s → z ≡ through (new_number s numbers) z
    names_schema l = sym (names_row ∙ ap pos (new_schema s numbers (nat z) l) ∙ nat_pos z natural)

    pub names_proof : s ≤ nat z → pos (get_or numbers (nat z - s) 0) ≡ through (new_number s numbers) z
    unfolding new_number
    names_proof l = sym (names_row ∙ ap pos (if_false (ltb (nat z) s) _ _ (le-ltb (nat z) s l)))

-- ---- a table that is 0 past its numbers

pub get_d_zeros : (m k : ℕ) → get_or (replicate {A = ℕ} m 0) k 0 ≡ 0
get_d_zeros zero k = refl
get_d_zeros (suc m) zero = refl
get_d_zeros (suc m) (suc k) = get_d_zeros m k

get_d_followed : (xs : List ℕ) (m k : ℕ) → get_or (xs ++ replicate m 0) k 0 ≡ get_or xs k 0
get_d_followed [] m k = get_d_zeros m k
get_d_followed (x ∷ xs) m zero = refl
get_d_followed (x ∷ xs) m (suc k) = get_d_followed xs m k

-- it gives the same numbers
pub new_padded : (s n : ℕ) (xs : List ℕ) → new_number s (padded 0 n xs) ≡ new_number s xs
unfolding new_number padded
new_padded s n xs = λ i r. if ltb r s then r else get_d_followed xs (n - length xs) (r - s) i

pub padded_empty : {A : Type 0} (z : A) (n : ℕ) → replicate n z ≡ padded z n []
unfolding padded
padded_empty {A} z n = let e : n ≡ n - 0 = omega arith in ap (λ (k : ℕ). replicate {A = A} k z) e

-- one number more
pub padded_more : (n k q : ℕ) (xs : List ℕ) → length xs ≡ k → k < n → set (padded 0 n xs) k q ≡ padded 0 n (xs ++ q ∷ [])
unfolding padded
padded_more n k q xs e l =
    ap (λ (m : ℕ). set (xs ++ replicate m 0) k q) one_first
    ∙ set_at xs 0 (replicate (n - suc k) 0) q k e
    ∙ sym (append_assoc xs (q ∷ []) (replicate (n - suc k) 0))
    ∙ ap (λ (m : ℕ). (xs ++ q ∷ []) ++ replicate m 0) rest
  where
    one_first : n - length xs ≡ suc (n - suc k)
    one_first = omega arith

    rest : n - suc k ≡ n - length (xs ++ q ∷ [])
    rest = omega (arith, length-append xs (q ∷ []))
