-- What is left of a set, lent on to the next search.
use Prim.Native.Nat.{ℕ, zero, suc, ◌+◌, ◌-◌, ◌≤◌}
use native.Mathlib.Omega.{arith}
use mathlib.Core.Path.{◌≡◌, sym, ◌∙◌, ap, ap₂}
use mathlib.Core.Bool.{true}
use mathlib.Core.List.{List, [], ◌∷◌}
use lib.IntN.{ℤ}
use lib.ListN.{take, drop}
use lib.Seq.{drop-drop, take-nil}
use Rattle.stab.specs.Basic.{nat, has, ascending}
use Rattle.stab.specs.Node.{Node, set_of}
use Rattle.stab.specs.Search.{place_of, stands_at}
use Rattle.stab.proofs.Searches.{place_rest, stands_rest, member_at_place}

take_none : {A : Type 0} (n : ℕ) (l : List A) → n ≡ 0 → take n l ≡ []
take_none n l e = ap (λ (k : ℕ). take k l) e

drop_take : {A : Type 0} (k n : ℕ) (l : List A) → drop k (take n l) ≡ take (n - k) (drop k l)
drop_take zero n l = ap (λ (m : ℕ). take m l) (none n)
  where
    none : (n : ℕ) → n ≡ n - 0
    none n = omega arith
drop_take (suc k) zero l = sym (take_none (0 - suc k) (drop (suc k) l) (omega arith))
drop_take (suc k) (suc n) [] = sym (take-nil (suc n - suc k))
drop_take (suc k) (suc n) (x ∷ l) = drop_take k n l ∙ ap (λ (m : ℕ). take m (drop k l)) (less n k)
  where
    less : (n k : ℕ) → n - k ≡ suc n - suc k
    less n k = omega arith

module _ (members : List ℤ) (w : Node) where
  -- the part from place k of the set to its end
  rest_is : (at end k : ℕ) → at ≡ nat w.start + k → end ≡ nat w.start + nat w.size → take (end - at) (drop at members) ≡ drop k (set_of members w)
  unfolding set_of
  rest_is at end k e d =
      let l : end - at ≡ nat w.size - k = omega (arith, e, d) in
      ap₂ (λ (n s : ℕ). take n (drop s members)) l e
      ∙ ap (take (nat w.size - k)) (sym (drop-drop k (nat w.start) members))
      ∙ sym (drop_take k (nat w.size) (drop (nat w.start) members))

  -- the search goes on to the number's place in the set
  pub next_place : (z : ℤ) (at end k : ℕ) → at ≡ nat w.start + k → end ≡ nat w.start + nat w.size → k ≤ place_of z (set_of members w) → at + place_of z (take (end - at) (drop at members)) ≡ nat w.start + place_of z (set_of members w)
  next_place z at end k e d h =
      let r = ap (place_of z) (rest_is at end k e d) in
      omega (arith, r, e, place_rest z (set_of members w) k h)

  -- where it stands if it is a member
  pub member_there : (z : ℤ) (at end : ℕ) → ascending (set_of members w) ≡ true → at ≡ nat w.start + place_of z (set_of members w) → end ≡ nat w.start + nat w.size → stands_at z (take (end - at) (drop at members)) 0 ≡ has z (set_of members w)
  member_there z at end up e d =
      let k : ℕ = place_of z (set_of members w) in
      let none : k + 0 ≡ k = omega arith in
      ap (λ (l : List ℤ). stands_at z l 0) (rest_is at end k e d)
      ∙ stands_rest z (set_of members w) k 0
      ∙ ap (stands_at z (set_of members w)) none
      ∙ member_at_place z (set_of members w) up
