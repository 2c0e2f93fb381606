-- Where the search for a number ends, and that a number stands in an ascending list exactly if it stands there.
use Prim.Native.Nat.{ℕ, zero, suc, ◌+◌, ◌<◌, ◌≤◌}
use native.Mathlib.Omega.{arith}
use native.Mathlib.Nat.{zero-add, suc-add}
use mathlib.Core.Path.{◌≡◌, refl, sym, ◌∙◌, ap}
use mathlib.Core.Logic.{⊎_elim}
use mathlib.Core.Bool.{true, false}
use mathlib.Core.List.{List, [], ◌∷◌}
use lib.IntN.{ℤ, pos}
use lib.Signed.{lt_z}
use lib.ListN.{length, get_or, drop}
use Rattle.stab.specs.Basic.{eq_z, has, ascending}
use Rattle.stab.specs.Search.{place_of, stands_at}
use Rattle.stab.proofs.Bools.{and_left, and_right, or_left, or_false, or_first_false, if_true, if_false, decide}
use Rattle.stab.proofs.Whole.{atom, of_lt, lt_of, of_not_lt, of_eq, eq_of, eq_z_not, not_eq_z}

-- ---- where it ends

module _ (z x : ℤ) (xs : List ℤ) where
  place_on : lt_z x z ≡ true → place_of z (x ∷ xs) ≡ suc (place_of z xs)
  unfolding place_of
  place_on h = if_true (lt_z x z) _ _ h

  place_here : lt_z x z ≡ false → place_of z (x ∷ xs) ≡ 0
  unfolding place_of
  place_here h = if_false (lt_z x z) _ _ h

pub place_within : (z : ℤ) (xs : List ℤ) → place_of z xs ≤ length xs
unfolding place_of
place_within z [] = omega arith
place_within z (x ∷ xs) =
    ⊎_elim
    (λ h. omega (arith, place_on z x xs h, place_within z xs))
    (λ h. omega (arith, place_here z x xs h))
    (decide (lt_z x z))

-- the loop's way: what was passed is less, and the search ends at the list's end or at what is not
pub place_is : (z : ℤ) (xs : List ℤ) (i : ℕ) → i ≤ length xs → ((j : ℕ) → j < i → lt_z (get_or xs j (pos 0)) z ≡ true) → (i < length xs → lt_z (get_or xs i (pos 0)) z ≡ false) → place_of z xs ≡ i
unfolding place_of
place_is z [] zero l p q = refl
place_is z [] (suc i) l p q = absurd (omega arith)
place_is z (x ∷ xs) zero l p q = place_here z x xs (q (omega arith))
place_is z (x ∷ xs) (suc i) l p q =
    place_on z x xs (p zero (omega arith)) ∙ ap suc (place_is z xs i (omega arith) (λ j h. p (suc j) (omega arith)) (λ h. q (omega arith)))

-- the search goes on from any place that it passes
pub place_rest : (z : ℤ) (xs : List ℤ) (k : ℕ) → k ≤ place_of z xs → place_of z xs ≡ k + place_of z (drop k xs)
unfolding place_of
place_rest z xs zero h = omega arith
place_rest z [] (suc k) h = absurd (omega arith)
place_rest z (x ∷ xs) (suc k) h =
    ⊎_elim
    (λ t. let e = place_on z x xs t in omega (arith, e, place_rest z xs k (omega (arith, e))))
    (λ f. absurd (omega (arith, place_here z x xs f)))
    (decide (lt_z x z))

less_than_more : (x y z : ℤ) → lt_z x y ≡ true → lt_z y z ≡ true → lt_z x z ≡ true
less_than_more x y z h k = lt_of (atom x) (atom z) (omega (arith, of_lt (atom x) (atom y) h, of_lt (atom y) (atom z) k))

-- a larger number's place is no earlier
pub place_grows : (y z : ℤ) (xs : List ℤ) → lt_z y z ≡ true → place_of y xs ≤ place_of z xs
unfolding place_of
place_grows y z [] h = omega arith
place_grows y z (x ∷ xs) h =
    ⊎_elim
    (λ t. omega (arith, place_on y x xs t, place_on z x xs (less_than_more x y z t h), place_grows y z xs h))
    (λ f. omega (arith, place_here y x xs f))
    (decide (lt_z x y))

-- ---- membership

less_differs : (a b : ℤ) → lt_z a b ≡ true → eq_z a b ≡ false
less_differs a b h = eq_z_not a b (λ e. omega (arith, of_lt (atom a) (atom b) h, of_eq (atom a) (atom b) e))

more_differs : (a b : ℤ) → lt_z b a ≡ true → eq_z a b ≡ false
more_differs a b h = eq_z_not a b (λ e. omega (arith, of_lt (atom b) (atom a) h, of_eq (atom a) (atom b) e))

-- a number less than the first of an ascending list stands nowhere in it
none_below : (z x : ℤ) (xs : List ℤ) → ascending (x ∷ xs) ≡ true → lt_z z x ≡ true → has z (x ∷ xs) ≡ false
unfolding ascending has
none_below z x [] up h = or_false (eq_z z x) false (less_differs z x h) refl
none_below z x (y ∷ ys) up h =
    or_false (eq_z z x) _ (less_differs z x h) (none_below z y ys (and_right (lt_z x y) _ up) (less_than_more z x y h (and_left _ _ up)))

rest_ascends : (x : ℤ) (xs : List ℤ) → ascending (x ∷ xs) ≡ true → ascending xs ≡ true
unfolding ascending
rest_ascends x [] h = refl
rest_ascends x (y ∷ ys) h = and_right (lt_z x y) _ h

-- what is neither equal nor less is more
order : (z x : ℤ) → lt_z x z ≡ false → eq_z z x ≡ false → lt_z z x ≡ true
order z x h d =
    ⊎_elim
    (λ t. t)
    (λ f. absurd (not_eq_z z x d (eq_of (atom z) (atom x) (omega (arith, of_not_lt (atom x) (atom z) h, of_not_lt (atom z) (atom x) f)))))
    (decide (lt_z z x))

-- what is not more than the first stands at most there
first_alone : (z x : ℤ) (xs : List ℤ) → ascending (x ∷ xs) ≡ true → lt_z x z ≡ false → eq_z z x ≡ has z (x ∷ xs)
unfolding has
first_alone z x xs up h =
    ⊎_elim
    (λ e. e ∙ sym (or_left (eq_z z x) (has z xs) e))
    (λ d. d ∙ sym (none_below z x xs up (order z x h d)))
    (decide (eq_z z x))

-- what stands at a place
pub stands_at_lem : (z : ℤ) (xs : List ℤ) (i : ℕ) → i < length xs → stands_at z xs i ≡ eq_z z (get_or xs i (pos 0))
unfolding stands_at
stands_at_lem z [] i h = absurd (omega arith)
stands_at_lem z (x ∷ xs) zero h = refl
stands_at_lem z (x ∷ xs) (suc i) h = stands_at_lem z xs i (omega arith)

pub stands_past : (z : ℤ) (xs : List ℤ) (i : ℕ) → length xs ≤ i → stands_at z xs i ≡ false
unfolding stands_at
stands_past z [] i h = refl
stands_past z (x ∷ xs) zero h = absurd (omega arith)
stands_past z (x ∷ xs) (suc i) h = stands_past z xs i (omega arith)

-- a place in what is left of a list
pub stands_rest : (z : ℤ) (xs : List ℤ) (k i : ℕ) → stands_at z (drop k xs) i ≡ stands_at z xs (k + i)
unfolding stands_at
stands_rest z xs zero i = rw zero-add
stands_rest z [] (suc k) i = refl
stands_rest z (x ∷ xs) (suc k) i = rw suc-add (stands_rest z xs k i)

-- "In an ascending set the row is a member exactly when it stands at that place."
pub member_at_place : (z : ℤ) (xs : List ℤ) → ascending xs ≡ true → stands_at z xs (place_of z xs) ≡ has z xs
unfolding stands_at has place_of
member_at_place z [] up = refl
member_at_place z (x ∷ xs) up =
    ⊎_elim
    (λ t.
    ap (stands_at z (x ∷ xs)) (place_on z x xs t)
    ∙ member_at_place z xs (rest_ascends x xs up)
    ∙ sym (or_first_false (eq_z z x) (has z xs) (more_differs z x t)))
    (λ f. ap (stands_at z (x ∷ xs)) (place_here z x xs f) ∙ first_alone z x xs up f)
    (decide (lt_z x z))
