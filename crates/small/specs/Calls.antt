-- 02, No. 14: what is promised of the list and of repeated calls.
use Rattle.std.specs.Prelude.{ℕ, ◌*◌, ◌≡◌, true, ℤ, take, Ok, Err, Result}
use mathlib.Core.List.{List, [], ◌∷◌, Memᴰ}
use Rattle.std.proofs.Math.Option.{Option, none, some}
use Rattle.small.specs.Small.{table_before, next_small, next_small_table}
use Rattle.small.specs.declared.Next.TheVariants.{Table, Last}
use Rattle.stab.specs.declared.Refused.{Refused}
use Rattle.small.specs.declared.Next.{Next}

-- each table comes before every later one, so none stands twice
abbrev pub Ascends : List (List ℤ) → Type 0
Ascends [] = Unit {0}
Ascends (t ∷ ts) = ((u : List ℤ) → Memᴰ u ts → table_before t u ≡ true) × Ascends ts

-- "the next": u is on the list us and comes after t, and nothing on it lies between them
pub record NextIn (us : List (List ℤ)) (t u : List ℤ) : Type 0 where
  pub listed : Memᴰ u us
  pub after : table_before t u ≡ true
  pub least : (v : List ℤ) → Memᴰ v us → table_before t v ≡ true → table_before v u ≡ true → ⊥

abbrev pub first_of : List (List ℤ) → Option (List ℤ)
first_of [] = none
first_of (u ∷ us) = some u

-- what a call adds to those after it: the table u where one is given
unfoldable pub given : Result Next Refused → List ℤ → List (List ℤ) → List (List ℤ)
given (Ok Table) u us = u ∷ us
given (Ok Last) u us = []
given (Err r) u us = []

-- "From the first table .. repeated calls": the tables of n rows that calls give one after another, with a result table of each of these
-- lengths in turn and from the result table of the call before, up to the first call that gives none
unfoldable pub calls : ℕ → List ℕ → List ℤ → List (List ℤ)
calls n [] t = []
calls n (room ∷ rooms) t = given (next_small n t room) (take (4 * n) (next_small_table n t room)) (calls n rooms (next_small_table n t room))
