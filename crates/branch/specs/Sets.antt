-- The sets of nodes, judged by what is kept beside the formula rows.
use Rattle.std.specs.Prelude.{ℕ, zero, suc, ◌+◌, ◌*◌, ◌<◌, ◌≤◌, ◌≡◌, Bool, true, List, eqb, ℤ, pos, get_or}
use Rattle.std.specs.Int.Signed.{le_z, lt_z}
use Rattle.stab.specs.Basic.{◌and◌, ◌implies◌, eq_z, nat, below, all_of, ascending}
use Rattle.stab.specs.Node.{Tableau, node, node_at, set, set_of, set_end, set_follows, is_outer_row}

-- z is the number of an outer row, of n rows with their facts
unfoldable pub outer_by : List ℕ → ℕ → ℤ → Bool
outer_by facts n z = below n z and eqb (get_or facts (4 * nat z + 2) 0) 0

-- what stands at i is more than what stands before it
unfoldable pub rises_at : List ℤ → ℕ → Bool
rises_at xs zero = true
rises_at xs (suc i) = lt_z (get_or xs i (pos 0)) (get_or xs (suc i) (pos 0))

unfoldable pub member_fits : List ℕ → ℕ → List ℤ → ℕ → Bool
member_fits facts n xs i = outer_by facts n (get_or xs i (pos 0)) and rises_at xs i

-- a list of outer rows in ascending order
unfoldable pub list_fits : List ℕ → ℕ → List ℤ → Bool
list_fits facts n xs = ascending xs and all_of (outer_by facts n) xs

-- the set of node j lies where it has to
unfoldable pub place_fits : List ℤ → ℕ → ℕ → Bool
place_fits nodes m j = set_follows nodes j and le_z (set_end nodes j) (pos m)

-- the set of node j is right, and if it is the last of k it ends with the last of m members
unfoldable pub set_right : List ℕ → ℕ → List ℤ → ℕ → List ℤ → ℕ → ℕ → Bool
set_right facts n nodes k members m j =
    (place_fits nodes m j and list_fits facts n (set_of members (node_at nodes j))) and
    (eqb (suc j) k implies eq_z (set_end nodes j) (pos m))

-- the set of node j lies within m members
abbrev pub Within : List ℤ → ℕ → ℕ → Type 0
Within nodes m j = nat (node_at nodes j).start + nat (node_at nodes j).size ≤ m

-- what is known of a set that was not refused
pub record SetKnown (T : Tableau) (j : ℕ) : Type 0 where
  pub start : pos (nat (node T j).start) ≡ (node T j).start
  pub size : pos (nat (node T j).size) ≡ (node T j).size
  pub end : nat (node T j).start + nat (node T j).size ≤ T.member_count
  pub up : ascending (set T j) ≡ true
  pub outer : all_of (is_outer_row T) (set T j) ≡ true

abbrev pub AllSetsKnown : Tableau → ℕ → Type 0
AllSetsKnown T k = (j : ℕ) → j < k → SetKnown T j
