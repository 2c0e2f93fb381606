-- Nodes and members alone; and that each set has room, in a record that the older check accepts.
use Prim.Native.Nat.{ℕ, zero, suc, ◌+◌, ◌≤◌}
use native.Mathlib.Omega.{arith}
use mathlib.Core.Path.{◌≡◌, refl, sym, ap, ap₂, subst}
use mathlib.Core.Bool.{true}
use mathlib.Core.List.{List, ◌++◌}
use lib.IntN.{ℤ, pos}
use lib.Signed.{le_z}
use lib.ListN.{length, drop, length-append, length-take}
use Rattle.stab.specs.Basic.{nat}
use Rattle.stab.specs.Node.{Tableau, node, set, set_of, set_start, set_end}
use Rattle.stab.specs.Keeps.{KeepsOlder}
use Rattle.stab.proofs.Whole.{atom, num, ◌⊕◌, of_le, le_of, le_z_of, plus_nat, nonneg_minus}
use Rattle.tidied.specs.Tidied.{tidy_set, tidy_members, tidy_node, tidy_nodes}
use Rattle.tidied.proofs.Sets.{tidy_length}
use Rattle.tidy.specs.Kept.{bare, AllFit}

-- ---- the rest of a record does not matter

module _ (T : Tableau) (new : ℕ → ℕ) where
  pub bare_members : (j : ℕ) → tidy_members (bare T.nodes T.members) new j ≡ tidy_members T new j
  unfolding tidy_members node set set_of
  bare_members zero = refl
  bare_members (suc j) = ap (λ (l : List ℤ). l ++ tidy_set new (set T j)) (bare_members j)

  pub bare_nodes : (j : ℕ) → tidy_nodes (bare T.nodes T.members) new j ≡ tidy_nodes T new j
  unfolding tidy_nodes node set set_of
  bare_nodes zero = refl
  bare_nodes (suc j) =
      ap₂ (λ (l : List ℤ) (n : ℕ). l ++ tidy_node new (node T j) n (length (tidy_set new (set T j)))) (bare_nodes j) (ap length (bare_members j))

-- ---- room

module _ (T : Tableau) (K : KeepsOlder T) (new : ℕ → ℕ) where
  -- the tidied sets before node j end no later than they did
  few_members_lem : (j : ℕ) → j ≤ T.node_rows → le_z (pos (length (tidy_members T new j))) (set_start T.nodes j) ≡ true
  unfolding tidy_members set_start node set set_of
  few_members_lem zero h = refl
  few_members_lem (suc j) h =
      let k = (K.nodes j h).set in
      let start = (node T j).start in
      let many = (node T j).size in
      le_of (num (length (tidy_members T new (suc j)))) (atom start ⊕ atom many)
      (omega (
        arith,
        of_le (num (length (tidy_members T new j))) (atom start) (subst (λ (z : ℤ). le_z (pos (length (tidy_members T new j))) z ≡ true) (sym k.follows) (few_members_lem j (omega arith))),
        nonneg_minus many (le_z_of k.not_negative),
        tidy_length new (set T j),
        length-take (nat many) (drop (nat start) T.members),
        plus_nat many,
        length-append (tidy_members T new j) (tidy_set new (set T j)),
      ))

  pub sets_fit : AllFit T.nodes T.members new T.node_rows
  unfolding node set_end
  sets_fit j h =
      let k = (K.nodes j h).set in
      let start = (node T j).start in
      let many = (node T j).size in
      let n = length (tidy_members T new j) in
      let before = subst (λ (z : ℤ). le_z (pos n) z ≡ true) (sym k.follows) (few_members_lem j (omega arith)) in
      let natural : le_z (pos 0) start ≡ true = le_of (num 0) (atom start) (omega (arith, of_le (num n) (atom start) before)) in
      let within : nat start + nat many ≤ T.member_count =
      omega (arith, of_le (atom start ⊕ atom many) (num T.member_count) (le_z_of k.counted), nonneg_minus start natural, nonneg_minus many (le_z_of k.not_negative), plus_nat start, plus_nat many)
      in
      record {
        held = omega (arith, within, K.tables.members_held);
        room = omega (arith, within, K.tables.member_limit, of_le (num n) (atom start) before, nonneg_minus start natural, plus_nat start, ap length (bare_members T new j));
      }
