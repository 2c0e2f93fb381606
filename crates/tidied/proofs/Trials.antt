-- The definitions of No. 10 computed on a small record, worked out by hand. Of its proof rows 3 to 8, row 4 repeats row 3; row 6 repeats
-- row 5 only once its part, row 4, has its new number; row 7 repeats schema row 0; node 1's set holds both copies of row 3.
use mathlib.Core.Path.{◌≡◌, refl}
use mathlib.Core.List.{List, [], ◌∷◌}
use lib.IntN.{ℤ, pos, negsuc}
use mathlib.Core.Option.{or_else}
use Rattle.stab.specs.Basic.{◌and◌, eq_z, nat, first}
use Rattle.stab.specs.Formula.{row_at, formula_rows, kind_of}
use Rattle.stab.specs.Node.{Tableau, node_at, node, set_of, set}
use Rattle.stab.specs.Check.{same_row}
use Rattle.tidied.specs.Tidied.{through, renumbered_as, renumbered, columns, new_number, earliest, folded_into, fold_row, fold_next, folding, folding_of, new_of, insert_member, tidy_set, tidy_members, tidy_node, tidy_nodes, tidied}

none : ℤ
none = negsuc 0

row : ℤ → ℤ → ℤ → ℤ → List ℤ → List ℤ
row k a b c rest = k ∷ a ∷ b ∷ c ∷ rest

-- up rule on with other to by start size
abbrev node_row : ℤ → ℤ → ℤ → ℤ → ℤ → ℤ → ℤ → ℤ → ℤ → List ℤ → List ℤ
node_row u r o w t l b s z rest = u ∷ r ∷ o ∷ w ∷ t ∷ l ∷ b ∷ s ∷ z ∷ rest

record_before : Tableau
unfolding row none
record_before = record {
  schema = row (pos 2) (pos 0) (pos 1) (pos 0) (row (pos 3) (pos 0) (pos 1) (pos 0) (row (pos 4) (pos 0) (pos 1) (pos 0) []));
  schema_rows = 3;
  proof =
      row (pos 2) (pos 1) (pos 1) (pos 0)
      (row (pos 2) (pos 1) (pos 1) (pos 0)
      (row (pos 4) (pos 0) (pos 3) (pos 0)
      (row (pos 4) (pos 0) (pos 4) (pos 0) (row (pos 2) (pos 0) (pos 1) (pos 0) (row (pos 5) (pos 6) (pos 7) (pos 0) [])))));
  proof_rows = 6;
  root = pos 2;
  least = pos 0;
  nodes =
      node_row none (pos 0) (pos 2) none none none (pos 0) (pos 0) (pos 1)
      (node_row (pos 0) (pos 6) (pos 7) (pos 4) (pos 8) none (pos 0) (pos 1) (pos 4) []);
  node_rows = 2;
  members = pos 2 ∷ pos 3 ∷ pos 4 ∷ pos 7 ∷ pos 8 ∷ [];
  member_count = 5;
}

-- rows 3, 5 and 8 stay, as rows 3, 4 and 5
folded_rows : folding_of record_before ≡ record { table = row (pos 2) (pos 1) (pos 1) (pos 0) (row (pos 4) (pos 0) (pos 3) (pos 0) (row (pos 5) (pos 4) (pos 0) (pos 0) [])); count = 3; numbers = 3 ∷ 3 ∷ 4 ∷ 4 ∷ 0 ∷ 5 ∷ [] }
unfolding record_before row folding_of folding fold_next fold_row folded_into earliest new_number renumbered renumbered_as through columns row_at formula_rows kind_of same_row ◌and◌ eq_z nat first or_else
folded_rows = refl

-- of 3, 4, 7 and 8 the set keeps 0, 3 and 5; on, with and other go through; -1, up and to stay
tidied_record : ((tidied record_before).nodes ≡ node_row none (pos 0) (pos 2) none none none (pos 0) (pos 0) (pos 1) (node_row (pos 0) (pos 6) (pos 0) (pos 3) (pos 5) none (pos 0) (pos 1) (pos 3) [])) × ((tidied record_before).members ≡ pos 2 ∷ pos 0 ∷ pos 3 ∷ pos 5 ∷ []) × ((tidied record_before).member_count ≡ 4)
unfolding record_before row none tidied tidy_nodes tidy_node tidy_members tidy_set insert_member new_of folding_of folding fold_next fold_row folded_into earliest new_number renumbered renumbered_as through columns row_at formula_rows kind_of same_row node_at node set_of set ◌and◌ eq_z nat first or_else
tidied_record = (refl, refl, refl)
