-- Trials of the definitions. Each expected value is worked out from 02.
use Prim.Native.Nat.{ℕ}
use mathlib.Core.Path.{◌≡◌, refl}
use mathlib.Core.Bool.{true, false}
use mathlib.Core.List.{[], ◌∷◌}
use lib.IntN.{ℤ, pos, negsuc}
use lib.ListN.{replicate}
use Rattle.stab.specs.Node.{Tableau}
use Rattle.stab.specs.Check.{held_mode}
use Rattle.std.specs.Prelude.{None, Some}
use Rattle.stab.specs.declared.Refusal.TheVariants.{Children, Set, Room, NoRow}
use Rattle.stab.proofs.Evaluate.{evaluated}
use Rattle.growing.specs.Growing.{NodeRow, node_numbers, holding, added, room_for, beyond_refusal, added_refusal, new_refusal, add_refusal, shortened, take_back_refusal, begun, begin_refusal, is_accepted, closed, growth_by, left_by, add, take_back, call_refusal, changed, answered, after, begin_answer, held_rows, refused_call}

none : ℤ
none = negsuc 0

-- the schema is an or of false and false; nodes and members have room for three nodes and two members
start : ℕ → Tableau
start room = record {
  schema = pos 1 ∷ pos 0 ∷ pos 0 ∷ pos 0 ∷ pos 5 ∷ pos 0 ∷ pos 0 ∷ pos 0 ∷ [];
  schema_rows = 2;
  proof = [];
  proof_rows = 0;
  root = pos 1;
  least = pos 0;
  nodes = replicate room (pos 7);
  node_rows = 0;
  members = replicate 3 (pos 7);
  member_count = 0;
}

-- rule 1 on the or, and rule 5 on false, below node p
split : NodeRow
split = record { up = none; rule = pos 1; on = pos 1; with = none; other = none; to = none; by = pos 0; members = pos 1 ∷ [] }

leaf : ℤ → NodeRow
leaf p = record { up = p; rule = pos 5; on = pos 0; with = none; other = none; to = none; by = pos 0; members = pos 0 ∷ [] }

-- its set does not ascend
unsorted : NodeRow
unsorted = record { up = pos 0; rule = pos 5; on = pos 0; with = none; other = none; to = none; by = pos 0; members = pos 1 ∷ pos 0 ∷ [] }

-- a row more, and two
one : Tableau
one = after (begun (start 27)) (add split)

two : Tableau
two = after one (add (leaf (pos 0)))

three : Tableau
three = after two (add (leaf (pos 0)))

-- open while a child is missing, closed with the second, and still after a refused call; no room is 24, before 9
grown : (begin_answer (start 27) ≡ held_rows 0 0 false) × (answered (begun (start 27)) (add split) ≡ held_rows 1 0 false) × (answered one (add (leaf (pos 0))) ≡ held_rows 2 0 false) × (answered two (add (leaf (pos 0))) ≡ held_rows 3 0 true) × (answered three (add unsorted) ≡ refused_call Room None true) × (answered two (add unsorted) ≡ refused_call Room None false) × (answered one (add unsorted) ≡ refused_call Set (Some 1) false) × (answered (begun (start 8)) (add split) ≡ refused_call Room None false)
unfolding evaluated held_mode none start split leaf unsorted one two three node_numbers holding added room_for beyond_refusal added_refusal new_refusal add_refusal shortened take_back_refusal begun begin_refusal is_accepted closed growth_by left_by call_refusal changed answered after begin_answer
grown = (refl, refl, refl, refl, refl, refl, refl, refl)

-- a child of a leaf is one beyond
beyond : answered two (add (leaf (pos 1))) ≡ refused_call Children (Some 2) false
unfolding evaluated held_mode none start split leaf one two node_numbers holding added room_for beyond_refusal added_refusal new_refusal add_refusal begun is_accepted closed growth_by left_by call_refusal changed answered after
beyond = refl

-- nothing to take back; what is taken back leaves the members too, and the lent tables are 0 past the rows held
taken : (answered (begun (start 27)) take_back ≡ refused_call NoRow None false) × (answered two take_back ≡ held_rows 1 0 false) × ((after two take_back).members ≡ pos 1 ∷ pos 0 ∷ pos 0 ∷ []) × ((after two take_back).member_count ≡ 1) × ((after two take_back).nodes ≡ one.nodes)
unfolding evaluated held_mode none start split leaf one two node_numbers holding added room_for beyond_refusal added_refusal new_refusal add_refusal shortened take_back_refusal begun is_accepted closed growth_by left_by call_refusal changed answered after
taken = (refl, refl, refl, refl, refl)
