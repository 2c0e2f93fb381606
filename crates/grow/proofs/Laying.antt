-- A row laid behind the rows held, with whatever stands past it: what the check of these rows says of adding it.
use Prim.Native.Nat.{ℕ, suc, ◌+◌, ◌*◌, ◌-◌, ◌<◌, ◌≤◌}
use native.Mathlib.Omega.{arith}
use mathlib.Core.Path.{◌≡◌, refl, sym, ◌∙◌, ap, ap₂}
use mathlib.Core.Logic.{⊎_elim}
use mathlib.Core.Bool.{true, false}
use mathlib.Core.List.{List, ◌++◌}
use lib.IntN.{ℤ}
use lib.ListN.{length, take, drop, length-append}
use lib.Seq.{sets-eq, length-sets, length-take-le}
use Rattle.stab.specs.Basic.{nat, ◌otherwise◌}
use Rattle.stab.specs.Node.{Tableau, Node, node_at, node, set_of, set}
use Rattle.stab.specs.Check.{whole_unless, refusal, held_mode}
use Rattle.stab.specs.Text.{padded}
use Rattle.std.specs.Prelude.{None}
use Rattle.stab.specs.Finding.{no_refusal, refuse, Place}
use Rattle.stab.specs.declared.Refusal.{Refusal}
use Rattle.stab.specs.declared.Refusal.TheVariants.{Room}
use Rattle.stab.proofs.Bools.{nothing_unless, found_unless, otherwise_nothing, otherwise_found, otherwise_same}
use Rattle.stab.proofs.Scans.{below_suc}
use Rattle.tidied.proofs.Tables.{numbers_of, node_at_front, node_at_next, slice_front, slice_take, set_within}
use Rattle.growing.specs.Growing.{NodeRow, node_numbers, holding, added, room_for, added_refusal, new_refusal, add_refusal, shortened}
use Rattle.growing.proofs.States.{Holds, held_clears, node_at_take, written, added_old, added_new}
use Rattle.growing.proofs.Held.{padded_length, fits, ends_before, shortened_alike, holds_shortened}
use Rattle.grow.specs.State.{grown}
use Rattle.grow.specs.Moved.{placed, moved}
use Rattle.grow.proofs.Same.{Agree, held_same}
use Rattle.grow.proofs.Judged.{judged_last}

module _ (T : Tableau) (w : NodeRow) (room : room_for T w ≡ true) where
  abbrev n : ℕ
  n = T.node_rows

  abbrev m : ℕ
  m = T.member_count

  -- the nodes up to the row, and the members
  abbrev front : List ℤ
  front = take (9 * n) T.nodes ++ node_numbers w m

  abbrev front_members : List ℤ
  front_members = take m T.members ++ w.members

  nodes_length : length (take (9 * n) T.nodes) ≡ 9 * n
  nodes_length = length-take-le (9 * n) T.nodes (omega (arith, (fits T w room).2))

  front_length : length front ≡ 9 * n + 9
  unfolding node_numbers
  front_length = omega (arith, nodes_length, length-append (take (9 * n) T.nodes) (node_numbers w m))

  members_length : length (take m T.members) ≡ m
  members_length = length-take-le m T.members (omega (arith, (fits T w room).3))

  front_members_length : length front_members ≡ m + length w.members
  front_members_length = omega (arith, members_length, length-append (take m T.members) w.members)

  nodes_are : (grown T w).nodes ≡ front ++ drop (9 * n + length (node_numbers w m)) T.nodes
  unfolding grown node_numbers
  nodes_are = sets-eq (node_numbers w m) T.nodes (9 * n) (omega (arith, (fits T w room).2))

  members_are : (grown T w).members ≡ front_members ++ drop (m + length w.members) T.members
  unfolding grown
  members_are = sets-eq w.members T.members m (fits T w room).3

  -- ---- the row is held as where the tables are 0 past it

  node_as_added : (j : ℕ) → j < suc n → node (grown T w) j ≡ node (added T w) j
  unfolding node added holding padded
  node_as_added j h =
      ap (λ (t : List ℤ). node_at t j) nodes_are
      ∙ node_at_front front _ j (omega (arith, front_length))
      ∙ sym (node_at_front front _ j (omega (arith, front_length)))

  set_as_added : (j : ℕ) → j < suc n → nat (node (added T w) j).start + nat (node (added T w) j).size ≤ m + length w.members → set (grown T w) j ≡ set (added T w) j
  unfolding set set_of added holding padded
  set_as_added j h l =
      let a = nat (node (added T w) j).start in
      let c = nat (node (added T w) j).size in
      ap₂ (λ (v : Node) (t : List ℤ). take (nat v.size) (drop (nat v.start) t)) (node_as_added j h) members_are
      ∙ slice_front front_members _ a c (omega (arith, front_members_length))
      ∙ sym (slice_front front_members _ a c (omega (arith, front_members_length)))

  agrees_added : ((j : ℕ) → j < suc n → nat (node (added T w) j).start + nat (node (added T w) j).size ≤ m + length w.members) → Agree (added T w) (grown T w)
  unfolding added holding grown
  agrees_added b = record {
    alike = record { schema = refl; schema_rows = refl; proof = refl; proof_rows = refl; root = refl; least = refl; node = node_as_added; set = λ j h. set_as_added j h (b j h) };
    node_rows = refl;
    member_count = refl;
    nodes = length-sets T.nodes (9 * n) (node_numbers w m) ∙ sym (padded_length (length T.nodes) front (omega (arith, front_length, (fits T w room).2)));
    members = length-sets T.members m w.members ∙ sym (padded_length (length T.members) front_members (omega (arith, front_members_length, (fits T w room).3)));
  }

  -- ---- rows held that have passed

  module _ (H : Holds T) where
    within_held : (j : ℕ) → j < suc n → nat (node (added T w) j).start + nat (node (added T w) j).size ≤ m + length w.members
    unfolding written nat
    within_held j h =
        ⊎_elim
        (λ l. let e = ap (λ (v : Node). nat v.start + nat v.size) (added_old T H w room j l) in omega (arith, e, set_within T H.sets j l))
        (λ q.
        let e = ap (λ (k : ℕ). nat (node (added T w) k).start + nat (node (added T w) k).size) q in
        let f = ap (λ (v : Node). nat v.start + nat v.size) (added_new T H w room) in
        omega (arith, e, f))
        (below_suc j n h)

    pub agrees : Agree (added T w) (grown T w)
    agrees = agrees_added within_held

    -- what is found with the row is what is found of it
    found_new : moved n (refusal held_mode (grown T w)) ≡ added_refusal (added T w) n
    found_new = ap (moved n) (held_same agrees) ∙ judged_last T H w room

  -- ---- the rows that pass with the row

  module _ (G : Holds (grown T w)) where
    old_node : (j : ℕ) → j < n → node (grown T w) j ≡ node T j
    unfolding node
    old_node j h =
        ap (λ (t : List ℤ). node_at t j) nodes_are
        ∙ node_at_front front _ j (omega (arith, front_length))
        ∙ node_at_front (take (9 * n) T.nodes) (node_numbers w m) j (omega (arith, nodes_length))
        ∙ node_at_take T.nodes (9 * n) j (omega arith)

    new_node : node (grown T w) n ≡ written w m
    unfolding node node_numbers numbers_of written
    new_node =
        ap (λ (t : List ℤ). node_at t n) nodes_are
        ∙ node_at_front front _ n (omega (arith, front_length))
        ∙ node_at_next (take (9 * n) T.nodes) n (written w m) nodes_length

    -- its set starts after those before it
    starts : nat (node (grown T w) n).start ≡ m
    unfolding written nat
    starts = ap (λ (v : Node). nat v.start) new_node

    old_set : (j : ℕ) → j < n → set (grown T w) j ≡ set T j
    unfolding set set_of grown
    old_set j h =
        let a = nat (node T j).start in
        let c = nat (node T j).size in
        let e = ap (λ (v : Node). nat v.start + nat v.size) (old_node j h) in
        let l : a + c ≤ m = omega (arith, e, starts, ends_before (grown T w) G j n h (omega arith)) in
        ap₂ (λ (v : Node) (t : List ℤ). take (nat v.size) (drop (nat v.start) t)) (old_node j h) members_are
        ∙ slice_front front_members _ a c (omega (arith, front_members_length))
        ∙ slice_front (take m T.members) w.members a c (omega (arith, members_length))
        ∙ slice_take T.members m a c l (omega (arith, (fits T w room).3))

    some_row : 0 < (grown T w).node_rows
    unfolding grown
    some_row = omega arith

    agrees_shortened : Agree (shortened (grown T w)) T
    unfolding shortened holding grown node
    agrees_shortened =
        let A = shortened_alike (grown T w) G some_row in
        let nodes = (grown T w).nodes in
        let members = (grown T w).members in
        let rows : suc n - 1 ≡ n = omega arith in
        let start : nat (node_at nodes (suc n - 1)).start ≡ m = ap (λ (k : ℕ). nat (node_at nodes k).start) rows ∙ starts in
        let a = length-sets T.nodes (9 * n) (node_numbers w m) in
        let b = length-sets T.members m w.members in
        let c = length-take-le (9 * (suc n - 1)) nodes (omega (arith, a, (fits T w room).2)) in
        let d = length-take-le (nat (node_at nodes (suc n - 1)).start) members (omega (arith, start, b, (fits T w room).3)) in
        record {
          alike = record {
            schema = refl;
            schema_rows = refl;
            proof = refl;
            proof_rows = refl;
            root = refl;
            least = refl;
            node = λ j h. sym (A.node j h ∙ old_node j (omega arith));
            set = λ j h. sym (A.set j h ∙ old_set j (omega arith));
          };
          node_rows = sym rows;
          member_count = sym start;
          nodes = sym (padded_length (length nodes) (take (9 * (suc n - 1)) nodes) (omega (arith, c, a, (fits T w room).2)) ∙ a);
          members = sym (padded_length (length members) (take (nat (node_at nodes (suc n - 1)).start) members) (omega (arith, d, start, b, (fits T w room).3)) ∙ b);
        }

    held_without : refusal held_mode T ≡ no_refusal
    held_without = held_same agrees_shortened ∙ (held_clears (shortened (grown T w))).1 (holds_shortened (grown T w) G some_row)

  -- ---- what adding says

  new_is : new_refusal T w ≡ added_refusal (added T w) n
  unfolding new_refusal whole_unless
  new_is = otherwise_nothing _ _ (nothing_unless (room_for T w) _ _ room)

  pub accepted : refusal held_mode (grown T w) ≡ no_refusal → add_refusal T w ≡ no_refusal
  unfolding add_refusal moved
  accepted e =
      let h = held_without ((held_clears (grown T w)).0 e) in
      otherwise_nothing (refusal held_mode T) _ h ∙ new_is ∙ sym (found_new ((held_clears T).0 h)) ∙ ap (moved n) e

  pub refused : (why : Refusal) (p : Place) → refusal held_mode (grown T w) ≡ refuse why p → add_refusal T w ≡ (refusal held_mode T otherwise refuse why (placed n why p))
  unfolding add_refusal moved
  refused why p e =
      otherwise_same (refusal held_mode T) _ _ (λ h. new_is ∙ sym (found_new ((held_clears T).0 h)) ∙ ap (moved n) e)

pub no_room : (T : Tableau) (w : NodeRow) → room_for T w ≡ false → add_refusal T w ≡ (refusal held_mode T otherwise refuse Room None)
unfolding add_refusal new_refusal whole_unless
no_room T w h = otherwise_same (refusal held_mode T) _ _ (λ e. otherwise_found _ _ (found_unless (room_for T w) _ _ h))
