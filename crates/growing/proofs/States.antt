-- What holds of rows that have passed, and the states that an accepted call leaves: their nodes and sets.
use Prim.Native.Nat.{ℕ, ◌+◌, ◌*◌, ◌<◌, ◌≤◌}
use native.Mathlib.Omega.{arith}
use mathlib.Core.Path.{◌≡◌, refl, ◌∙◌, ap}
use mathlib.Core.Logic.Iff
use mathlib.Core.Bool.{true, false}
use mathlib.Core.List.{List, ◌++◌}
use lib.IntN.{ℤ, pos}
use lib.ListN.{length, take, drop, length-append}
use lib.Seq.{get_or-take, length-take-le, drop_at, take_all}
use Rattle.stab.specs.Basic.{◌implies◌, nat, unless}
use Rattle.stab.specs.Node.{Tableau, Node, rows, row_count, node_at, node, set_of, set}
use Rattle.stab.specs.Check.{whole_unless, holds, set_refusal, parent_refusal, node_refusal, tables_hold, within_limits, enough_nodes, refusal, held_mode}
use Rattle.stab.specs.Keeps.{KeepsFormulas, KeepsSet, KeepsParent, KeepsTables, Fresh}
use Rattle.stab.specs.Text.{padded}
use Rattle.stab.specs.declared.Refusal.TheVariants.{TableTooShort, TooMany}
use Rattle.stab.specs.Finding.{no_refusal}
use Rattle.stab.proofs.Tests.{◌&◌, le_tests, ◌clears◌, whole_clears, ◌then◌, scan_clears}
use Rattle.stab.proofs.Exactness.Formulas.{present_clears}
use Rattle.stab.proofs.Exactness.Nodes.{set_clears, parent_clears}
use Rattle.tidied.proofs.Tables.{numbers_of, node_at_front, node_at_next, slice_front, slice_take, set_within}
use Rattle.growing.specs.Growing.{NodeRow, node_numbers, holding, added, room_for}
use Rattle.growing.proofs.Local.{Alike}

-- ---- rows that have passed

pub record Holds (T : Tableau) : Type 0 where
  pub tables : KeepsTables T
  pub formulas : KeepsFormulas (rows T) (row_count T) T.schema_rows T.root T.least
  pub fresh : Fresh T
  pub sets : (j : ℕ) → j < T.node_rows → KeepsSet T j
  pub parents : (j : ℕ) → j < T.node_rows → KeepsParent T j
  pub steps : (j : ℕ) → j < T.node_rows → node_refusal false T j ≡ no_refusal

pub held_clears : (T : Tableau) → refusal held_mode T clears Holds T
unfolding refusal held_mode tables_hold holds within_limits enough_nodes ◌implies◌ whole_unless unless
held_clears T =
    Iff.trans
    (whole_clears TableTooShort
    (le_tests (4 * T.schema_rows) (length T.schema) &
    le_tests (4 * T.proof_rows) (length T.proof) &
    le_tests (9 * T.node_rows) (length T.nodes) &
    le_tests (1 * T.member_count) (length T.members)) then
    whole_clears TooMany (le_tests (row_count T) 1024 & le_tests T.node_rows 1024 & le_tests T.member_count 8192) then
    present_clears T then
    scan_clears (set_refusal T) T.node_rows (λ j l. set_clears T j) then
    none_clears then
    scan_clears (parent_refusal T) T.node_rows (λ j l. parent_clears T j) then
    scan_clears (node_refusal false T) T.node_rows (λ j l. (λ e. e, λ e. e))) (
      λ p. record {
        tables = record {
          schema_held = p.0.0;
          proof_held = p.0.1.0;
          nodes_held = p.0.1.1.0;
          members_held = omega (arith, p.0.1.1.1);
          row_limit = p.1.0.0;
          node_limit = p.1.0.1.0;
          member_limit = p.1.0.1.1;
        };
        formulas = p.1.1.0.0;
        fresh = p.1.1.0.1;
        sets = p.1.1.1.0;
        parents = p.1.1.1.1.1.0;
        steps = p.1.1.1.1.1.1;
      },
      λ k.
          let t = k.tables in (
            (t.schema_held, (t.proof_held, (t.nodes_held, omega (arith, t.members_held)))),
            ((t.row_limit, (t.node_limit, t.member_limit)), ((k.formulas, k.fresh), (k.sets, (tt, (k.parents, k.steps))))),
          ),
    )
  where
    none_clears : no_refusal clears Unit {0}
    none_clears = (λ e. tt, λ u. refl)

-- ---- tables that hold some rows, 0 past them

-- a node of the first part of a table
pub node_at_take : (t : List ℤ) (n j : ℕ) → 9 * j + 8 < n → node_at (take n t) j ≡ node_at t j
unfolding node_at
node_at_take t n j h i = record {
  up = get_or-take n t (9 * j) (pos 0) (omega arith) i;
  rule = get_or-take n t (9 * j + 1) (pos 0) (omega arith) i;
  on = get_or-take n t (9 * j + 2) (pos 0) (omega arith) i;
  with = get_or-take n t (9 * j + 3) (pos 0) (omega arith) i;
  other = get_or-take n t (9 * j + 4) (pos 0) (omega arith) i;
  to = get_or-take n t (9 * j + 5) (pos 0) (omega arith) i;
  by = get_or-take n t (9 * j + 6) (pos 0) (omega arith) i;
  start = get_or-take n t (9 * j + 7) (pos 0) (omega arith) i;
  size = get_or-take n t (9 * j + 8) (pos 0) (omega arith) i;
}

-- what is held of a node
unfoldable pub written : NodeRow → ℕ → Node
written w m = record {
  up = w.up;
  rule = w.rule;
  on = w.on;
  with = w.with;
  other = w.other;
  to = w.to;
  by = w.by;
  start = pos m;
  size = pos (length w.members);
}

module _ (T : Tableau) (H : Holds T) where
  held_nodes : 9 * T.node_rows ≤ length T.nodes
  held_nodes = H.tables.nodes_held

  held_members : T.member_count ≤ length T.members
  held_members = H.tables.members_held

  module _ (w : NodeRow) (room : room_for T w ≡ true) where
    front : List ℤ
    front = take (9 * T.node_rows) T.nodes

    front_length : length front ≡ 9 * T.node_rows
    unfolding front
    front_length = length-take-le (9 * T.node_rows) T.nodes held_nodes

    pub added_old : (j : ℕ) → j < T.node_rows → node (added T w) j ≡ node T j
    unfolding node added holding padded front node_numbers
    added_old j h =
        node_at_front (front ++ node_numbers w T.member_count) _ j (omega (arith, front_length, length-append front (node_numbers w T.member_count)))
        ∙ node_at_front front _ j (omega (arith, front_length))
        ∙ node_at_take T.nodes (9 * T.node_rows) j (omega arith)

    pub added_new : node (added T w) T.node_rows ≡ written w T.member_count
    unfolding node added holding padded front node_numbers written numbers_of
    added_new =
        node_at_front (front ++ node_numbers w T.member_count) _ T.node_rows (omega (arith, front_length, length-append front (node_numbers w T.member_count)))
        ∙ node_at_next front T.node_rows (written w T.member_count) front_length

    kept : List ℤ
    kept = take T.member_count T.members

    kept_length : length kept ≡ T.member_count
    unfolding kept
    kept_length = length-take-le T.member_count T.members held_members

    -- the sets held are where they were
    pub added_set : (j : ℕ) → j < T.node_rows → set (added T w) j ≡ set T j
    unfolding set set_of added holding padded kept
    added_set j h =
        let a = nat (node T j).start in
        let c = nat (node T j).size in
        let l : a + c ≤ T.member_count = set_within T H.sets j h in
        ap (λ (v : Node). take (nat v.size) (drop (nat v.start) (added T w).members)) (added_old j h)
        ∙ slice_front (kept ++ w.members) _ a c (omega (arith, kept_length, length-append kept w.members))
        ∙ slice_front kept w.members a c (omega (arith, kept_length))
        ∙ slice_take T.members T.member_count a c l held_members

    -- the new one stands at the end
    pub added_last : set (added T w) T.node_rows ≡ w.members
    unfolding set set_of added holding padded kept written nat
    added_last =
        ap (λ (v : Node). take (nat v.size) (drop (nat v.start) (added T w).members)) added_new
        ∙ slice_front (kept ++ w.members) _ T.member_count (length w.members) (omega (arith, kept_length, length-append kept w.members))
        ∙ ap (take (length w.members)) (drop_at kept w.members T.member_count kept_length)
        ∙ take_all (length w.members) w.members (omega arith)

    pub added_alike : Alike T (added T w) T.node_rows
    unfolding added holding
    added_alike = record { schema = refl; schema_rows = refl; proof = refl; proof_rows = refl; root = refl; least = refl; node = added_old; set = added_set }
