use Prim.Native.Nat.{◌*◌}
use mathlib.Core.Path.{◌≡◌, sym, ◌∙◌, ap}
use mathlib.Core.Bool.{Bool, not}
use borrow.Author.Rules.{rules}
use borrow.Author.Tests.{not-true, not-false}
use lib.IntN.{pos}
use lib.ListN.{take}
use lib.Seq.{length-take-le}
use Rattle.stab.specs.Basic.{◌and◌, all_of, eq_z}
use Rattle.stab.specs.Node.{set_start}
use Rattle.stab.specs.Text.{five_digits}
use Rattle.stab.specs.Write.{rows_writable, nodes_writable, sets_writable}
use Rattle.stab.proofs.Bools.{and_first_false}
use Rattle.writing.proofs.Writings.{both_held, and_grouped, second_fails}
use Rattle.writing.proofs.proof_writable.Statement.{statement}
use Rattle.writing.proofs.proof_writable.Tie as tie

-- the three tests
abbrev Rows : tie.Start → Bool
Rows s = all_of five_digits (take (4 * s.args.rows) s.args.t.now)

abbrev Sets : tie.Start → Bool
Sets s = nodes_writable s.args.nodes.now s.args.count and eq_z (set_start s.args.nodes.now s.args.count) (pos s.args.m)

abbrev Members : tie.Start → Bool
Members s = all_of five_digits (take s.args.m s.args.members.now)

tests : (s : tie.Start) → (rows_writable 4 s.args.rows s.args.t.now and sets_writable s.args.nodes.now s.args.count s.args.members.now s.args.m)
    ≡ (Rows s and Sets s and Members s)
unfolding rows_writable sets_writable
tests s = and_grouped (Rows s) (nodes_writable s.args.nodes.now s.args.count) _ (Members s)

overflow_mul-numbers : tie.Need-overflow_mul-numbers
overflow_mul-numbers c = search rules

slice_bounds-writable-end : tie.Need-slice_bounds-writable-end
slice_bounds-writable-end c = sym (length-take-le (4 * c.args.rows) c.args.t.now c.requires.0)

writable-requires : tie.Need-writable-requires
writable-requires c κs = search rules

returns-then-not-writable : tie.Need-returns-then-not-writable
returns-then-not-writable c =
    sym (tests c.before.before ∙ and_first_false _ _ (sym c.writable.ensures ∙ not-true _ (ap not c.if-not-writable.true)))

nodes_follow-requires : tie.Need-nodes_follow-requires
nodes_follow-requires c κs = search rules

returns-then-not-nodes_follow : tie.Need-returns-then-not-nodes_follow
returns-then-not-nodes_follow c =
    sym (tests c.before.before.before.before ∙ second_fails (Rows c.before.before.before.before) (Sets c.before.before.before.before) (Members c.before.before.before.before) (sym c.nodes_follow.ensures ∙ not-true _ (ap not c.if-not-nodes_follow.true)))

slice_bounds-writable-end-2 : tie.Need-slice_bounds-writable-end-2
slice_bounds-writable-end-2 c =
    sym (length-take-le c.args.m c.args.members.now c.requires.3)

writable-requires-2 : tie.Need-writable-requires-2
writable-requires-2 c κs = search rules

returns : tie.Need-returns
returns c =
    c.writable-2.ensures
    ∙ sym
    (tests c.before.before.before.before.before
    ∙ both_held (Rows c.before.before.before.before.before) (Sets c.before.before.before.before.before) (Members c.before.before.before.before.before)
    (sym c.writable.ensures ∙ not-false _ (ap not c.if-not-writable.false))
    (sym c.nodes_follow.ensures ∙ not-false _ (ap not c.if-not-nodes_follow.false)))

pub proof_writable_spec : {M : Type 1} → statement M
proof_writable_spec =
    tie.close
    (tie.spec
    overflow_mul-numbers
    slice_bounds-writable-end
    writable-requires
    returns-then-not-writable
    nodes_follow-requires
    returns-then-not-nodes_follow
    slice_bounds-writable-end-2
    writable-requires-2
    returns)
