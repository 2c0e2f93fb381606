use Rattle.jointnodes.specs.Kept.{both_sets}
use Rattle.jointnodes.proofs.Nodes.{both_counted, both_rows_lem, both_sets_lem}
use Rattle.tidied.specs.Tidied.{new_number}
use Rattle.signed.proofs.Tables.{cleared_padded}
use Rattle.stab.proofs.Bools.{if_true, if_false}
use Rattle.stab.specs.Text.{padded}
use lib.ListN.{length}
use lib.IntN.{pos}
use mathlib.Core.List.{[]}
use mathlib.Core.Path.{◌≡◌, sym, ◌∙◌, ap}
use Prim.Native.Nat.{◌+◌, ◌*◌}
use native.Mathlib.Omega.{arith}
use borrow.Author.Tests.{le-leb, lt-leb}
use borrow.Author.Rules.{rules}
use Rattle.jointnodes.proofs.fill_nodes.Statement.{statement}
use Rattle.jointnodes.proofs.fill_nodes.Tie as tie

-- where all nodes are put
abbrev start : tie.After-each_node-n → tie.Start
start c = c.before.before.before.before.before.before.before.before.before.before.before.before.before.before.before

node_lengths : (c : tie.After-each_node-n) → length c.each_node-n.new.out_nodes ≡ length (start c).args.out_nodes.now
node_lengths c =
    c.each_node-n.auto.out_nodes ∙ c.each_node-m.auto.out_nodes ∙ c.put_first.auto.out_nodes

member_lengths : (c : tie.After-each_node-n) → length c.each_node-n.new.out_members ≡ length (start c).args.out_members.now
member_lengths c =
    c.each_node-n.auto.out_members ∙ c.each_node-m.auto.out_members ∙ c.put_first.auto.out_members

counted : (c : tie.After-each_node-n) →
    let a = (start c).args in
    c.each_node-n.result ≡ length (both_sets a.or_row a.first_nodes.now a.first_members.now (new_number 0 a.first_numbers.now) a.first_node_rows a.second_nodes.now a.second_members.now (new_number 0 a.second_numbers.now) a.second_node_rows)
counted c =
    let a = (start c).args in
    both_counted a.or_row a.first_nodes.now a.first_members.now (new_number 0 a.first_numbers.now) a.first_node_rows a.second_nodes.now a.second_members.now (new_number 0 a.second_numbers.now) a.second_node_rows _ _ _ _ _ _ _ _ c.each_node-m.ensures.0 c.each_node-n.ensures.0

put_first-requires : tie.Need-put_first-requires
put_first-requires c κs = search rules

each_node-m-requires : tie.Need-each_node-m-requires
each_node-m-requires c κs =
    ((omega (arith, c.requires.0.1), omega arith, omega (arith, c.put_first.auto.out_nodes, c.requires.0.2), omega (arith, c.put_first.auto.out_members, c.requires.0.3), c.requires.0.4), c.requires.1.0)

overflow_add-d : tie.Need-overflow_add-d
overflow_add-d c = search rules

each_node-n-requires : tie.Need-each_node-n-requires
each_node-n-requires c κs =
    let same = c.each_node-m.auto in
    ((omega (arith, c.requires.0.1), c.each_node-m.ensures.1, omega (arith, same.out_nodes, c.put_first.auto.out_nodes, c.requires.0.2), omega (arith, same.out_members, c.put_first.auto.out_members, c.requires.0.3), c.requires.0.5), c.requires.1.1)

overflow_add-d-then-n-le8192 : tie.Need-overflow_add-d-then-n-le8192
overflow_add-d-then-n-le8192 c = search rules

overflow_mul-d : tie.Need-overflow_mul-d
overflow_mul-d c = search rules

clear-requires : tie.Need-clear-requires
clear-requires c κs = search rules

clear-requires-then-n-le8192 : tie.Need-clear-requires-then-n-le8192
clear-requires-then-n-le8192 c κs = search rules

clear-requires-else-n-le8192 : tie.Need-clear-requires-else-n-le8192
clear-requires-else-n-le8192 c κs = search rules

clear-requires-else-n-le8192-2 : tie.Need-clear-requires-else-n-le8192-2
clear-requires-else-n-le8192-2 c κs = search rules

shape_of-out_nodes-then-n-le8192 : tie.Need-shape_of-out_nodes-then-n-le8192
shape_of-out_nodes-then-n-le8192 c = search rules

shape_of-out_members-then-n-le8192 : tie.Need-shape_of-out_members-then-n-le8192
shape_of-out_members-then-n-le8192 c = search rules

returns-then-n-le8192 : tie.Need-returns-then-n-le8192
returns-then-n-le8192 c =
    let h = c.if-n-le8192.true in
    let q = node_lengths c.before.before.before.before.before.before.before.before.before in
    let b = start c.before.before.before.before.before.before.before.before.before in
    let a = b.args in (
      counted c.before.before.before.before.before.before.before.before.before,
      (
        c.clear.ensures
            ∙ cleared_padded _ (9 * (1 + a.first_node_rows + a.second_node_rows)) (length a.out_nodes.now) (omega (arith, b.requires.0.1, b.requires.0.2, q)) q
            ∙ ap (padded (pos 0) (length a.out_nodes.now))
            (both_rows_lem a.or_row a.first_nodes.now a.first_members.now (new_number 0 a.first_numbers.now) a.first_node_rows a.second_nodes.now a.second_members.now (new_number 0 a.second_numbers.now) a.second_node_rows _ _ _ _ _ _ _ _ c.each_node-m.ensures.0 c.each_node-n.ensures.0 h c.put_first.ensures.0 ∙ sym (if_true _ _ [] (le-leb _ 8192 h))),
        c.clear-then-n-le8192.ensures
            ∙ cleared_padded _ c.each_node-n.result (length a.out_members.now) (omega (arith, h, b.requires.0.3, member_lengths c.before.before.before.before.before.before.before.before.before)) (member_lengths c.before.before.before.before.before.before.before.before.before)
            ∙ ap (padded (pos 0) (length a.out_members.now))
            (both_sets_lem a.or_row a.first_nodes.now a.first_members.now (new_number 0 a.first_numbers.now) a.first_node_rows a.second_nodes.now a.second_members.now (new_number 0 a.second_numbers.now) a.second_node_rows _ _ _ _ _ _ _ _ c.each_node-m.ensures.0 c.each_node-n.ensures.0 h c.put_first.ensures.1 ∙ sym (if_true _ _ [] (le-leb _ 8192 h))),
      ),
    )

shape_of-out_nodes-else-n-le8192 : tie.Need-shape_of-out_nodes-else-n-le8192
shape_of-out_nodes-else-n-le8192 c = search rules

shape_of-out_members-else-n-le8192 : tie.Need-shape_of-out_members-else-n-le8192
shape_of-out_members-else-n-le8192 c = search rules

returns-else-n-le8192 : tie.Need-returns-else-n-le8192
returns-else-n-le8192 c =
    let a = (start c.before.before.before.before.before.before.before.before.before).args in
    let many = lt-leb _ 8192 c.if-n-le8192.false in (
      counted c.before.before.before.before.before.before.before.before.before,
      (
        c.clear-else-n-le8192.ensures ∙ cleared_padded _ 0 (length a.out_nodes.now) (omega arith) (node_lengths c.before.before.before.before.before.before.before.before.before) ∙ ap (padded (pos 0) (length a.out_nodes.now)) (sym (if_false _ _ [] many)),
        c.clear-else-n-le8192-2.ensures ∙ cleared_padded _ 0 (length a.out_members.now) (omega arith) (member_lengths c.before.before.before.before.before.before.before.before.before) ∙ ap (padded (pos 0) (length a.out_members.now)) (sym (if_false _ _ [] many)),
      ),
    )

pub fill_nodes_spec : {M : Type 1} → statement M
fill_nodes_spec =
    tie.close
    (tie.spec
    put_first-requires
    each_node-m-requires
    overflow_add-d
    each_node-n-requires
    overflow_add-d-then-n-le8192
    overflow_mul-d
    clear-requires
    clear-requires-then-n-le8192
    clear-requires-else-n-le8192
    clear-requires-else-n-le8192-2
    shape_of-out_nodes-then-n-le8192
    shape_of-out_members-then-n-le8192
    returns-then-n-le8192
    shape_of-out_nodes-else-n-le8192
    shape_of-out_members-else-n-le8192
    returns-else-n-le8192)
