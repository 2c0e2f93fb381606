use Rattle.std.proofs.Common.{arith, ◌∙◌, ◌+◌, ◌-◌, ◌++◌, ap, refl, length, take, drop}
use Rattle.std.proofs.lemmas.List.{length_push}
use Rattle.stab.specs.Node.{set_start}
use Rattle.stab.specs.Text.{row_line}
use Rattle.stab.specs.Write.{node_lines}
use Rattle.digits.specs.Over.{over}
use Rattle.digits.proofs.Overs.{over_none, Room, lent_start, lent_room, lent_over, lent_count, count_fits}
use Rattle.output.proofs.Chunks.{NextRow, next_row}
use Rattle.output.proofs.NodeRows.{NextNode, next_node, nodes_part}
use Rattle.output.proofs.put_nodes.Goals.{After-natural_at}
use Rattle.output.proofs.put_nodes.Goals as goal

pub loop-row-init : goal.loop-row-init
unfolding node_lines set_start
loop-row-init c = record {
  can_next = grind arith;
  finite = tt;
  within = omega arith;
  written = over_none c.args.out.now;
  ends = refl;
  starts = refl;
  width = grind arith;
  left = grind arith;
}

-- the row of this turn
next : (c : After-natural_at) → let a = c.args in NextRow 9 a.nodes.now a.count (length c.loop-row.yielded) c.in-Some.row.now c.next.new.self.rest.now
next c =
    let a = c.args in
    let l = c.loop-row in
    let one = c.in-Some.ensures.steps.1 in
    next_row 9 a.nodes.now a.count (omega arith) c.requires.0.held (length l.yielded) l.invariant.within l.row-iterator.rest.now l.invariant.left
    c.in-Some.row.now c.next.new.self.rest.now one.0 (one.1 ∙ l.invariant.width)

node : (c : After-natural_at) → let a = c.args in let l = c.loop-row in
    NextNode a.nodes.now a.members.now (length l.yielded) c.in-Some.row.now l.start c.natural_at.result
node c =
    let a = c.args in
    let l = c.loop-row in
    next_node a.nodes.now a.members.now a.count c.requires.0 (length l.yielded) c.in-Some.row.now c.next.new.self.rest.now (next c)
    l.start l.invariant.starts c.natural_at.result c.natural_at.ensures.0

room : (c : After-natural_at) → let a = c.args in let l = c.loop-row in let s = l.start in
    Room (node_lines a.nodes.now a.members.now 0 (length l.yielded)) (row_line (take 7 c.in-Some.row.now ++ take (s + c.natural_at.result - s) (drop s a.members.now))) a.out.now l.out l.at
room c =
    let a = c.args in
    let l = c.loop-row in
    record {
      is = l.invariant.written;
      ends = l.invariant.ends;
      fits = omega (arith, ap length (node c).lines, nodes_part a.nodes.now a.members.now (length l.yielded + 1) a.count (omega (arith, (next c).less)), c.requires.1);
    }

pub overflow_add-end : goal.overflow_add-end
overflow_add-end c = omega (arith, (node c).inside)

pub slice_bounds-put_node-count : goal.slice_bounds-put_node-count
slice_bounds-put_node-count c = lent_start (room c)

pub slice_bounds-put_node-start : goal.slice_bounds-put_node-start
slice_bounds-put_node-start c = lent_start (room c)

pub offset_bounds-members-start : goal.offset_bounds-members-start
offset_bounds-members-start c = omega (arith, (node (goal.at.offset_bounds-members-start c).After-natural_at).inside)

pub slice_bounds-put_node-end-in-loop-row-2 : goal.slice_bounds-put_node-end-in-loop-row-2
slice_bounds-put_node-end-in-loop-row-2 c = omega (arith, (node (goal.at.slice_bounds-put_node-end-in-loop-row-2 c).After-natural_at).inside)

pub put_node-at-requires : goal.put_node-at-requires
put_node-at-requires c =
    let s = (goal.at.put_node-at-requires c).After-natural_at in
    (record { some = omega (arith, (node s).wide); digits = (node s).digits }, (node s).set_digits, lent_room (room s))

pub overflow_add-at : goal.overflow_add-at
overflow_add-at c = count_fits (room (goal.at.overflow_add-at c).After-natural_at) c.put_node-at.ensures.0 (omega arith)

pub loop-row-preserved : goal.loop-row-preserved
loop-row-preserved c =
    let s = (goal.at.loop-row-preserved c).After-natural_at in
    rw (length_push c.loop-row.yielded c.in-Some.row) record {
      can_next = grind arith;
      finite = tt;
      within = omega (arith, (next s).less);
      written = lent_over (room s) c.put_node-at.ensures.1 ∙ ap (λ x. over x c.args.out.now) (node s).lines;
      ends = lent_count (room s) c.put_node-at.ensures.0 ∙ ap length (node s).lines;
      starts = (node s).starts;
      width = grind arith;
      left = (next s).left;
    }
