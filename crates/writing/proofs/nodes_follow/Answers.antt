use Rattle.std.proofs.Common.{rules, arith, ◌≡◌, ◌∙◌, ◌+◌, ◌*◌, ◌<◌, sym, ap, refl, pos, get_or, w32, to_z, of_z}
use Rattle.signed.proofs.Signs.{nat_small}
use Rattle.stab.specs.Basic.{nat}
use Rattle.stab.specs.Node.{set_start}
use Rattle.stab.specs.Write.{nodes_writable}
use Rattle.stab.proofs.Bools.{and_left, and_first_false}
use Rattle.output.proofs.NodeRows.{nodes_not, nodes_more, step_start, ends_same}
use Rattle.writing.proofs.nodes_follow.Goals.{After-natural-start}
use Rattle.writing.proofs.nodes_follow.Goals as goal

pub loop-j-init : goal.loop-j-init
unfolding nodes_writable set_start
loop-j-init c = record { writable = refl; starts = refl; small = omega arith }

pub returns-then-not-node_follows : goal.returns-then-not-node_follows
returns-then-not-node_follows c =
    sym (and_first_false _ _ (nodes_not c.args.nodes.now c.args.count c.loop-j.j c.loop-j-test.true (sym c.node_follows.ensures ∙ c.if-not-node_follows.true)))

sized : (c : After-natural-start) → c.natural-start.result ≡ nat (get_or c.args.nodes.now (9 * c.loop-j.j + 8) (pos 0))
sized c =
    let z = get_or c.args.nodes.now (9 * c.loop-j.j + 8) (pos 0) in
    let same : to_z w32 (of_z w32 z) ≡ z = search rules in
    rw same at c.natural-start.ensures

small : (c : After-natural-start) → c.natural-start.result < 4294967296
small c = omega (arith, sized c, nat_small (get_or c.args.nodes.now (9 * c.loop-j.j + 8) (pos 0)) (search rules))

pub overflow_add-start : goal.overflow_add-start
overflow_add-start c = omega (arith, small c)

pub loop-j-preserved : goal.loop-j-preserved
loop-j-preserved c =
    let nodes = c.args.nodes.now in
    let l = c.loop-j in
    let passes = sym c.node_follows.ensures ∙ c.if-not-node_follows.false in
    record {
      writable = nodes_more nodes l.j l.invariant.writable passes;
      starts = step_start nodes l.j l.start (and_left _ _ passes) l.invariant.starts ∙ ap (λ n. pos (l.start + n)) (sym (sized c));
      small = omega (arith, small c, l.invariant.small);
    }

pub returns : goal.returns
returns c =
    let nodes = c.args.nodes.now in
    let l = c.loop-j in
    let all : l.j ≡ c.args.count = omega arith in
    ends_same nodes c.args.count l.start c.args.m (rw all at l.invariant.writable) (rw all at l.invariant.starts)
