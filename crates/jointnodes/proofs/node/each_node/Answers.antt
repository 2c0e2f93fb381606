use Rattle.std.proofs.Common.{arith}
use Rattle.tidied.specs.Tidied.{new_number}
use Rattle.jointnodes.proofs.Nodes.{puts_none, puts_more}
use Rattle.jointnodes.proofs.node.each_node.Goals as goal

pub loop-j-init : goal.loop-j-init
loop-j-init c =
    let a = c.args in
    record {
      puts = puts_none a.nodes.now a.members.now (new_number 0 a.numbers.now) a.d a.m a.out_nodes.now a.out_members.now;
      few = omega (arith, c.requires.k_bound);
    }

pub loop-j-preserved : goal.loop-j-preserved
loop-j-preserved c =
    let a = c.args in
    let l = c.loop-j in
    record {
      puts = puts_more a.nodes.now a.members.now (new_number 0 a.numbers.now) a.d a.m a.out_nodes.now a.out_members.now l.j l.n _ _ _ _ _ l.invariant.puts c.one_node-n.ensures.0;
      few = omega (arith, c.one_node-n.ensures.1);
    }
