use Rattle.std.proofs.Common.{arith}
use Rattle.tidied.specs.Tidied.{new_number}
use Rattle.tidy.proofs.Nodes.{tidies_none}
use Rattle.tidy.proofs.each_node.Goals as goal

pub loop-j-init : goal.loop-j-init
loop-j-init c =
    let a = c.args in
    record { tidies = tidies_none a.nodes.now a.members.now (new_number a.s a.numbers.now) a.out_nodes.now a.out_members.now; few = omega arith }
