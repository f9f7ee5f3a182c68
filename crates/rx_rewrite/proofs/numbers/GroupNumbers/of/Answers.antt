use Rattle.rx_rewrite.proofs.Counting.{told_on, told_room}
use Rattle.rx_rewrite.proofs.numbers.GroupNumbers.of.Goals as goal

pub look_at-requires : goal.look_at-requires
look_at-requires c = told_room c.args.nodes.now c.loop-node.node-index c.node-item.result c.loop-node.numbers c.loop-node-test.true c.node-item.is c.loop-node.invariant c.requires

pub loop-node-preserved : goal.loop-node-preserved
loop-node-preserved c = told_on c.args.nodes.now c.loop-node.node-index c.node-item.result c.loop-node.numbers c.look_at.new.self c.in_ok-look_at.field-0 c.loop-node-test.true c.node-item.is c.loop-node.invariant c.in_ok-look_at.ensures
