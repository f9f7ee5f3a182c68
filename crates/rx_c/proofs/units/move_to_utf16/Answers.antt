use Rattle.std.proofs.Common.{◌∙◌, arith}
use Rattle.rx_c.proofs.Mapped.{mapped_all, mapped_more}
use Rattle.rx_c.proofs.units.move_to_utf16.Goals as goal

pub loop-node-preserved : goal.loop-node-preserved
loop-node-preserved c = mapped_more _ c.loop-node.node-index _ _ _ _ (omega arith) c.loop-node.invariant c.node_in_utf16.ensures

pub returns : goal.returns
returns c = c.loop-node.invariant ∙ mapped_all _ c.loop-node.node-index _ (omega arith)
