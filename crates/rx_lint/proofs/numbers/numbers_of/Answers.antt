use Rattle.std.proofs.Common.{map, subst}
use Rattle.std.proofs.lemmas.List.{take_all}
use Rattle.rx_ast.specs.MirrorKinds.{mirror_kind}
use Rattle.rx_visit.proofs.Walks.{taken}
use Rattle.rx_lint.specs.Rows.{AreNumbered}
use Rattle.rx_lint.proofs.NodeNumbers.{numbered_none, numbered_more}
use Rattle.rx_lint.proofs.numbers.numbers_of.Goals as goal

pub loop-node-init : goal.loop-node-init
loop-node-init c = numbered_none c.new-beginnings.ensures c.new-numbers.ensures

pub loop-node-preserved : goal.loop-node-preserved
loop-node-preserved c =
    numbered_more c.node-item.result _ (taken mirror_kind c.args.nodes.now c.loop-node.node-index c.node-item.result c.loop-node-test.true c.node-item.is) c.in_ok-push.ensures.ok c.len.ensures c.in_ok-push_node.ensures c.loop-node.invariant

pub returns : goal.returns
returns c = subst (λ ns. AreNumbered (map mirror_kind ns) c.loop-node.beginnings c.loop-node.numbers) (take_all _ _ c.loop-node-test.false) c.loop-node.invariant
