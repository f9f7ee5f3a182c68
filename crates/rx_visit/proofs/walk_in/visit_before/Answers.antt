use Rattle.std.proofs.Common.{ap, arith, length}
use Rattle.std.specs.List.{flat_map}
use Rattle.rx_ast.specs.Kinds.{order}
use Rattle.rx_ast.specs.MirrorKinds.{mirror_kind}
use Rattle.rx_visit.proofs.Orders.{length_from}
use Rattle.rx_visit.proofs.Steps.{begins_entered, begins_passed}
use Rattle.rx_visit.proofs.walk_in.visit_before.Goals as goal

pub returns-then-enter_node-clause-begins : goal.returns-then-enter_node-clause-begins
returns-then-enter_node-clause-begins g c = begins_entered c.args.following c.children_of.result c.args.node c.children_of.ensures c.if-enter_node.ensures

pub returns-then-enter_node-clause-lighter : goal.returns-then-enter_node-clause-lighter
returns-then-enter_node-clause-lighter g c =
    let sized = length_from (mirror_kind c.args.node) c.args.following in
    let same = ap (λ ks. length (flat_map order ks)) c.children_of.ensures in
    omega arith

pub returns-clause-begins : goal.returns-clause-begins
returns-clause-begins g c = begins_passed _ c.args.following c.if-enter_node.ensures c.leave_node.ensures

pub returns-clause-lighter : goal.returns-clause-lighter
returns-clause-lighter g c = let sized = length_from (mirror_kind c.args.node) c.args.following in omega arith
