use Rattle.std.proofs.Common.{drop, map, take}
use Rattle.rx_ast.specs.MirrorKinds.{mirror_kind}
use Rattle.rx_rewrite.proofs.Counting.{IsToldTo}
use Rattle.rx_rewrite.proofs.numbers.GroupNumbers.of.Given as goal

abbrev pub invariant-loop-node : goal.invariant-loop-node
invariant-loop-node l = IsToldTo (map mirror_kind (take l.node-index l.nodes)) (map mirror_kind (drop l.node-index l.nodes)) (map mirror_kind l.nodes) l.numbers
