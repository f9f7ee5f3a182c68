use Rattle.std.proofs.Common.{map, take}
use Rattle.rx_ast.specs.MirrorKinds.{mirror_kind}
use Rattle.rx_lint.specs.Rows.{AreNumbered}
use Rattle.rx_lint.proofs.numbers.numbers_of.Given as goal

abbrev pub invariant-loop-node : goal.invariant-loop-node
invariant-loop-node l = AreNumbered (map mirror_kind (take l.node-index l.nodes)) l.beginnings l.numbers
