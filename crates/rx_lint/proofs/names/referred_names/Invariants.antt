use Rattle.std.proofs.Common.{map, take}
use Rattle.rx_ast.specs.MirrorKinds.{mirror_kind}
use Rattle.rx_lint.specs.Names.{HasNames}
use Rattle.rx_lint.proofs.names.referred_names.Given as goal

abbrev pub invariant-loop-node : goal.invariant-loop-node
invariant-loop-node l = HasNames l.names (map mirror_kind (take l.node-index l.nodes))
