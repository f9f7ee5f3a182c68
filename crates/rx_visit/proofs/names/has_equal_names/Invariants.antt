use Rattle.std.proofs.Common.{map, take}
use Rattle.rx_ast.specs.MirrorKinds.{mirror_kind}
use Rattle.rx_visit.proofs.Named.{Holds}
use Rattle.rx_visit.proofs.names.has_equal_names.Given as goal

abbrev pub invariant-loop-node : goal.invariant-loop-node
invariant-loop-node l = Holds l.names (map mirror_kind (take l.node-index l.nodes))
