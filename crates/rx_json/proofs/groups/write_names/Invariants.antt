use Rattle.std.proofs.Common.{[], drop, map}
use Rattle.rx_ast.specs.MirrorKinds.{mirror_kind}
use Rattle.rx_json.proofs.GroupsTold.{Telling, names_left}
use Rattle.rx_json.proofs.groups.write_names.Given as goal

abbrev pub invariant-loop-node : goal.invariant-loop-node
invariant-loop-node l = Telling l.fn.writer l.writer l.names (names_left [] (map mirror_kind l.nodes)) (map mirror_kind (drop l.node-index l.nodes))
