use Rattle.std.proofs.Common.{◌≡◌, drop, map}
use Rattle.rx_ast.specs.MirrorKinds.{mirror_kind}
use Rattle.rx_rewrite.specs.KeptModifiers.{first_left}
use Rattle.rx_rewrite.proofs.kept_modifiers.first_left.Given as goal

abbrev pub invariant-loop-node : goal.invariant-loop-node
invariant-loop-node l = first_left (map mirror_kind l.nodes) ≡ first_left (map mirror_kind (drop l.node-index l.nodes))
