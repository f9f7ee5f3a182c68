use Rattle.std.proofs.Common.{◌≡◌, drop, map}
use Rattle.rx_ast.specs.ClassTree.{members, mirror_contents}
use Rattle.rx_tools.specs.Leaves.{are_flat}
use Rattle.rx_tools.proofs.class.is_flat.Given as goal

abbrev pub invariant-loop-contents : goal.invariant-loop-contents
invariant-loop-contents l = are_flat (members (map mirror_contents l.all_contents)) ≡ are_flat (members (map mirror_contents (drop l.contents-index l.all_contents)))
