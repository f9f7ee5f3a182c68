use Rattle.std.proofs.Common.{◌≡◌}
use Rattle.std.specs.Str.{chars}
use Rattle.rx_places.specs.Places.{in_utf16}
use Rattle.rx_c.specs.Placed.{moved_node}
use Rattle.rx_c.proofs.Mapped.{mapped}
use Rattle.rx_c.proofs.units.move_to_utf16.Given as goal

abbrev pub invariant-loop-node : goal.invariant-loop-node
invariant-loop-node l = l.nodes ≡ mapped (moved_node (in_utf16 (chars l.places.text.now) l.places.offset)) l.node-index l.fn.nodes
