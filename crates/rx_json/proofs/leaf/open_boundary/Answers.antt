use Rattle.std.proofs.Common.{refl}
use Rattle.rx_json.proofs.Adding.{adds_then}
use Rattle.rx_json.proofs.leaf.open_boundary.Goals as goal

pub returns : goal.returns
returns c = (adds_then _ _ _ _ _ c.in_ok-begin_node.ensures (rw c.boundary_kind.ensures at c.in_ok-write_text.ensures), refl)
