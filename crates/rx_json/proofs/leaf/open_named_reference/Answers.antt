use Rattle.std.proofs.Common.{refl}
use Rattle.rx_json.proofs.Adding.{adds_then}
use Rattle.rx_json.proofs.leaf.open_named_reference.Goals as goal

pub returns : goal.returns
returns c = (adds_then _ _ _ _ _ c.in_ok-begin_node.ensures c.in_ok-write_characters.ensures, refl)
