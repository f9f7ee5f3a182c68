use Rattle.std.proofs.Common.{refl}
use Rattle.rx_json.proofs.Adding.{adds_then}
use Rattle.rx_json.proofs.leaf.open_range.Goals as goal

pub returns : goal.returns
returns c =
    let min = adds_then _ _ _ _ _ c.in_ok-begin_node.ensures c.in_ok-write_character.ensures in
    (adds_then _ _ _ _ _ min c.in_ok-write_character-2.ensures, refl)
