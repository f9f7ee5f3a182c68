use Rattle.std.proofs.Common.{refl}
use Rattle.rx_json.proofs.Adding.{adds_then}
use Rattle.rx_json.proofs.leaf.open_property.Goals as goal

pub returns : goal.returns
returns c =
    let negative = adds_then _ _ _ _ _ c.in_ok-begin_node.ensures c.in_ok-write_truth.ensures in
    let strings = adds_then _ _ _ _ _ negative c.in_ok-write_truth-2.ensures in
    let name = adds_then _ _ _ _ _ strings c.in_ok-write_characters.ensures in
    (adds_then _ _ _ _ _ name c.in_ok-write_characters_or_null.ensures, refl)
