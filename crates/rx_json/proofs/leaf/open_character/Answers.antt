use Rattle.std.proofs.Common.{refl}
use Rattle.rx_json.proofs.Adding.{adds_then}
use Rattle.rx_json.proofs.leaf.open_character.Goals as goal

pub returns : goal.returns
returns c =
    let kind = adds_then _ _ _ _ _ c.in_ok-begin_node.ensures (rw c.character_kind.ensures at c.in_ok-write_text.ensures) in
    (adds_then _ _ _ _ _ kind (rw c.from.ensures at c.in_ok-write_number.ensures), refl)
