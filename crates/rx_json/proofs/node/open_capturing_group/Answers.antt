use Rattle.rx_json.proofs.Adding.{adds_then}
use Rattle.rx_json.proofs.Openings.{opens_after}
use Rattle.rx_json.proofs.node.open_capturing_group.Goals as goal

pub returns : goal.returns
returns c = opens_after c.open_body.result _ _ _ _ _ _ (adds_then _ _ _ _ _ c.in_ok-begin_node.ensures c.in_ok-write_characters_or_null.ensures) c.open_body.ensures
