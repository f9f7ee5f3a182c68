use Rattle.rx_json.proofs.Adding.{adds_last, adds_one}
use Rattle.rx_json.proofs.leaf.begin_node.Goals as goal

pub returns : goal.returns
returns c = adds_last _ _ _ _ _ _ (adds_one c.in_ok-begin_object.ensures) (adds_last _ _ _ _ _ _ c.in_ok-write_text.ensures c.write_place.ensures)
