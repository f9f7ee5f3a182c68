use Rattle.rx_json.proofs.Adding.{adds_then}
use Rattle.rx_json.proofs.Openings.{opens_after}
use Rattle.rx_json.proofs.node.open_look_around.Goals as goal

pub returns : goal.returns
returns c =
    let kind = rw c.look_kind.ensures at c.in_ok-write_text.ensures in
    opens_after c.open_body.result _ _ _ _ _ _ (adds_then _ _ _ _ _ c.in_ok-begin_node.ensures kind) c.open_body.ensures
