use Rattle.rx_json.specs.Values.{object_of}
use Rattle.rx_json.proofs.Adding.{adds_one}
use Rattle.rx_json_reply.proofs.Joining.{object_closed}
use Rattle.rx_json_reply.proofs.replies.write_reply.Goals as goal

pub returns : goal.returns
returns c =
    let begun = c.in_ok-is_ok.ensures in
    (object_of begun.0, begun.1, object_closed _ _ _ begun.0 begun.2 (adds_one c.in_ok-end_object.ensures))
