use Rattle.std.proofs.Common.{append-nil}
use Rattle.json.specs.Tree.{json_tokens}
use Rattle.rx_json.specs.Values.{number_or_null}
use Rattle.rx_json.proofs.Adding.{adds_then}
use Rattle.rx_json.proofs.Openings.{opens_after}
use Rattle.rx_json.proofs.node.open_quantifier.Goals as goal

pub returns : goal.returns
returns c =
    let min = adds_then _ _ _ _ _ c.in_ok-begin_node.ensures c.in_ok-write_number.ensures in
    let max = adds_then _ _ _ _ _ min (rw (append-nil (json_tokens (number_or_null c.args.it.now.max))) at c.in_ok-write_number_or_null.ensures) in
    opens_after c.open_body.result _ _ _ _ _ _ (adds_then _ _ _ _ _ max c.in_ok-write_truth.ensures) c.open_body.ensures
