use Rattle.rx_ast.proofs.ClassEquations.{class_is}
use Rattle.rx_json.proofs.Adding.{adds_then}
use Rattle.rx_json.proofs.Openings.{opens_after}
use Rattle.rx_json.proofs.node.open_class.Goals as goal

pub returns : goal.returns
returns c =
    let negative = adds_then _ _ _ _ _ c.in_ok-begin_node.ensures c.in_ok-write_truth.ensures in
    let strings = adds_then _ _ _ _ _ negative c.in_ok-write_truth-2.ensures in
    let kind = adds_then _ _ _ _ _ strings (rw c.contents_kind.ensures at c.in_ok-write_text.ensures) in
    rw (class_is c.args.it.now) (opens_after c.open_list.result _ _ _ _ _ _ kind c.open_list.ensures)
