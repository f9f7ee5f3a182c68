use Rattle.std.proofs.Common.{ap, ◌∙◌, ◌++◌}
use Rattle.rx_ast.specs.MirrorKinds.{mirror_kind}
use Rattle.rx_tasks.proofs.Texts.{goes_past}
use Rattle.rx_json.specs.Located.{located}
use Rattle.rx_json.specs.Openings.{closing}
use Rattle.rx_json.specs.Tasks.{inner, tree_tokens}
use Rattle.rx_json.proofs.Openings.{node_opens}
use Rattle.rx_json.proofs.tree.open.Goals as goal

pub returns-clause-text : goal.returns-clause-text
returns-clause-text c =
    let place = located c.args.places.now in
    let k = mirror_kind c.args.node in
    let nodes = ap (λ ks. tree_tokens place ks ++ closing c.in_ok-close.close) c.nodes_in-nodes.ensures.nodes in
    let closed = ap (λ it. tree_tokens place (inner k) ++ closing it) c.in_ok-close.ensures.1 in
    goes_past _ (node_opens place k) (nodes ∙ closed) c.in_ok-close.ensures.0
