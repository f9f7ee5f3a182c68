use Rattle.std.proofs.Common.{[], ap, append-nil, ◌++◌, ◌∙◌, map}
use Rattle.rx_ast.specs.Kinds.{order, pattern}
use Rattle.rx_ast.specs.MirrorKinds.{mirror_kind}
use Rattle.rx_ast.specs.Tree.{mirror}
use Rattle.rx_visit.proofs.order.nodes_in_order.Goals as goal

pub returns : goal.returns
returns c =
    let whole = order (pattern (mirror c.args.pattern.now)) in
    c.in_ok-work_through.ensures ∙ ap (λ nodes. map mirror_kind nodes ++ (whole ++ [])) c.new-nodes.ensures ∙ append-nil whole
