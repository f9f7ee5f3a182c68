use Rattle.std.proofs.Common.{map, subst, sym, take, ◌+◌}
use Rattle.rx_ast.specs.MirrorKinds.{mirror_kind}
use Rattle.rx_visit.proofs.Walks.{taken}
use Rattle.rx_lint.specs.Names.{HasNames}
use Rattle.rx_lint.proofs.NamesHeld.{reference_more, other_more}
use Rattle.rx_lint.proofs.names.referred_names.Goals as goal
use Rattle.rx_lint.proofs.names.referred_names.Goals.{in-NamedReference+in_ok-insert, in_default}

pub loop-node-preserved : goal.loop-node-preserved
loop-node-preserved c =
    let node = c.node-item.result in
    let so_far = map mirror_kind (take (c.loop-node.node-index + 1) c.args.nodes.now) in
    let one_more = taken mirror_kind c.args.nodes.now c.loop-node.node-index node c.loop-node-test.true c.node-item.is in
    elim c.match-node.branch [
      | in-NamedReference+in_ok-insert w ↦
          subst (λ names. HasNames names so_far) (sym w.names-is) (reference_more node w.in-NamedReference.it w.as_str.result one_more w.in-NamedReference.is w.as_str.ensures w.as_str.utf8 w.in_ok-insert.ensures.updates c.loop-node.invariant)
      | in_default w ↦ subst (λ names. HasNames names so_far) (sym w.names-is) (other_more node one_more w.in_default.not-NamedReference c.loop-node.invariant)
    ]
