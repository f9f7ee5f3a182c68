use Rattle.std.proofs.Common.{◌≡◌, refl, ap, sym, subst, arith, ◌++◌, length}
use Rattle.rx_ast.specs.MirrorKinds.{mirror_kind}
use Rattle.rx_visit.specs.Siblings.{in_order}
use Rattle.rx_records.specs.declared.records.Records.{Records}
use Rattle.rx_kinds.specs.Inner.{node_of}
use Rattle.rx_records.specs.Made.{Adds, Shortens, task_nodes}
use Rattle.rx_records.specs.Records.{all_nodes, nodes_of}
use Rattle.rx_records.proofs.Made.{with_end_leads, fewer_follow, first_cut, first_length, is_one, node_turn, opened_leads, shortens_by, shortens_none, shortens_then}
use Rattle.rx_records.proofs.walk.add_nodes.Goals as goal

pub loop-first-init : goal.loop-first-init
loop-first-init c = record { shortens = shortens_none _ _; lighter = omega arith }

pub loop-first-preserved : goal.loop-first-preserved
loop-first-preserved c =
    let added : Adds c.loop-first.made c.add_if_leaf.new.made (nodes_of (mirror_kind c.in-Some.first)) = rw c.in_default-2.is at c.in_ok-node.ensures in
    let fewer = fewer_follow _ _ _ c.in-Some.ensures in
    record {
      shortens = node_turn c.args.made.now _ _ _ (in_order c.loop-first.rest) _ _ c.in-Some.ensures c.loop-first.invariant.shortens added;
      lighter = omega (arith, c.loop-first.invariant.lighter);
    }

pub returns-in-Some-2-clause-leads : goal.returns-in-Some-2-clause-leads
returns-in-Some-2-clause-leads c =
    let k = mirror_kind c.in-Some-2.node in
    let told : (c.add_if_leaf.new.made ≡ c.loop-first.made) × (k ≡ node_of (mirror_kind c.in-Some.first)) = rw c.in-Some-2.is at c.in_ok-node.ensures in
    let cut = first_cut _ _ k _ c.in-Some.ensures told.1 in
    let front = shortens_then c.loop-first.invariant.shortens (shortens_by cut (shortens_none _ _)) in
    let at = λ (made : Records). Shortens c.args.made.now made (task_nodes c.args.task) (nodes_of k ++ all_nodes (in_order c.in-Some.following)) in
    opened_leads c.args.task _ _ c.args.made.now c.add_if_leaf.new.made _ k _ (is_one _ k told.1) (subst at (sym told.0) front) c.in_ok-inner.ensures.node c.in_ok-inner.ensures.of
    c.in_ok-inner.ensures.rest refl refl

pub returns-in-Some-2-clause-lighter : goal.returns-in-Some-2-clause-lighter
returns-in-Some-2-clause-lighter c =
    let k = mirror_kind c.in-Some-2.node in
    let told : (c.add_if_leaf.new.made ≡ c.loop-first.made) × (k ≡ node_of (mirror_kind c.in-Some.first)) = rw c.in-Some-2.is at c.in_ok-node.ensures in
    let cut = first_length _ _ k _ c.in-Some.ensures told.1 in
    let within = ap (λ ks. length (all_nodes ks)) c.in_ok-inner.ensures.rest in
    omega (arith, c.loop-first.invariant.lighter)

pub returns-clause-leads : goal.returns-clause-leads
returns-clause-leads c =
    with_end_leads c.args.task c.args.made.now c.loop-first.made _ (in_order c.loop-first.rest) c.in_default.ensures c.loop-first.invariant.shortens c.in_ok-end.ensures.nodes c.in_ok-end.ensures.groups c.in_ok-end.ensures.texts
