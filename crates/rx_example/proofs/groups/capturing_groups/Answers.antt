use Rattle.std.proofs.Common.{arith, ap, ◌∙◌, map}
use Rattle.rx_ast.specs.Tree.{alternatives, mirror_alternative}
use Rattle.rx_model.specs.Trees.Names.{alternatives_groups}
use Rattle.rx_example.specs.Parts.{waiting_groups}
use Rattle.rx_example.proofs.Parts.{groups_of_disjunction, popped_groups, popped_size, waiting_groups-nil}
use Rattle.rx_example.proofs.groups.capturing_groups.Goals as goal

pub loop-part-init : goal.loop-part-init
loop-part-init c =
    let first = popped_groups _ _ _ c.in_ok-push.ensures.ok in
    let none = ap waiting_groups c.new-waiting.ensures ∙ waiting_groups-nil in
    let body = ap (λ as'. alternatives_groups (alternatives (map mirror_alternative as'))) c.as_slice.ensures in
    let all = groups_of_disjunction c.args.pattern.now.body in
    omega arith

pub overflow_add-count : goal.overflow_add-count
overflow_add-count c =
    let popped = popped_groups _ _ _ c.in-Some.ensures in
    let kept = c.loop-part.invariant in
    let own = c.in_ok-count.ensures.groups in
    let few = c.requires in
    omega arith

pub loop-part-smaller : goal.loop-part-smaller
loop-part-smaller c =
    let popped = popped_size _ _ _ c.in-Some.ensures in
    let opened = c.in_ok-count.ensures.size in
    omega arith

pub loop-part-preserved : goal.loop-part-preserved
loop-part-preserved c =
    let popped = popped_groups _ _ _ c.in-Some.ensures in
    let kept = c.loop-part.invariant in
    let own = c.in_ok-count.ensures.groups in
    omega arith

pub returns : goal.returns
returns c =
    let none = ap waiting_groups c.in_default.ensures.0 ∙ waiting_groups-nil in
    let kept = c.loop-part.invariant in
    omega arith
