use Rattle.std.proofs.Common.{◌+◌, arith, refl, ap, map}
use Rattle.rx_ast.specs.Size.{nodes_size, alternatives_size}
use Rattle.rx_ast.specs.Tree.{mirror_term, nodes}
use Rattle.rx_model.specs.Trees.Names.{nodes_groups, alternatives_groups}
use Rattle.rx_example.proofs.Parts.{first_alternative, popped_groups, popped_size}
use Rattle.rx_example.proofs.groups.open_alternatives.Goals as goal

pub returns-in_ok-push-2-clause-groups : goal.returns-in_ok-push-2-clause-groups
returns-in_ok-push-2-clause-groups c =
    let others = popped_groups _ _ _ c.in_ok-push.ensures.ok in
    let both = popped_groups _ _ _ c.in_ok-push-2.ensures.ok in
    let cut = first_alternative alternatives_groups nodes_groups (λ s ns more. refl) c.args.alternatives.now c.in-Some.first.now c.in-Some.rest.now c.in-Some.ensures.cases.0 in
    let body = ap (λ ts. nodes_groups (nodes (map mirror_term ts))) c.as_slice.ensures in
    omega arith

pub returns-in_ok-push-2-clause-size : goal.returns-in_ok-push-2-clause-size
returns-in_ok-push-2-clause-size c =
    let others = popped_size _ _ _ c.in_ok-push.ensures.ok in
    let both = popped_size _ _ _ c.in_ok-push-2.ensures.ok in
    let cut = first_alternative alternatives_size (λ ns. 1 + nodes_size ns) (λ s ns more. refl) c.args.alternatives.now c.in-Some.first.now c.in-Some.rest.now c.in-Some.ensures.cases.0 in
    let body = ap (λ ts. nodes_size (nodes (map mirror_term ts))) c.as_slice.ensures in
    omega arith
