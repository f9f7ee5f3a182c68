use Rattle.std.proofs.Common.{arith, refl}
use Rattle.rx_ast.specs.Size.{node_size, nodes_size}
use Rattle.rx_model.specs.Trees.Names.{node_groups, nodes_groups}
use Rattle.rx_example.proofs.Parts.{first_term, popped_groups, popped_size}
use Rattle.rx_example.proofs.groups.open_terms.Goals as goal

pub returns-clause-groups : goal.returns-clause-groups
returns-clause-groups c =
    let others = popped_groups _ _ _ c.in_ok-push.ensures.ok in
    let cut = first_term nodes_groups node_groups (λ n ns. refl) c.args.terms.now c.in-Some.first.now c.in-Some.rest.now c.in-Some.ensures.cases.0 in
    let own = c.in_ok-own.ensures.groups in
    omega arith

pub returns-clause-size : goal.returns-clause-size
returns-clause-size c =
    let others = popped_size _ _ _ c.in_ok-push.ensures.ok in
    let cut = first_term nodes_size node_size (λ n ns. refl) c.args.terms.now c.in-Some.first.now c.in-Some.rest.now c.in-Some.ensures.cases.0 in
    let own = c.in_ok-own.ensures.size in
    omega arith
