use Rattle.std.proofs.Common.{ap, arith, sym, append-nil, [], ◌∷◌, ◌++◌, ◌∙◌, length, map}
use Rattle.std.specs.List.{flat_map}
use Rattle.rx_ast.specs.Kinds.{order}
use Rattle.rx_ast.specs.MirrorKinds.{mirror_kind}
use Rattle.std.proofs.lemmas.List.{map-append}
use Rattle.rx_tasks.specs.declared.next.Next.TheVariants.{Two}
use Rattle.rx_tasks.proofs.Texts.{leads_written}
use Rattle.rx_tasks.proofs.Turns.{leads_done}
use Rattle.rx_visit.specs.Orders.{all_in_order}
use Rattle.rx_visit.proofs.Orders.{composes, first_in_order, first_length}
use Rattle.rx_visit.proofs.order.SiblingsWorkListRegExpAstKind.work.Goals as goal

pub returns-in_default-clause-leads : goal.returns-in_default-clause-leads
returns-in_default-clause-leads c =
    let nodes = map mirror_kind c.args.nodes.now in
    leads_done (sym (append-nil nodes) ∙ ap (λ ks. nodes ++ flat_map order ks) (sym c.in_default.ensures))

pub returns-clause-leads : goal.returns-clause-leads
returns-clause-leads c =
    let cut = first_in_order c.args.self c.in-Some.following _ c.in-Some.ensures c.children_of.result c.children_of.ensures in
    let listed = ap (map mirror_kind) c.in_ok-push.ensures.ok ∙ map-append mirror_kind c.args.nodes.now (c.in-Some.node ∷ []) in
    leads_written all_in_order _ (Two c.children_of.result c.in-Some.following) composes (sym (append-nil _)) (record { front = mirror_kind c.in-Some.node ∷ []; cut = cut; written = listed })

pub returns-clause-lighter : goal.returns-clause-lighter
returns-clause-lighter c =
    let sized = first_length c.args.self c.in-Some.following _ c.in-Some.ensures in
    let same = ap (λ ks. length (flat_map order ks)) c.children_of.ensures in
    omega arith
