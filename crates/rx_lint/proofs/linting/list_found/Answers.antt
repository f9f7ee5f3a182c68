use Rattle.std.proofs.Common.{ap, ◌∙◌, ◌++◌, filter, map}
use Rattle.rx_ast.specs.MirrorKinds.{mirror_kind}
use Rattle.rx_lint.specs.Findings.{rules}
use Rattle.rx_lint.specs.NodeFindings.{holds_by}
use Rattle.rx_lint.proofs.PlaceFindings.{listed}
use Rattle.rx_lint.proofs.linting.list_found.Goals as goal

pub returns : goal.returns
returns c = λ p referred.
    let h = holds_by p c.args.mark (mirror_kind c.args.node) in
    listed h c.span-span.result _ _ _ _ _ _ _ _ _ _ _ _ _ c.in_ok-list_if.ensures c.in_ok-list_if-2.ensures c.in_ok-list_if-3.ensures c.in_ok-list_if-4.ensures c.in_ok-list_if-5.ensures c.in_ok-list_if-6.ensures
    c.is_empty_class.ensures c.is_repeated_item.ensures c.is_empty_of_many.ensures c.is_repeated_alternative.ensures (c.is_unused.ensures p referred) c.is_once.ensures
    ∙ ap (λ s. c.args.findings.now ++ map (λ rule. record { rule = rule; span = s }) (filter h rules)) c.span-span.ensures
