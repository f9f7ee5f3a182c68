use Rattle.std.proofs.Common.{◌≡◌, ◌∙◌, map, refl, sym}
use Rattle.std.proofs.lemmas.Result.{IfOk-weaker}
use Rattle.rx_ast.specs.MirrorKinds.{mirror_kind}
use Rattle.rx_visit.specs.Names.{has_equal_names}
use Rattle.rx_visit.proofs.Alone.{refused_is}
use Rattle.rx_visit.proofs.patterns_in.has_unsupported_regular_expression_pattern_in.Goals as goal

pub returns-then-has_refused_alone : goal.returns-then-has_refused_alone
returns-then-has_refused_alone c =
    sym (refused_is c.args.unsupported.now _ _ _ _ _ _ c.in_ok-nodes.ensures c.as_slice-nodes.ensures c.has_refused_alone.ensures c.if-has_refused_alone.true refl)

pub returns-then-unsupported : goal.returns-then-unsupported
returns-then-unsupported c =
    let parts = refused_is c.args.unsupported.now _ _ _ _ _ _ c.in_ok-nodes.ensures c.as_slice-nodes.ensures c.has_refused_alone.ensures c.if-has_refused_alone.false c.if-unsupported.true in
    IfOk-weaker c.has_equal_names.result (λ found. found ≡ has_equal_names (map mirror_kind c.as_slice-nodes.result.now)) _ (λ found is. is ∙ sym parts) c.has_equal_names.ensures

pub returns : goal.returns
returns c = sym (refused_is c.args.unsupported.now _ _ _ _ _ _ c.in_ok-nodes.ensures c.as_slice-nodes.ensures c.has_refused_alone.ensures c.if-has_refused_alone.false c.if-unsupported.false)
