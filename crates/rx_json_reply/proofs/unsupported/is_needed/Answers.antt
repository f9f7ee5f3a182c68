use Rattle.std.proofs.Common.{◌≡◌, ◌∙◌, sym, ap, false, ◌||◌}
use Rattle.std.proofs.lemmas.Result.{IfOk-weaker}
use Rattle.rx_ast.specs.Kinds.{order, pattern as pattern_kind}
use Rattle.rx_ast.specs.Tree.{mirror}
use Rattle.rx_visit.specs.Flags.{are_refused_flags}
use Rattle.rx_command.specs.declared.features.Features.{Features}
use Rattle.rx_command.specs.Features.{needs_feature}
use Rattle.rx_json_reply.specs.Alone.{alone}
use Rattle.rx_json_reply.specs.Parts.{is_needed}
use Rattle.rx_json_reply.proofs.unsupported.is_needed.Goals as goal

pub returns : goal.returns
returns c =
    let letters = c.args.letters.now in
    let nodes = order (pattern_kind (mirror c.args.pattern.now)) in
    let set = c.features_of-alone.result in
    let called = c.has_unsupported_regular_expression_flags in
    let refused : are_refused_flags set.flags letters ≡ false = cc (called.ensures, c.if-has_unsupported_regular_expression_flags.false, c.if-has_unsupported_regular_expression_flags.ensures) in
    let flags_alone : are_refused_flags (alone c.args.feature).flags letters ≡ false = ap (λ (set : Features). are_refused_flags set.flags letters) (sym c.features_of-alone.ensures) ∙ refused in
    IfOk-weaker c.are_needed.result (λ n. n ≡ needs_feature set nodes) (λ n. n ≡ is_needed letters nodes c.args.feature)
    (λ n e. e ∙ ap (λ (set : Features). needs_feature set nodes) c.features_of-alone.ensures ∙ sym (ap (λ b. b || needs_feature (alone c.args.feature) nodes) flags_alone)) c.are_needed.ensures
