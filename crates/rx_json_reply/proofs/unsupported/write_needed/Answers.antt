use Rattle.std.proofs.Common.{encode_utf8_all}
use Rattle.rx_ast.specs.Kinds.{order, pattern as pattern_kind}
use Rattle.rx_ast.specs.Tree.{mirror}
use Rattle.rx_command.specs.Features.{has_feature}
use Rattle.rx_parser.specs.Inputs.{input_of}
use Rattle.rx_refusal.specs.declared.field.Field.TheVariants.{Flags}
use Rattle.rx_refusal.specs.Fields.{text_in}
use Rattle.rx_json_reply.proofs.Told.{needed_step}
use Rattle.rx_json_reply.proofs.unsupported.write_needed.Goals as goal

pub loop-feature-preserved : goal.loop-feature-preserved
loop-feature-preserved c =
    let it = c.args.request.now in
    needed_step (has_feature it.want.features) (encode_utf8_all (text_in (input_of it.form it.pattern.now it.flags it.options) Flags)) (order (pattern_kind (mirror c.args.pattern.now)))
    c.args.features.now c.loop-feature.feature-index _ _ _ _ c.loop-feature-test.true c.loop-feature.invariant c.in_ok-write_if_needed.ensures
