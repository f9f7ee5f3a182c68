use Rattle.std.proofs.Common.{take, encode_utf8_all}
use Rattle.rx_ast.specs.Kinds.{order, pattern as pattern_kind}
use Rattle.rx_ast.specs.Tree.{mirror}
use Rattle.rx_command.specs.Features.{has_feature}
use Rattle.rx_parser.specs.Inputs.{input_of}
use Rattle.rx_refusal.specs.declared.field.Field.TheVariants.{Flags}
use Rattle.rx_json.specs.Adding.{Adds}
use Rattle.rx_json.specs.Values.{value_tokens}
use Rattle.rx_refusal.specs.Fields.{text_in}
use Rattle.rx_json_reply.specs.Parts.{needed_among}
use Rattle.rx_json_reply.proofs.unsupported.write_needed.Given as goal

-- the names among the features so far were added
abbrev pub invariant-loop-feature : goal.invariant-loop-feature
invariant-loop-feature l =
    Adds l.fn.writer l.writer (value_tokens (needed_among (has_feature l.request.want.features) (encode_utf8_all (text_in (input_of l.request.form l.request.pattern.now l.request.flags l.request.options) Flags))
    (order (pattern_kind (mirror l.pattern))) (take l.feature-index l.features)))
