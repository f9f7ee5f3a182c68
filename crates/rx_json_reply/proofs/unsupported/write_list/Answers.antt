use Rattle.std.proofs.Common.{◌∷◌, [], ◌++◌, sym, subst, codes, encode_utf8_all, List}
use Rattle.json.specs.Json.{Json}
use Rattle.json.specs.Token.{Token, begin_array, end_array, key}
use Rattle.rx_ast.specs.Kinds.{order, pattern as pattern_kind}
use Rattle.rx_ast.specs.Tree.{mirror}
use Rattle.rx_command.specs.Features.{has_feature}
use Rattle.rx_parser.specs.Inputs.{input_of}
use Rattle.rx_refusal.specs.declared.field.Field.TheVariants.{Flags}
use Rattle.rx_json.specs.Adding.{Adds}
use Rattle.rx_json.specs.Values.{value_tokens}
use Rattle.rx_json.proofs.Adding.{adds_one, adds_then}
use Rattle.rx_refusal.specs.Fields.{text_in}
use Rattle.rx_json_reply.specs.Parts.{needed_among}
use Rattle.rx_json_reply.specs.Wants.{features}
use Rattle.rx_json_reply.proofs.Joining.{list_field}
use Rattle.rx_json_reply.proofs.unsupported.write_list.Goals as goal

pub returns : goal.returns
returns c =
    let it = c.args.request.now in
    let js : List Json = needed_among (has_feature it.want.features) (encode_utf8_all (text_in (input_of it.form it.pattern.now it.flags it.options) Flags)) (order (pattern_kind (mirror c.args.pattern.now))) features in
    subst (λ (ts : List Token). Adds c.args.writer.now c.end_array.new.self ts) (sym (list_field (codes "unsupported") js))
    (adds_then _ _ _ (key (codes "unsupported") ∷ []) (begin_array ∷ (value_tokens js ++ end_array ∷ [])) (adds_one c.in_ok-key.ensures)
    (adds_then _ _ _ (begin_array ∷ []) (value_tokens js ++ end_array ∷ []) (adds_one c.in_ok-begin_array.ensures)
    (adds_then _ _ _ (value_tokens js) (end_array ∷ []) c.in_ok-write_needed.ensures (adds_one c.in_ok-end_array.ensures))))
