use Rattle.std.proofs.Common.{◌∙◌, sym, ap, subst, List}
use Rattle.std.proofs.lemmas.Result.{on_ok_weaker}
use Rattle.std.specs.Str.{IsUtf8, chars}
use Rattle.rx_model.specs.Inputs.Inputs.{Input}
use Rattle.rx_parser.specs.Inputs.{input_of}
use Rattle.rx_refusal.specs.Fields.{IsFieldOf, offset_in, text_in}
use Rattle.rx_json.specs.Adding.{Adds}
use Rattle.rx_json.specs.Values.{Field, field_tokens}
use Rattle.rx_json_reply.proofs.Refusing.{told_so}
use Rattle.rx_json_reply.proofs.answer.write_refused.Goals as goal

pub returns : goal.returns
returns c =
    let it = c.args.request.now in
    let input = input_of it.form it.pattern.now it.flags it.options in
    let side = c.in_ok-field.field in
    let places = c.in_ok-places.places in
    let utf8 : IsUtf8 places.text.now = subst IsUtf8 (sym c.in_ok-places.ensures.text) c.text_in-text.utf8 in
    let seen = c.input-input.ensures in
    let lies : IsFieldOf input c.args.refusal.now side = subst (λ (it : Input). IsFieldOf it c.args.refusal.now side) seen c.in_ok-field.ensures in
    let text = ap chars c.in_ok-places.ensures.text ∙ c.text_in-text.ensures.text ∙ ap (λ (it : Input). text_in it side) seen in
    let offset = c.in_ok-places.ensures.offset ∙ c.offset_in.ensures ∙ ap (λ (it : Input). offset_in it side) seen in
    let form = ap (λ (it : Input). it.form) seen in
    let told = told_so input side c.args.refusal.now c.input-input.result.form places.text.now places.offset form utf8 text offset in
    on_ok_weaker c.write_refusal.result
    (λ added. (side, lies, subst (λ (fields : List Field). Adds c.args.writer.now c.write_refusal.new.writer (field_tokens fields)) told added))
    c.write_refusal.ensures
