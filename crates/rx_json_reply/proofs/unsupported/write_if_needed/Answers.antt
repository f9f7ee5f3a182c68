use Rattle.std.proofs.Common.{◌≡◌, ◌∙◌, ap, true, false, encode_utf8_all}
use Rattle.rx_ast.specs.Kinds.{order, pattern as pattern_kind}
use Rattle.rx_ast.specs.Tree.{mirror}
use Rattle.rx_model.specs.Inputs.Inputs.{Input}
use Rattle.rx_command.specs.Features.{has_feature}
use Rattle.rx_parser.specs.Inputs.{input_of}
use Rattle.rx_refusal.specs.declared.field.Field.TheVariants.{Flags}
use Rattle.rx_json.proofs.Adding.{adds_one}
use Rattle.rx_refusal.specs.Fields.{text_in}
use Rattle.rx_json_reply.proofs.Told.{one_left_out, one_told, told_when}
use Rattle.rx_json_reply.proofs.unsupported.write_if_needed.Goals as goal

pub returns-then-not-branch : goal.returns-then-not-branch
returns-then-not-branch c =
    let it = c.args.request.now in
    let input = input_of it.form it.pattern.now it.flags it.options in
    let letters = c.text_in-letters.ensures.text ∙ ap (λ (it : Input). text_in it Flags) c.input.ensures in
    let asked : has_feature it.want.features c.args.feature ≡ true = cc (c.if-not-has.false, c.if-not-has.ensures, c.has.ensures) in
    let lacking : c.in_ok-is_needed.field-0 ≡ false = cc (c.if-not-branch.true) in
    let told = told_when (has_feature it.want.features) input c.args.pattern.now c.args.feature c.text_in-letters.result.now c.in_ok-is_needed.field-0 c.text_in-letters.utf8 letters c.in_ok-is_needed.ensures asked in
    one_left_out (has_feature it.want.features) (encode_utf8_all (text_in input Flags)) (order (pattern_kind (mirror c.args.pattern.now))) c.args.feature c.args.writer.now (told ∙ lacking)

pub returns : goal.returns
returns c =
    let it = c.args.request.now in
    let input = input_of it.form it.pattern.now it.flags it.options in
    let there : c.in_ok-is_needed.field-0 ≡ true = cc (c.if-not-branch.false) in
    let letters = c.text_in-letters.ensures.text ∙ ap (λ (it : Input). text_in it Flags) c.input.ensures in
    let asked : has_feature it.want.features c.args.feature ≡ true = cc (c.if-not-has.false, c.if-not-has.ensures, c.has.ensures) in
    let told = told_when (has_feature it.want.features) input c.args.pattern.now c.args.feature c.text_in-letters.result.now c.in_ok-is_needed.field-0 c.text_in-letters.utf8 letters c.in_ok-is_needed.ensures asked in
    one_told (has_feature it.want.features) (encode_utf8_all (text_in input Flags)) (order (pattern_kind (mirror c.args.pattern.now))) c.args.feature c.args.writer.now c.string.new.self (told ∙ there)
    (adds_one (rw c.name_of.ensures at c.in_ok-string.ensures))
