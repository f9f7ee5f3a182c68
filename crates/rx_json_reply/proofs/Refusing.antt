-- What is told of a refusal, by the form and by the text that its spans lie in as bytes.
use Rattle.std.proofs.Common.{◌≡◌, ◌∙◌, ap, ℕ, List, encode_utf8_all}
use Rattle.std.specs.Str.{IsUtf8, chars}
use Rattle.rx_base.specs.declared.diagnostic.Diagnostic.{Diagnostic}
use Rattle.rx_model.specs.declared.form.Form.{Form}
use Rattle.rx_model.specs.Inputs.Inputs.{Input}
use Rattle.rx_refusal.specs.declared.field.Field.{Field as Side}
use Rattle.rx_refusal.specs.Fields.{offset_in, text_in}
use Rattle.rx_json.specs.Refusals.{refusal_fields}
use Rattle.rx_json.proofs.Lists.{encoded}
use Rattle.rx_json_reply.specs.Parts.{refused_fields}

pub told_so : (input : Input) (side : Side) (refusal : Diagnostic) (form : Form) (bytes : List ℕ) (offset : ℕ) → form ≡ input.form → IsUtf8 bytes → chars bytes ≡ text_in input side
    → offset ≡ offset_in input side → refusal_fields form bytes offset side refusal ≡ refused_fields input side refusal
told_so input side refusal form bytes offset stands utf8 same there =
    ap (λ (form : Form). refusal_fields form bytes offset side refusal) stands
    ∙ ap (λ (bytes : List ℕ). refusal_fields input.form bytes offset side refusal) (encoded bytes (text_in input side) utf8 same)
    ∙ ap (λ (n : ℕ). refusal_fields input.form (encode_utf8_all (text_in input side)) n side refusal) there
