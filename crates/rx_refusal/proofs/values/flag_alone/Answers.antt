use Rattle.std.proofs.Common.{◌≡◌, ◌∙◌, [], ◌∷◌, IfOk, encode_utf8_all, ℕ, List, subst, sym}
use Rattle.std.proofs.lemmas.Str.{chars_from_encodes}
use Rattle.rx_base.specs.DiagnosticMessage.{flag_text}
use Rattle.rx_refusal.proofs.values.flag_alone.Goals as goal

pub returns : goal.returns
returns c =
    let bytes = c.as_str.result.now in
    let told : bytes ≡ encode_utf8_all (flag_text c.args.flag) = c.as_str.ensures.value ∙ c.in_ok-text.ensures in
    let same = c.in_ok-from_str.ensures ∙ sym (chars_from_encodes (flag_text c.args.flag) bytes c.as_str.utf8 (sym told)) in
    subst (λ (text : List ℕ). IfOk c.alone.result (λ texts. texts ≡ text ∷ [])) same c.alone.ensures
