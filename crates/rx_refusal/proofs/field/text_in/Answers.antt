use Rattle.std.proofs.Common.{◌≡◌, ◌∙◌, refl, sym, ap, ℕ, List, [], Option, Some, None, Bor, unwrap_or}
use Rattle.std.specs.Str.{chars}
use Rattle.std.proofs.lemmas.Str.{chars-nil}
use Rattle.rx_parser.specs.Inputs.{flags_chars}
use Rattle.rx_parser.specs.Texts.{seen_input}
use Rattle.rx_refusal.specs.Fields.{text_in}
use Rattle.rx_refusal.proofs.field.text_in.Goals as goal

-- the characters of flags, or of nothing
flags_text : (flags : Option (Bor (List ℕ))) (nothing text : Bor (List ℕ)) → text ≡ unwrap_or flags nothing → nothing.now ≡ [] → chars text.now ≡ unwrap_or (flags_chars flags) []
flags_text None nothing text is empty = ap (λ (t : Bor (List ℕ)). chars t.now) is ∙ ap chars empty ∙ chars-nil
flags_text (Some flags) nothing text is empty = ap (λ (t : Bor (List ℕ)). chars t.now) is

pub returns-in-Flags-clause-text : goal.returns-in-Flags-clause-text
returns-in-Flags-clause-text c =
    let it = c.args.input.now in
    let same = flags_text it.flags_text _ c.unwrap_or.result c.unwrap_or.ensures refl in
    same ∙ sym (ap (text_in (seen_input it)) c.in-Flags.is)
