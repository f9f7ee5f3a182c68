use Rattle.std.proofs.Common.{◌≡◌, ◌∙◌, refl, sym, ap, List, ℕ, [], Option, Some, None, Bor}
use Rattle.std.specs.Option.{unwrap_or}
use Rattle.std.specs.Str.{IsUtf8, chars, encode_utf8_all}
use Rattle.std.proofs.lemmas.Str.{encodes-chars}
use Rattle.rx_parser.specs.Inputs.{flags_chars}
use Rattle.rx_run.specs.Reply.{flags_bytes}
use Rattle.rx_run.proofs.request.Request.flags_field.Goals as goal

field : (flags : Option (Bor (List ℕ))) (empty result : Bor (List ℕ)) → result ≡ unwrap_or flags empty → empty.now ≡ [] → IsUtf8 result.now → result.now ≡ flags_bytes (flags_chars flags)
field None empty result is none utf8 = ap (λ (r : Bor (List ℕ)). r.now) is ∙ none
field (Some text) empty result is none utf8 = sym (encodes-chars result.now utf8) ∙ ap (λ (r : Bor (List ℕ)). encode_utf8_all (chars r.now)) is

pub returns : goal.returns
returns c = field c.args.self.now.flags _ c.unwrap_or.result c.unwrap_or.ensures refl c.unwrap_or.utf8
