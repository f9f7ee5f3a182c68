use Rattle.std.proofs.Common.{◌≡◌, ◌∙◌, refl, ap, List, ℕ, [], ◌∷◌, codes, arith}
use Rattle.std.specs.Str.{chars}
use Rattle.std.proofs.lemmas.Grind.{common_steps}
use Rattle.rx_command.proofs.Plain.{plain_text, word_bytes, word_chars}
use Rattle.rx_command.proofs.command.are_json.Goals as goal

pub returns-in-len1 : goal.returns-in-len1
returns-in-len1 c =
    let word = c.as_str.result.now in
    let words_are : c.args.words.now ≡ chars word ∷ [] = grind (arith, common_steps) in
    let plain = plain_text (codes "json") refl in (
      λ holds. words_are ∙ ap (λ (w : List ℕ). w ∷ []) (word_chars (codes "json") word plain (c.is_json.ensures.0 holds)),
      λ is. let same : chars word ≡ codes "json" = cc in c.is_json.ensures.1 (word_bytes (codes "json") word plain c.as_str.utf8 same),
    )
