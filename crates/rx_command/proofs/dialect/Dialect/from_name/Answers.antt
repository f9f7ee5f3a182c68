use Rattle.std.proofs.Common.{refl, sym, ap, List, ℕ, [], ◌∷◌, codes}
use Rattle.std.specs.Str.{chars}
use Rattle.rx_command.proofs.Commands.{no_dialect}
use Rattle.rx_command.proofs.Plain.{plain_text, word_bytes, word_chars}
use Rattle.rx_command.proofs.dialect.Dialect.from_name.Goals as goal

pub returns-in-strict : goal.returns-in-strict
returns-in-strict c = ap (λ (word : List ℕ). word ∷ []) (sym (word_chars (codes "strict") c.args.word.now (plain_text (codes "strict") refl) c.in-strict.is))

pub returns-in-standard : goal.returns-in-standard
returns-in-standard c = ap (λ (word : List ℕ). word ∷ []) (sym (word_chars (codes "standard") c.args.word.now (plain_text (codes "standard") refl) c.in-standard.is))

pub returns-in_default : goal.returns-in_default
returns-in_default c = no_dialect (chars c.args.word.now)
    (λ is. c.in_default.not-strict (word_bytes (codes "strict") c.args.word.now (plain_text (codes "strict") refl) c.utf8.word is))
    (λ is. c.in_default.not-standard (word_bytes (codes "standard") c.args.word.now (plain_text (codes "standard") refl) c.utf8.word is))
