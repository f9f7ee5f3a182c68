use Rattle.std.proofs.Common.{refl, ap, List, ℕ, [], ◌∷◌, codes}
use Rattle.std.specs.Str.{chars}
use Rattle.rx_command.proofs.Commands.{one_says_nothing}
use Rattle.rx_command.proofs.Plain.{plain_text, word_bytes, word_chars}
use Rattle.rx_command.proofs.answer.one_word.Goals as goal

pub returns-in-display : goal.returns-in-display
returns-in-display c = ap (λ (word : List ℕ). word ∷ []) (word_chars (codes "display") c.args.word.now (plain_text (codes "display") refl) c.in-display.is)

pub returns-in-paint : goal.returns-in-paint
returns-in-paint c = ap (λ (word : List ℕ). word ∷ []) (word_chars (codes "paint") c.args.word.now (plain_text (codes "paint") refl) c.in-paint.is)

pub returns-in-lint : goal.returns-in-lint
returns-in-lint c = ap (λ (word : List ℕ). word ∷ []) (word_chars (codes "lint") c.args.word.now (plain_text (codes "lint") refl) c.in-lint.is)

pub returns-in-rewrite : goal.returns-in-rewrite
returns-in-rewrite c = ap (λ (word : List ℕ). word ∷ []) (word_chars (codes "rewrite") c.args.word.now (plain_text (codes "rewrite") refl) c.in-rewrite.is)

pub returns-in_default : goal.returns-in_default
returns-in_default c = one_says_nothing (chars c.args.word.now)
    (λ is. c.in_default.not-display (word_bytes (codes "display") c.args.word.now (plain_text (codes "display") refl) c.utf8.word is))
    (λ is. c.in_default.not-paint (word_bytes (codes "paint") c.args.word.now (plain_text (codes "paint") refl) c.utf8.word is))
    (λ is. c.in_default.not-lint (word_bytes (codes "lint") c.args.word.now (plain_text (codes "lint") refl) c.utf8.word is))
    (λ is. c.in_default.not-rewrite (word_bytes (codes "rewrite") c.args.word.now (plain_text (codes "rewrite") refl) c.utf8.word is))
