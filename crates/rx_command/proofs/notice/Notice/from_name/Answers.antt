use Rattle.std.proofs.Common.{refl, codes}
use Rattle.std.specs.Str.{chars}
use Rattle.rx_command.proofs.Commands.{no_notice}
use Rattle.rx_command.proofs.Plain.{plain_text, word_bytes, word_chars}
use Rattle.rx_command.proofs.notice.Notice.from_name.Goals as goal

pub returns-in-text : goal.returns-in-text
returns-in-text c = word_chars (codes "--help") c.args.word.now (plain_text (codes "--help") refl) c.in-text.is

pub returns-in-text-2 : goal.returns-in-text-2
returns-in-text-2 c = word_chars (codes "--version") c.args.word.now (plain_text (codes "--version") refl) c.in-text-2.is

pub returns-in_default : goal.returns-in_default
returns-in_default c = no_notice (chars c.args.word.now)
    (λ is. c.in_default.not-text (word_bytes (codes "--help") c.args.word.now (plain_text (codes "--help") refl) c.utf8.word is))
    (λ is. c.in_default.not-text-2 (word_bytes (codes "--version") c.args.word.now (plain_text (codes "--version") refl) c.utf8.word is))
