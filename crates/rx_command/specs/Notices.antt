-- The texts in which the program tells of itself.
use Rattle.std.specs.Prelude.{ℕ, List, codes}
use Rattle.rx_command.specs.declared.notice.Notice.{Notice}
use Rattle.rx_command.specs.declared.notice.Notice.TheVariants.{Help, Version}
use Rattle.rx_command.specs.declared.notice.TheConstants.{HELP, VERSION}

-- the word that asks for a text
abbrev pub notice_word : Notice → List ℕ
notice_word Help = codes "--help"
notice_word Version = codes "--version"

-- the text, in bytes
unfoldable pub notice_text : Notice → List ℕ
notice_text Help = HELP.now
notice_text Version = VERSION.now
