use Rattle.rx_parser.proofs.StandIns.{empty_quoted, quoted_stands}
use Rattle.rx_parser.proofs.input.quoted_text.Goals as goal

pub returns-in-text-clause-text : goal.returns-in-text-clause-text
returns-in-text-clause-text c = empty_quoted c.args.text.now c.in-text.is

pub returns-in_default-clause-text : goal.returns-in_default-clause-text
returns-in_default-clause-text c =
    quoted_stands c.args.text.now c.utf8.text c.in_default.not-text c.in_default.not-text-2 c.in_default.not-text-3
