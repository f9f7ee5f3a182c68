use Rattle.rx_parser.proofs.StandIns.{empty_literal, literal_stands}
use Rattle.rx_parser.proofs.input.literal_text.Goals as goal

pub returns-in-empty-clause-text : goal.returns-in-empty-clause-text
returns-in-empty-clause-text c = empty_literal c.args.text.now c.in-empty.is

pub returns-in_default-clause-text : goal.returns-in_default-clause-text
returns-in_default-clause-text c = literal_stands c.args.text.now c.utf8.text c.in_default.not-empty
