use Rattle.rx_units.proofs.Quoted.Exactness.{decodes, refuses}
use Rattle.rx_units.proofs.string_literal_parser.decode.Goals as goal

pub returns-clause-decodes : goal.returns-clause-decodes
returns-clause-decodes c = decodes c.args.options c.args.text.now c.decode_text.result c.decode_text.ensures.ok c.decode_text.ensures.err

pub returns-clause-refuses : goal.returns-clause-refuses
returns-clause-refuses c = refuses c.args.options c.args.text.now c.decode_text.result c.decode_text.ensures.ok c.decode_text.ensures.err
