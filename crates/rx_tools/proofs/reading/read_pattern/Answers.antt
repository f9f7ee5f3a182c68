use Rattle.rx_parser.specs.Inputs.{input_of}
use Rattle.rx_tools.proofs.CanonicalAnswers.{text_points, with_spelling}
use Rattle.rx_tools.proofs.reading.read_pattern.Goals as goal

pub returns : goal.returns
returns c =
    let it = c.args in
    record {
      headline = with_spelling (input_of it.form it.pattern_text.now it.flags_text it.options) (text_points it.pattern_text.now c.utf8.pattern_text) c.parse.result c.parse.ensures.answered c.parse.ensures.mode;
    }
