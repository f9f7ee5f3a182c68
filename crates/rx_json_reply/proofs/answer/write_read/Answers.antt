use Rattle.rx_parser.specs.Inputs as parser
use Rattle.rx_json_reply.proofs.Told.{all_told}
use Rattle.rx_json_reply.proofs.answer.write_read.Goals as goal

pub returns : goal.returns
returns c = λ names is.
    let it = c.args.request.now in
    let input = parser.input_of it.form it.pattern.now it.flags it.options in
    all_told c.write_display.result _ _ _ _ _ _ input it.want names c.args.mode c.args.pattern.now is
    (rw c.mode_name.ensures at c.in_ok-write_text.ensures)
    c.in_ok-write_spelling.ensures
    c.in_ok-write_placed.ensures
    c.in_ok-write_unsupported.ensures
    c.write_display.ensures
