use Rattle.std.proofs.Common.{◌++◌, codes}
use Rattle.std.specs.Str.{chars}
use Rattle.rx_model.specs.Spelling.ClassText.{strings_text}
use Rattle.rx_tools.proofs.Pieces.{text_then, text_stop, failed_from}
use Rattle.rx_tools.proofs.class.write_string_disjunction.Goals as goal

pub returns-in_err-write_str : goal.returns-in_err-write_str
unfolding chars
returns-in_err-write_str g c = text_stop (codes "\\q{") (strings_text c.args.mode c.args.it.now.body ++ codes "}") c.in_err-write_str.ensures (failed_from _ _ c.from_residual.ensures.1)

pub returns-in_err-write_strings : goal.returns-in_err-write_strings
unfolding chars
returns-in_err-write_strings g c =
    text_then (codes "\\q{") (strings_text c.args.mode c.args.it.now.body ++ codes "}") c.in_ok-write_str.ensures
    (text_stop (strings_text c.args.mode c.args.it.now.body) (codes "}") (rw c.as_slice.ensures at c.in_err-write_strings.ensures) (failed_from _ _ c.from_residual-in_err-write_strings.ensures.1))

pub returns : goal.returns
unfolding chars
returns g c =
    text_then (codes "\\q{") (strings_text c.args.mode c.args.it.now.body ++ codes "}") c.in_ok-write_str.ensures
    (text_then (strings_text c.args.mode c.args.it.now.body) (codes "}") (rw c.as_slice.ensures at c.in_ok-write_strings.ensures) c.write_char.ensures)
