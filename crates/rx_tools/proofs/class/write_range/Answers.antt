use Rattle.std.proofs.Common.{◌++◌, codes}
use Rattle.rx_model.specs.Spelling.ClassText.{in_class_text}
use Rattle.rx_tools.proofs.Pieces.{text_then, text_stop, failed_from}
use Rattle.rx_tools.proofs.class.write_range.Goals as goal

pub returns-in_err-write_character : goal.returns-in_err-write_character
returns-in_err-write_character g c = text_stop _ (codes "-" ++ in_class_text c.args.mode c.args.it.now.max) c.in_err-write_character.ensures (failed_from _ _ c.from_residual.ensures.1)

pub returns-in_err-write_char : goal.returns-in_err-write_char
returns-in_err-write_char g c =
    text_then _ (codes "-" ++ in_class_text c.args.mode c.args.it.now.max) c.in_ok-write_character.ensures
    (text_stop (codes "-") (in_class_text c.args.mode c.args.it.now.max) c.in_err-write_char.ensures (failed_from _ _ c.from_residual-in_err-write_char.ensures.1))

pub returns : goal.returns
returns g c =
    text_then _ (codes "-" ++ in_class_text c.args.mode c.args.it.now.max) c.in_ok-write_character.ensures
    (text_then (codes "-") (in_class_text c.args.mode c.args.it.now.max) c.in_ok-write_char.ensures c.write_character-2.ensures)
