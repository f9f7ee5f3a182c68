use Rattle.std.proofs.Common.{◌++◌, codes}
use Rattle.std.specs.Str.{chars}
use Rattle.rx_model.specs.Spelling.CharacterText.{in_braces_text, hex}
use Rattle.rx_tools.proofs.Pieces.{text_then, text_stop, failed_from}
use Rattle.rx_tools.proofs.character.write_braced.Goals as goal

pub returns-in_err-write_str : goal.returns-in_err-write_str
unfolding in_braces_text chars
returns-in_err-write_str g c = text_stop (codes "\\u{") (hex 8 c.args.c ++ codes "}") c.in_err-write_str.ensures (failed_from _ _ c.from_residual.ensures.1)

pub returns-in_err-write_hex : goal.returns-in_err-write_hex
unfolding in_braces_text chars
returns-in_err-write_hex g c =
    text_then (codes "\\u{") (hex 8 c.args.c ++ codes "}") c.in_ok-write_str.ensures
    (text_stop (hex 8 c.args.c) (codes "}") c.in_err-write_hex.ensures (failed_from _ _ c.from_residual-in_err-write_hex.ensures.1))

pub returns : goal.returns
unfolding in_braces_text chars
returns g c = text_then (codes "\\u{") (hex 8 c.args.c ++ codes "}") c.in_ok-write_str.ensures (text_then (hex 8 c.args.c) (codes "}") c.in_ok-write_hex.ensures c.write_char.ensures)
