use Rattle.rx_tools.proofs.Pieces.{text_then, text_stop, failed_from}
use Rattle.rx_tools.proofs.character.write_escape.Goals as goal

pub returns-in_err-write_str : goal.returns-in_err-write_str
returns-in_err-write_str g c = text_stop _ _ c.in_err-write_str.ensures (failed_from _ _ c.from_residual.ensures.1)

pub returns : goal.returns
returns g c = text_then _ _ c.in_ok-write_str.ensures c.write_chars.ensures
