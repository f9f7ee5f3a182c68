use Rattle.std.proofs.Common.{[], ◌∷◌}
use Rattle.rx_tools.proofs.Pieces.{text_then, text_stop, failed_from}
use Rattle.rx_tools.proofs.character.write_escaped.Goals as goal

pub returns-in_err-write_char : goal.returns-in_err-write_char
returns-in_err-write_char g c = text_stop (92 ∷ []) (c.args.c ∷ []) c.in_err-write_char.ensures (failed_from _ _ c.from_residual.ensures.1)

pub returns : goal.returns
returns g c = text_then (92 ∷ []) (c.args.c ∷ []) c.in_ok-write_char.ensures (rw c.character.ensures at c.write_char-2.ensures)
