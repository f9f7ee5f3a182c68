use Rattle.std.proofs.Common.{[], ◌∷◌}
use Rattle.rx_tools.proofs.Pieces.{text_then, text_stop, failed_from}
use Rattle.rx_tools.proofs.class.write_opener.Goals as goal

pub returns-in_err-write_char : goal.returns-in_err-write_char
returns-in_err-write_char g c = rw c.if-negative.true (text_stop (91 ∷ []) (94 ∷ []) c.in_err-write_char.ensures (failed_from _ _ c.from_residual.ensures.1))

pub returns-in_ok-write_char : goal.returns-in_ok-write_char
returns-in_ok-write_char g c = rw c.if-negative.true (text_then (91 ∷ []) (94 ∷ []) c.in_ok-write_char.ensures c.write_char-then-negative.ensures)
