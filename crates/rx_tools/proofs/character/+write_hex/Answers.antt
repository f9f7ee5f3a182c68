use Rattle.rx_base.proofs.Writing.{written_none}
use Rattle.rx_tools.proofs.Hexadecimal.{hex_none, hex_more, hex_one}
use Rattle.rx_tools.proofs.Pieces.{text_then, text_stop, failed_from}
use Rattle.rx_tools.proofs.character.+write_hex.Goals as goal
use Rattle.rx_tools.proofs.character.+write_hex.Goals.{then-n-ge16+in_ok-write_hex, else-n-ge16}

pub returns-then-places-eq0 : goal.returns-then-places-eq0
returns-then-places-eq0 g t c = rw (hex_none c.args.places c.args.n c.if-places-eq0.true) (written_none _ _ _ _ _)

pub returns-in_err-write_hex : goal.returns-in_err-write_hex
returns-in_err-write_hex g t c = rw (hex_more c.args.places c.args.n c.if-places-eq0.false c.if-n-ge16.true)
    (text_stop _ _ c.in_err-write_hex.ensures (failed_from _ _ c.from_residual.ensures.1))

pub returns : goal.returns
returns g t c = elim c.if-n-ge16.branch [
  | then-n-ge16+in_ok-write_hex w ↦ rw (hex_more c.args.places c.args.n c.if-places-eq0.false w.if-n-ge16.true, ← c.hex_digit.ensures.text)
      (text_then _ _ w.in_ok-write_hex.ensures (rw (← w.sink-is) c.write_ascii.ensures))
  | else-n-ge16 w ↦ rw (hex_one c.args.places c.args.n c.if-places-eq0.false w.if-n-ge16.false, ← c.hex_digit.ensures.text) (rw (← w.sink-is) c.write_ascii.ensures)
]
