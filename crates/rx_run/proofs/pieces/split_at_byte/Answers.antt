use Rattle.std.proofs.lemmas.List.{take_rest}
use Rattle.rx_run.proofs.Lacking.{never_found, first_found}
use Rattle.rx_run.proofs.pieces.split_at_byte.Goals as goal

pub returns-in_err-at : goal.returns-in_err-at
returns-in_err-at c = rw c.from_residual.ensures (never_found c.args.byte c.args.bytes.now c.in_err-at.ensures)

pub returns : goal.returns
returns c = rw take_rest (first_found c.args.byte c.args.bytes.now c.in_ok-at.at c.in_ok-at.ensures)
